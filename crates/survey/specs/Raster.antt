-- Rasters: rows, columns, and the raised level at each row and column. Only the cells within the rows and columns are real.
-- Assumes nothing.
use Rattle.std.specs.Prelude.{Bool, true, ◌&&◌, List, [], ◌++◌, ℕ, zero, suc, ◌+◌, ◌*◌, leb, ltb, ℤ, pos, get_or}
use Rattle.survey.specs.Level.{raised, is_level}

pub record Raster : Type 0 where
  pub rows : ℕ
  pub columns : ℕ
  pub level : ℕ → ℕ → ℕ

-- the raster of lent levels, cells lying row by row
abbrev pub raster_of : List ℤ → ℕ → ℕ → Raster
raster_of s rows columns = record {
  rows = rows;
  columns = columns;
  level = λ y x. raised (get_or s (y * columns + x) (pos 0));
}

abbrev pub is_real : Raster → ℕ → ℕ → Bool
is_real A y x = ltb y A.rows && ltb x A.columns

-- ---- limits

-- the most rows, and the most columns
abbrev pub side_limit : ℕ
side_limit = 1024

abbrev pub in_limits : ℕ → Bool
in_limits n = leb 1 n && leb n side_limit

-- f holds at 0, 1, .. and n - 1
abbrev pub every_to : ℕ → (ℕ → Bool) → Bool
every_to zero f = true
every_to (suc n) f = every_to n f && f n

-- a survey within the limits
unfoldable pub is_survey : Raster → Bool
is_survey A = in_limits A.rows && (in_limits A.columns && every_to A.rows (λ y. every_to A.columns (λ x. is_level (A.level y x))))

-- ---- what f gives at 0, 1, .. and n - 1, one after the other

abbrev pub list_to {ℓ} : {B : Type ℓ} → ℕ → (ℕ → List B) → List B
list_to zero f = []
list_to (suc n) f = list_to n f ++ f n
