-- Squares, their quarters, and their greatest and least levels.
-- Assumes nothing.
use Rattle.std.specs.Prelude.{Bool, true, false, not, ℕ, zero, suc, ◌+◌, ◌*◌, ◌/◌, ◌%◌, min, max, eqb}
use Rattle.survey.specs.Raster.{Raster, is_real}
use Rattle.survey.specs.Sides.{depth_of}

-- the square of side 2 ^ depth in this row and this column of such squares, counted from 0; of depth 0, a single cell
pub record Square : Type 0 where
  pub depth : ℕ
  pub row : ℕ
  pub column : ℕ

abbrev pub square : ℕ → ℕ → ℕ → Square
square k r c = record { depth = k; row = r; column = c }

-- one less, and 0 at 0
abbrev pub below : ℕ → ℕ
below zero = zero
below (suc k) = k

-- quarters 0 to 3: upper left, upper right, lower left, lower right
abbrev pub quarter : Square → ℕ → Square
quarter s i = square (below s.depth) (2 * s.row + i / 2) (2 * s.column + i % 2)

-- the square that it is a quarter of
abbrev pub around : Square → Square
around s = square (suc s.depth) (s.row / 2) (s.column / 2)

-- the whole square of a raster
abbrev pub whole : Raster → Square
whole A = square (depth_of A) 0 0

-- ---- greatest and least

-- of the real cells of a square: none, or their greatest and least
pub data Bounds : Type 0 where
  none : Bounds
  span : ℕ → ℕ → Bounds

abbrev pub join : Bounds → Bounds → Bounds
join none q = q
join (span g l) none = span g l
join (span g l) (span h m) = span (max g h) (min l m)

abbrev pub bounds_if : Bool → ℕ → Bounds
bounds_if true v = span v v
bounds_if false v = none

-- the four pairs of the quarters, in order, make the pair of the square above
abbrev pub fold : Bounds → Bounds → Bounds → Bounds → Bounds
fold a b c d = join a (join b (join c d))

abbrev pub bounds_at : Raster → ℕ → ℕ → ℕ → Bounds
bounds_at A zero r c = bounds_if (is_real A r c) (A.level r c)
bounds_at A (suc k) r c =
    fold (bounds_at A k (2 * r) (2 * c)) (bounds_at A k (2 * r) (2 * c + 1))
    (bounds_at A k (2 * r + 1) (2 * c)) (bounds_at A k (2 * r + 1) (2 * c + 1))

unfoldable pub bounds_of : Raster → Square → Bounds
bounds_of A s = bounds_at A s.depth s.row s.column

-- the greatest and the least, and what to take where there is none
abbrev pub greatest_or : ℕ → Bounds → ℕ
greatest_or d none = d
greatest_or d (span g l) = g

abbrev pub least_or : ℕ → Bounds → ℕ
least_or d none = d
least_or d (span g l) = l

-- even: all real cells are equal, or there are none
abbrev pub is_uneven : Bounds → Bool
is_uneven none = false
is_uneven (span g l) = not (eqb g l)
