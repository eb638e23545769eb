-- The key of a cell, and the list of a window's cells in a band, in order of key.
-- Assumes nothing.
use Rattle.std.specs.Prelude.{Bool, true, false, ◌&&◌, List, [], ◌∷◌, ℕ, zero, suc, ◌+◌, ◌*◌, ◌/◌, ◌%◌, ◌^◌}
use Rattle.survey.specs.Raster.{Raster, list_to}
use Rattle.survey.specs.Sides.{depth_limit, depth_of}
use Rattle.survey.specs.Window.{Window, in_window, in_band}

-- the spread of n moves the digit of weight 2 ^ j to weight 4 ^ j, for d digits
abbrev pub spread_of : ℕ → ℕ → ℕ
spread_of zero n = 0
spread_of (suc d) n = n % 2 + 4 * spread_of d (n / 2)

abbrev pub spread : ℕ → ℕ
spread n = spread_of depth_limit n

-- the key of a cell
abbrev pub key_of : ℕ → ℕ → ℕ
key_of y x = 2 * spread y + spread x

-- and back: the digits of weight 4 ^ j moved to weight 2 ^ j
abbrev pub gather_of : ℕ → ℕ → ℕ
gather_of zero k = 0
gather_of (suc d) k = k % 2 + 2 * gather_of d (k / 4)

abbrev pub row_of : ℕ → ℕ
row_of k = gather_of depth_limit (k / 2)

abbrev pub column_of : ℕ → ℕ
column_of k = gather_of depth_limit k

-- ---- the list

-- whether a cell is listed
abbrev pub is_listed : Raster → Window → ℕ → ℕ → ℕ → ℕ → Bool
is_listed A w lo hi y x = in_window w y x && in_band lo hi (A.level y x)

abbrev pub one_if : Bool → ℕ → List ℕ
one_if true n = n ∷ []
one_if false n = []

-- key after key, the number of the cell that has it, if that cell is listed
unfoldable pub listed_in : Raster → Window → ℕ → ℕ → List ℕ
listed_in A w lo hi =
    list_to (4 ^ depth_of A) (λ k. one_if (is_listed A w lo hi (row_of k) (column_of k)) (row_of k * A.columns + column_of k))
