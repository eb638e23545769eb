-- Back from a file: the survey that its bytes say, and whether they are the stored form of one.
-- Assumes nothing.
use Rattle.std.specs.Prelude.{Bool, false, cond, not, ◌&&◌, List, ℕ, zero, suc, ◌+◌, ◌*◌, ◌-◌, ◌/◌, ◌%◌, eqb, get_or, drop}
use Rattle.coding.specs.Bytes.{number}
use Rattle.coding.specs.Bits.{ones_before}
use Rattle.coding.specs.Sections.{bits_at, after_bytes, after_bits, list_at, same}
use Rattle.survey.specs.Level.{turned}
use Rattle.survey.specs.Raster.{Raster, is_survey}
use Rattle.survey.specs.Sides.{depth_for}
use Rattle.survey.specs.Order.{Lists}
use Rattle.survey.specs.File.{file_of}

-- the heading's numbers
abbrev pub rows_in : List ℕ → ℕ
rows_in f = number (drop 4 f)

abbrev pub columns_in : List ℕ → ℕ
columns_in f = number (drop 8 f)

abbrev pub greatest_in : List ℕ → ℕ
greatest_in f = turned (number (drop 12 f))

abbrev pub least_in : List ℕ → ℕ
least_in f = turned (number (drop 16 f))

-- what stands behind the five sections of a list
abbrev pub after_list : List ℕ → List ℕ
after_list s = after_bytes (after_bits (after_bytes (after_bits (after_bytes s))))

unfoldable pub lists_in : List ℕ → Lists
lists_in f =
    let s = drop 20 f in
    record { split_marks = bits_at s; lmax = list_at (after_bits s); lmin = list_at (after_list (after_bits s)) }

-- ---- a level

-- in which row (or column) of squares of this depth a row (or column) of cells lies
abbrev pub block_of : ℕ → ℕ → ℕ
block_of zero y = y
block_of (suc k) y = block_of k y / 2

-- which quarter of a square of depth k + 1 the cell lies in
abbrev pub way_to : ℕ → ℕ → ℕ → ℕ
way_to y x k = 2 * (block_of k y % 2) + block_of k x % 2

module _ (L : Lists) (way : ℕ → ℕ) where
  -- going down from the square of depth k at place z, whose parent's greatest is g: the quarters of a split square at z stand
  -- from four times the count of ones in T up to and including z
  abbrev pub level_below : ℕ → ℕ → ℕ → ℕ
  level_below zero z g = g - get_or L.lmax z 0
  level_below (suc k) z g =
      cond (get_or L.split_marks z false) (level_below k (4 * ones_before L.split_marks (suc z) + way k) (g - get_or L.lmax z 0))
      (g - get_or L.lmax z 0)

  -- from the whole square, whose greatest is g; of an even survey nothing is stored below it
  abbrev pub level_from : ℕ → Bool → ℕ → ℕ
  level_from zero split g = g
  level_from (suc k) split g = cond split (level_below k (way k) g) g

-- the level at a row and a column
unfoldable pub level_in : List ℕ → ℕ → ℕ → ℕ
level_in f y x =
    level_from (lists_in f) (way_to y x) (depth_for (rows_in f) (columns_in f)) (not (eqb (greatest_in f) (least_in f))) (greatest_in f)

-- ---- the survey

unfoldable pub survey_in : List ℕ → Raster
survey_in f = record { rows = rows_in f; columns = columns_in f; level = level_in f }

-- whether bytes are the stored form of some survey within the limits: what they say, stored again, is they
unfoldable pub is_file : List ℕ → Bool
is_file f = is_survey (survey_in f) && same (file_of (survey_in f)) f
