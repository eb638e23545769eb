-- Sides: the least power of two not below rows and columns. Its depth says how often it halves down to a single cell.
-- Assumes nothing.
use Rattle.std.specs.Prelude.{ℕ, zero, suc, ◌+◌, ◌*◌, ◌^◌, max, ltb}
use Rattle.coding.specs.Bits.{bit}
use Rattle.survey.specs.Raster.{Raster}
use Rattle.survey.specs.declared.sides.Side.{Side}

-- the depth of the largest side
abbrev pub depth_limit : ℕ
depth_limit = 10

-- how many of the powers of two below 2 ^ d are below n
abbrev pub powers_below : ℕ → ℕ → ℕ
powers_below zero n = 0
powers_below (suc d) n = powers_below d n + bit (ltb (2 ^ d) n)

-- the depth of the side for so many rows and columns
unfoldable pub depth_for : ℕ → ℕ → ℕ
depth_for rows columns = powers_below depth_limit (max rows columns)

abbrev pub depth_of : Raster → ℕ
depth_of A = depth_for A.rows A.columns

-- the most entries of a tree of this depth: 0, 4, 20, 84, ..; its most split marks are those of the depth before
abbrev pub most_entries : ℕ → ℕ
most_entries zero = 0
most_entries (suc d) = 4 + 4 * most_entries d

-- THE TABLE: for each of the eleven sides, its depth and the most entries
abbrev pub side_of : ℕ → Side
side_of d = record { side = 2 ^ d; depth = d; entries = most_entries d }
