-- The tree of a raster: which squares are in it, and its split marks, Lmax and Lmin.
-- Assumes nothing.
use Rattle.std.specs.Prelude.{Bool, true, ◌&&◌, ℕ, zero, suc, ◌-◌, ◌/◌}
use Rattle.survey.specs.Raster.{Raster}
use Rattle.survey.specs.Sides.{depth_of}
use Rattle.survey.specs.Square.{Square, square, quarter, around, bounds_of, greatest_or, least_or, is_uneven}
use Rattle.survey.specs.Order.{Shape, Lists, no_lists, kids_if, form}

-- the split mark of a square: 1 if it is not even
abbrev pub is_split : Raster → Square → Bool
is_split A s = is_uneven (bounds_of A s)

-- Lmax: the parent's greatest less its own; a square with no real cell counts as having its parent's
abbrev pub greatest_drop : Raster → Square → ℕ
greatest_drop A s =
    let g = greatest_or 0 (bounds_of A (around s)) in
    g - greatest_or g (bounds_of A s)

-- Lmin: its least less its parent's
abbrev pub least_rise : Raster → Square → ℕ
least_rise A s =
    let l = least_or 0 (bounds_of A (around s)) in
    least_or l (bounds_of A s) - l

abbrev pub squares : Raster → Shape Square
squares A = record { mark = is_split A; kid = quarter; dmax = greatest_drop A; dmin = least_rise A }

-- the lists of the tree whose whole square has this depth: the quarters of the whole square are in it exactly if it is not even
abbrev pub lists_from : Raster → ℕ → Lists
lists_from A zero = no_lists
lists_from A (suc h) = form (squares A) h (kids_if (squares A) (is_split A (square (suc h) 0 0)) (square (suc h) 0 0))

unfoldable pub lists_of : Raster → Lists
lists_of A = lists_from A (depth_of A)

-- presence: the whole square, no steps down, is in the tree; a quarter is exactly if the square around it is in the tree and is not even.
-- The square has depth k and lies so many steps below the whole square.
abbrev pub is_present : Raster → ℕ → ℕ → ℕ → ℕ → Bool
is_present A zero k r c = true
is_present A (suc steps) k r c = is_present A steps (suc k) (r / 2) (c / 2) && is_split A (square (suc k) (r / 2) (c / 2))
