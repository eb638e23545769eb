-- The summary of a window.
-- Assumes nothing.
use Rattle.std.specs.Prelude.{ℕ, zero, suc, ◌+◌, ◌*◌, ◌/◌, ℤ, pos, negsuc, neg_ℤ}
use Rattle.std.proofs.Math.IntN.{sub_ℕ}
use Rattle.survey.specs.Raster.{Raster}
use Rattle.survey.specs.Square.{Bounds, none, span, join}
use Rattle.survey.specs.Window.{Window}

-- f 0 + f 1 + .. + f (n - 1)
abbrev pub sum_to : ℕ → (ℕ → ℕ) → ℕ
sum_to zero f = 0
sum_to (suc n) f = sum_to n f + f n

abbrev pub join_to : ℕ → (ℕ → Bounds) → Bounds
join_to zero f = none
join_to (suc n) f = join (join_to n f) (f n)

abbrev pub count_in : Window → ℕ
count_in w = w.height * w.width

-- the sum of the levels: that of the raised levels, less what each was raised by
unfoldable pub sum_in : Raster → Window → ℤ
sum_in A w =
    sub_ℕ (sum_to w.height (λ y. sum_to w.width (λ x. A.level (w.top + y) (w.left + x)))) (count_in w * 2147483648)

unfoldable pub bounds_in : Raster → Window → Bounds
bounds_in A w =
    join_to w.height
    (λ y. join_to w.width (λ x. span (A.level (w.top + y) (w.left + x)) (A.level (w.top + y) (w.left + x))))

-- THE MEAN: the sum divided by the count, the fraction dropped, toward zero
unfoldable pub mean_of : ℤ → ℕ → ℤ
mean_of (pos n) count = pos (n / count)
mean_of (negsuc n) count = neg_ℤ (pos (suc n / count))
