-- How long the lists of a tree can be: the table of sides bounds them; and that an even survey has none.
-- Assumes nothing.
use mathlib.Core.Path.{◌≡◌, refl, ap, ◌∙◌}
use mathlib.Core.Bool.{Bool, true, false}
use mathlib.Core.List.{List, [], ◌∷◌}
use Prim.Native.Nat.{ℕ, zero, suc, ◌*◌, ◌≤◌}
use native.Mathlib.Nat.{mul-le-mul_right}
use native.Mathlib.Omega.{arith}
use lib.ListN.{length, length-append, length-map}
use Rattle.coding.specs.Bits.{bit}
use Rattle.survey.specs.Raster.{Raster}
use Rattle.survey.specs.Sides.{most_entries}
use Rattle.survey.specs.Square.{square}
use Rattle.survey.specs.Order.{Shape, Lists, no_lists, kids_if, next, levels, keep_if, split_of, form}
use Rattle.survey.specs.Tree.{is_split, squares, lists_from}
use Rattle.survey.proofs.Laws.Order.{length-kids}
use Rattle.survey.proofs.Laws.Form.{form-nil}

-- no longer than the lists of at most four squares and the k levels below them
pub record Short (L : Lists) (k : ℕ) : Type 0 where
  pub t_short : length L.split_marks ≤ most_entries k
  pub max_short : length L.lmax ≤ most_entries (suc k)
  pub min_short : length L.lmin ≤ most_entries k

module _ {N : Type 0} (S : Shape N) where
  open S use {mark, dmax, dmin}

  bit_most : (b : Bool) → bit b ≤ 1
  bit_most true = omega arith
  bit_most false = omega arith

  length-next : (l : List N) → length (next S l) ≤ 4 * length l
  length-next [] = omega arith
  length-next (n ∷ l) =
      omega (arith, length-append (kids_if S (mark n) n) (next S l), length-kids S (mark n) n, length-next l, bit_most (mark n))

  levels_most : (k : ℕ) (l : List N) → 4 * length (levels S k l) ≤ length l * most_entries k
  levels_most zero l = omega arith
  levels_most (suc k) l =
      omega (arith, length-append l (levels S k (next S l)), levels_most k (next S l), mul-le-mul_right (most_entries k) (length-next l))

  four_levels : (k : ℕ) (l : List N) → length l ≤ 4 → length (levels S k l) ≤ most_entries k
  four_levels k l h = omega (arith, levels_most k l, mul-le-mul_right (most_entries k) h)

  split_most : (l : List N) → length (split_of S l) ≤ length l
  split_most [] = omega arith
  split_most (n ∷ l) = omega (arith, kept_most (mark n) n (split_of S l), split_most l)
    where
      kept_most : (b : Bool) (n : N) (r : List N) → length (keep_if S b n r) ≤ suc (length r)
      kept_most true n r = omega arith
      kept_most false n r = omega arith

  form_short : (k : ℕ) (l : List N) → length l ≤ 4 → Short (form S k l) k
  form_short k l h = record {
    t_short = omega (arith, length-map (levels S k l) mark, four_levels k l h);
    max_short = omega (arith, length-map (levels S (suc k) l) dmax, four_levels (suc k) l h);
    min_short = omega (arith, length-map (split_of S (levels S k l)) dmin, split_most (levels S k l), four_levels k l h);
  }

  kids_most : (b : Bool) (n : N) → length (kids_if S b n) ≤ 4
  kids_most true n = omega arith
  kids_most false n = omega arith

-- the lists of a raster whose whole square has depth h + 1
pub lists_short : (A : Raster) (h : ℕ) → Short (lists_from A (suc h)) h
lists_short A h = form_short (squares A) h (kids_if (squares A) (is_split A (square (suc h) 0 0)) (square (suc h) 0 0)) (kids_most (squares A) (is_split A (square (suc h) 0 0)) (square (suc h) 0 0))

-- those of an even survey are empty
pub lists_even : (A : Raster) (D : ℕ) → is_split A (square D 0 0) ≡ false → lists_from A D ≡ no_lists
lists_even A zero e = refl
lists_even A (suc h) e = ap (λ b. form (squares A) h (kids_if (squares A) b (square (suc h) 0 0))) e ∙ form-nil (squares A) h
