-- The lengths that counting ones level by level gives, and the test of them.
-- Assumes nothing.
use mathlib.Core.Path.{◌≡◌, refl, sym, ap, ◌∙◌}
use mathlib.Core.Bool.{Bool, true, false, ◌&&◌}
use mathlib.Core.List.{List, [], ◌∷◌}
use Prim.Native.Nat.{ℕ, zero, suc, ◌+◌, ◌*◌, ◌≤◌}
use native.Mathlib.Numerals.{one-add}
use native.Mathlib.Omega.{arith}
use lib.Dec.{eqb}
use lib.ListN.{length}
use borrow.Author.Tests.{eqb-true, eq-eqb}
use Rattle.std.proofs.Math.Bool.{and_assoc}
use Rattle.coding.specs.Bits.{ones, ones_before}
use Rattle.coding.proofs.Laws.Lists.{and_left, and_right}
use Rattle.survey.specs.Order.{Lists}
use Rattle.survey.specs.Standing.{start_of, Sized}
use Rattle.grid.specs.Test.{is_sized}

-- no more ones than bits
pub before_most : (l : List Bool) (z : ℕ) → ones_before l z ≤ length l
before_most l zero = omega arith
before_most [] (suc z) = omega arith
before_most (true ∷ l) (suc z) = omega (arith, before_most l z)
before_most (false ∷ l) (suc z) = omega (arith, before_most l z)

-- the next level starts behind the ones before this one
pub start_next : (split_marks : List Bool) (k z : ℕ) → start_of split_marks (suc k) z ≡ 4 + 4 * ones_before split_marks (start_of split_marks k z)
start_next split_marks zero z = refl
start_next split_marks (suc k) z = start_next split_marks k (4 + 4 * ones_before split_marks z)

-- ---- the three tests

module _ (L : Lists) (h : ℕ) where
  -- as the code makes them, from the start z of the last level with marks
  pub sized_test : (z : ℕ) → z ≡ start_of L.split_marks h 0
      → (eqb (length L.split_marks) z && eqb (length L.lmax) (4 + 4 * ones_before L.split_marks z)) && eqb (length L.lmin) (ones L.split_marks) ≡ is_sized L h
  unfolding is_sized
  sized_test z e =
      let w : start_of L.split_marks (1 + h) 0 ≡ 4 + 4 * ones_before L.split_marks z = rw (one-add, e) (start_next L.split_marks h 0) in
      rw (w, sym e) (and_assoc (eqb (length L.split_marks) z) (eqb (length L.lmax) (4 + 4 * ones_before L.split_marks z)) (eqb (length L.lmin) (ones L.split_marks)))

  -- the test is that of the lengths
  pub is_sized_lem : is_sized L h ≡ true → Sized L h
  unfolding is_sized
  is_sized_lem e =
      let a = eqb (length L.split_marks) (start_of L.split_marks h 0) in
      let b = eqb (length L.lmax) (start_of L.split_marks (1 + h) 0) in
      let d = eqb (length L.lmin) (ones L.split_marks) in
      let f = and_right a (b && d) e in
      record {
        t_length = eqb-true _ _ (and_left a (b && d) e);
        max_length = eqb-true _ _ (and_left b d f) ∙ ap (λ (n : ℕ). start_of L.split_marks n 0) (one-add h);
        min_length = eqb-true _ _ (and_right b d f);
      }

  pub sized_is : Sized L h → is_sized L h ≡ true
  unfolding is_sized
  sized_is s =
      rw (
        one-add,
        eq-eqb (length L.split_marks) (start_of L.split_marks h 0) s.t_length,
        eq-eqb (length L.lmax) (start_of L.split_marks (suc h) 0) s.max_length,
        eq-eqb (length L.lmin) (ones L.split_marks) s.min_length,
      )
