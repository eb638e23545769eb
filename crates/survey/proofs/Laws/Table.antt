-- A table that is a function's values one after the other has at each place the function's value there; so one computed equation proves a table's rule.
-- Assumes nothing.
use mathlib.Core.Path.{◌≡◌, refl, ◌∙◌}
use mathlib.Core.List.{List, [], ◌∷◌}
use Prim.Native.Nat.{ℕ, zero, suc, ◌<◌}
use native.Mathlib.Decide.{dec_lt}
use native.Mathlib.Omega.{arith}
use lib.ListN.{length, get_or, length-append, get_or-append}
use lib.Seq.{get_or_at}
use Rattle.survey.specs.Raster.{list_to}

module _ {B : Type 0} (f : ℕ → B) where
  abbrev pub table_of : ℕ → List B
  table_of n = list_to n (λ k. f k ∷ [])

  pub length_table : (n : ℕ) → length (table_of n) ≡ n
  length_table zero = refl
  length_table (suc n) = omega (arith, length-append (table_of n) (f n ∷ []), length_table n)

  at_step : (n : ℕ) (d : B) (i : ℕ) → i < suc n → (i < n → get_or (table_of n) i d ≡ f i) → Dec (i < n) → get_or (table_of (suc n)) i d ≡ f i
  at_step n d i h ih (yes g) = get_or-append (table_of n) (f n ∷ []) d i (omega (arith, length_table n)) ∙ ih g
  at_step n d i h ih (no g) =
      let e : i ≡ n = omega arith in
      rw e (get_or_at (table_of n) (f n) [] d n (length_table n))

  pub table_at : (n : ℕ) (d : B) (i : ℕ) → i < n → get_or (table_of n) i d ≡ f i
  table_at zero d i h = absurd (omega arith)
  table_at (suc n) d i h = at_step n d i h (table_at n d i) (dec_lt i n)
