-- `coding::list::none_zero` meets its contract: no byte is 0 just if the bytes do not contain 0.
use mathlib.Core.Path.{◌≡◌, refl, ap, ◌∙◌}
use mathlib.Core.Bool.{not, ◌||◌, ◌&&◌, Bool, true, false}
use mathlib.Core.List.{List, [], ◌∷◌}
use Prim.Native.Nat.{ℕ}
use lib.Dec.{eqb}
use Rattle.std.specs.List.{list_any}
use Rattle.coding.specs.Places.{none_zero}
use Rattle.coding.proofs.list.none_zero.Goals as goal

none_is : (s : List ℕ) → not (list_any (λ y. eqb y 0) s) ≡ none_zero s
none_is [] = refl
none_is (x ∷ s) = turn (eqb x 0) (list_any (λ y. eqb y 0) s) ∙ ap (λ b. not (eqb x 0) && b) (none_is s)
  where
    turn : (a b : Bool) → not (a || b) ≡ (not a && not b)
    turn true b = refl
    turn false b = refl

pub returns : goal.returns
returns c = ap not c.contains.ensures.value ∙ none_is c.args.s.now
