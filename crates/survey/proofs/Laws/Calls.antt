-- No second result satisfies the promise of a call: the promises are equations, so two results that satisfy one are the same.
-- Assumes nothing.
use mathlib.Core.Path.{◌≡◌, sym, ◌∙◌}
use mathlib.Core.List.{List}
use Prim.Native.Nat.{ℕ}
use lib.IntN.{ℤ}
use Rattle.coding.specs.declared.Amount.{Amount}
use Rattle.survey.specs.Calls.{Builds, Tests}
use Rattle.survey.specs.declared.Heading.{Heading}

pub one_build : {s : List ℤ} {rows columns : ℕ} {old new new' : List ℕ} {r r' : Amount} → Builds s rows columns old r new → Builds s rows columns old r' new'
    → (r ≡ r') × (new ≡ new')
one_build p q = (p.answer ∙ sym q.answer, p.buffer ∙ sym q.buffer)

pub one_test : {f : List ℕ} {r r' : Heading} → Tests f r → Tests f r' → r ≡ r'
one_test p q = p.answer ∙ sym q.answer
