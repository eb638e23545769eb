-- No second result satisfies the promise of a call: the promises are equations, so two results that satisfy one are the same.
-- Assumes nothing.
use mathlib.Core.Path.{◌≡◌, sym, ◌∙◌}
use mathlib.Core.List.{List}
use Prim.Native.Nat.{ℕ}
use Rattle.coding.specs.Calls.{Packs, LooksUp, CountsOnes}
use Rattle.coding.specs.declared.Amount.{Amount}
use Rattle.coding.specs.declared.Entry.{Entry}

pub one_pack : {l old : List ℕ} {r r' : Amount} {new new' : List ℕ} → Packs l old r new → Packs l old r' new' → (r ≡ r') × (new ≡ new')
one_pack p q = (p.answer ∙ sym q.answer, p.buffer ∙ sym q.buffer)

pub one_look_up : {s : List ℕ} {i : ℕ} {r r' : Entry} → LooksUp s i r → LooksUp s i r' → r ≡ r'
one_look_up p q = p.answer ∙ sym q.answer

pub one_count : {s : List ℕ} {z : ℕ} {r r' : Amount} → CountsOnes s z r → CountsOnes s z r' → r ≡ r'
one_count p q = p.answer ∙ sym q.answer
