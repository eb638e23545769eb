-- What is seen of bits tells how many there are.
-- Assumes nothing.
use mathlib.Core.Path.{◌≡◌, refl, sym, ap, ◌∙◌}
use lib.ListN.{length}
use Rattle.coding.specs.Seen.{bits_in}
use Rattle.coding.specs.declared.bits.Bits.{Bits}
use Rattle.coding.proofs.Laws.Bits.{counted}

pub same_count : (a b : Bits) → bits_in a ≡ bits_in b → a.count ≡ b.count
same_count a b e = sym (counted a.counted refl) ∙ ap length e ∙ counted b.counted refl
