-- `coding::bits::get` meets its contract: the bit of a place is a digit of its byte.
use mathlib.Core.Path.{◌∙◌, sym}
use Rattle.coding.proofs.Laws.Bits.{bit_of}
use Rattle.coding.proofs.bits.get.Goals as goal

pub returns-then-i-n : goal.returns-then-i-n
returns-then-i-n c = c.digit.ensures ∙ sym (bit_of _ _ _ c.if-i-n.true)
