-- `coding::bits::Bits::len` meets its contract: the list of the bits is as long as their count.
use mathlib.Core.Path.{refl, sym}
use Rattle.coding.proofs.Laws.Bits.{counted}
use Rattle.coding.proofs.bits.Bits.len.Goals as goal

pub returns : goal.returns
returns c = (sym (counted c.args.self.now.counted refl), c.args.self.now.counted.small)
