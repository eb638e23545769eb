-- `coding::bits::Bits::blocks` meets its contract: the list of the bits is as long as their count.
use mathlib.Core.Path.{refl}
use native.Mathlib.Omega.{arith}
use Rattle.coding.proofs.Laws.Bits.{counted}
use Rattle.coding.proofs.bits.Bits.blocks.Goals as goal

pub returns : goal.returns
returns c = omega (arith, c.div_ceil.ensures, c.len.ensures.0, counted c.args.self.now.counted refl)
