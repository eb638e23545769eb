-- `coding::lanes::start` meets its contract: the next sum is not above the last, which fits.
use Prim.Native.Nat.{suc}
use native.Mathlib.Omega.{arith}
use lib.ListN.{length}
use Rattle.coding.proofs.Laws.Lanes.{total_most}
use Rattle.coding.proofs.lanes.start.Goals as goal

pub overflow_add-at : goal.overflow_add-at
overflow_add-at c =
    let l = c.args.counts.now in
    omega (arith, total_most l (suc c.loop-i.i) (length l) (omega arith))
