-- `coding::write::count_from` meets its contract: a turn counts what the definition counts of its number.
use mathlib.Core.Path.{ap}
use native.Mathlib.Omega.{arith}
use lib.ListN.{get_or}
use borrow.Author.Tests.{le-leb, lt-leb}
use Rattle.coding.specs.Bits.{bit}
use Rattle.coding.proofs.Laws.Items.{count_turn, count_end}
use Rattle.coding.proofs.write.count_from.Goals as goal
use Rattle.coding.proofs.write.count_from.Goals.{then-low-v, else-low-v}

pub loop-v-preserved : goal.loop-v-preserved
loop-v-preserved c =
    let a = c.args in
    let l = a.numbers.now in
    let k = c.loop-v.v-index in
    let t = count_turn l k a.low (omega arith) in
    elim c.if-low-v.branch [
      | then-low-v w ↦ (omega (arith, w.count-is), omega (arith, w.count-is, t, ap bit (le-leb a.low (get_or l k 0) w.if-low-v.true)))
      | else-low-v w ↦ (omega (arith, w.count-is), omega (arith, w.count-is, t, ap bit (lt-leb a.low (get_or l k 0) w.if-low-v.false)))
    ]

pub returns : goal.returns
returns c =
    let a = c.args in
    (omega (arith, count_end a.numbers.now c.loop-v.v-index a.low (omega arith) (omega arith)), omega arith)
