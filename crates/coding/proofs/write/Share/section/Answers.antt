-- `coding::write::Share::section` meets its contract: the last byte is cleared, the count is written, and the body is filled.
use Prim.Native.Nat.{◌-◌}
use native.Mathlib.Omega.{arith}
use lib.ListN.{length}
use borrow.Rule.Slice.PartMut.{mid_of}
use Rattle.coding.specs.Lanes.{items_of}
use Rattle.coding.proofs.Laws.Views.{view_holds}
use Rattle.coding.proofs.Laws.Written.{body_long, section_written}
use Rattle.coding.proofs.write.Share.section.Goals as goal

pub fill-requires : goal.fill-requires
fill-requires c =
    let s = c.args.self.now in
    let x = c.put.new.out in
    view_holds s.part.bits s.count (mid_of 4 (length x - 4) x)
    (omega (arith, body_long c.args.out.now x s.count (omega arith) c.put.ensures))

pub returns : goal.returns
returns c =
    let s = c.args.self.now in
    section_written c.args.out.now c.put.new.out s.count (omega arith) c.put.ensures s.part.bits (items_of s.part s.numbers.now)
    c.fill.new.out s.counted c.requires c.fill.auto.out (λ i. (c.type_inv.out i).fits) c.fill.ensures
