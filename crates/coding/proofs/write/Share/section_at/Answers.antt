-- `coding::write::Share::section_at` meets its contract: the section written to the part that was lent, said of the whole.
use mathlib.Core.Path.{◌∙◌}
use Prim.Native.Nat.{◌+◌, ◌≤◌}
use native.Mathlib.Omega.{arith}
use lib.ListN.{length}
use borrow.Rule.Slice.PartMut.{mid_len}
use Rattle.coding.specs.Lanes.{items_of}
use Rattle.coding.proofs.Laws.Written.{written_at}
use Rattle.coding.proofs.write.Share.section_at.Goals as goal

pub returns-clause-written : goal.returns-clause-written
returns-clause-written c =
    let a = c.args in
    let s = a.self.now in
    let x = a.out.now in
    let e = a.at + (4 + c.size.result) in
    let g : e ≤ length x = omega arith in
    written_at s.part.bits (items_of s.part s.numbers.now) x c.section.new.out a.at e c.section.ensures (omega arith) g
    (c.section.auto.out ∙ mid_len a.at e x g)
