-- `coding::list::Coded::entry` meets its contract: an entry of the list is one of its parts, whose counts agree.
use mathlib.Core.Path.{sym, ◌∙◌}
use native.Mathlib.Omega.{arith}
use Rattle.coding.specs.Seen.{parts_in}
use Rattle.coding.proofs.Laws.Lists.{agree_is, entry_at}
use Rattle.coding.proofs.list.Coded.entry.Goals as goal

pub returns : goal.returns
returns c =
    let p = parts_in c.args.self.now.sections in
    let a = agree_is p c.args.self.now.agrees in
    (c.entry.ensures.0 ∙ sym (entry_at p c.args.i (omega (arith, a.more)) (omega (arith, a.again))), c.entry.ensures.1)
