-- `coding::list::Sections::read` meets its contract: each section starts where the one before it ends.
use Rattle.coding.proofs.Laws.Sections.{five_read}
use Rattle.coding.proofs.list.Sections.read.Goals as goal

pub returns : goal.returns
returns c =
    five_read c.in_ok-first.ensures c.in_ok-more.ensures c.in_ok-second.ensures c.in_ok-again.ensures c.in_ok-third.ensures
