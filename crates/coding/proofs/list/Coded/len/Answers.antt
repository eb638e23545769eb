-- `coding::list::Coded::len` meets its contract: a list has an entry for each first byte.
use mathlib.Core.Path.{sym}
use Rattle.coding.specs.Seen.{parts_in}
use Rattle.coding.proofs.Laws.Lists.{length_entries}
use Rattle.coding.proofs.list.Coded.len.Goals as goal

pub returns : goal.returns
returns c = sym (length_entries (parts_in c.args.self.now.sections))
