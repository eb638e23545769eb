-- `coding::list::Coded::read_from` meets its contract: beyond the end there are no bytes, and so no list starts.
use native.Mathlib.Omega.{arith}
use lib.ListN.{length-drop}
use Rattle.coding.proofs.Laws.Lists.{not_true}
use Rattle.coding.proofs.Laws.Sections.{starts_bytes_lem, starts_list_lem}
use Rattle.coding.proofs.list.Coded.read_from.Goals as goal

pub returns-in_err-get : goal.returns-in_err-get
returns-in_err-get c =
    rw c.from_residual.ensures
    (not_true _ (λ e. omega (arith, (starts_bytes_lem _ (starts_list_lem _ e).five.first).head, length-drop c.args.at c.args.f.now, c.in_err-get.ensures.lookup)))
