-- `coding::list::Coded::read` meets its contract: five sections are a packed list just if their parts agree.
use mathlib.Core.Path.{◌≡◌, sym, ap, ◌∙◌}
use mathlib.Core.Bool.{false}
use Rattle.std.proofs.Common.{rules}
use Rattle.coding.specs.Lists.{entries_of}
use Rattle.coding.specs.Places.{agree}
use Rattle.coding.specs.Sections.{list_at, starts_list}
use Rattle.coding.proofs.Laws.Lists.{no_bit, not_true}
use Rattle.coding.proofs.Laws.Sections.{starts_list_lem, whole_list, behind_list}
use Rattle.coding.proofs.list.Coded.read.Goals as goal

pub returns-in_err-sections : goal.returns-in_err-sections
returns-in_err-sections c =
    let e : starts_list c.args.s.now ≡ false = not_true _ (λ e. c.in_err-sections.ensures (starts_list_lem _ e).five) in
    search rules

pub returns-then-agree : goal.returns-then-agree
unfolding list_at
returns-then-agree c =
    let r = c.in_ok-sections.ensures in
    let e = whole_list c.args.s.now (λ i h. (c.type_inv.s i).fits) r.0 (ap agree (sym r.1) ∙ sym c.agree.ensures ∙ c.if-agree.true) in
    (e, ap entries_of r.1, r.2 ∙ behind_list c.args.s.now e)

pub returns : goal.returns
returns c =
    not_true _ (λ e. no_bit (sym (starts_list_lem _ e).agrees ∙ ap agree (sym c.in_ok-sections.ensures.1) ∙ sym c.agree.ensures ∙ c.if-agree.false))
