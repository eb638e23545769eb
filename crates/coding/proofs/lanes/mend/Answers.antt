-- `coding::lanes::mend` meets its contract: a digit that is as wanted stays, and else its weight is taken off or added.
use mathlib.Core.Path.{sym, ◌∙◌}
use native.Mathlib.Omega.{arith}
use Rattle.std.proofs.lemmas.Nat.{one_shl}
use Rattle.coding.proofs.Laws.Views.{digit_kept, digit_more, digit_fits, digit_less}
use Rattle.coding.proofs.lanes.mend.Goals as goal

pub overflow_add-result : goal.overflow_add-result
overflow_add-result c =
    let a = c.args in
    omega (arith, one_shl a.k 8 c.requires, digit_fits a.b a.k (sym c.if-digit.ensures) c.requires c.ranges.b.fits)

pub returns-then-v : goal.returns-then-v
returns-then-v c = digit_kept c.args.b c.args.k c.args.v (sym c.if-digit.ensures ∙ sym c.if-v.true)

pub returns-else-v : goal.returns-else-v
returns-else-v c =
    let a = c.args in
    rw (one_shl a.k 8 c.requires, c.if-v.false) (digit_less a.b a.k (sym c.if-digit.ensures))

pub returns-then-v-2 : goal.returns-then-v-2
returns-then-v-2 c =
    let a = c.args in
    rw (one_shl a.k 8 c.requires, c.if-v-2.true) (digit_more a.b a.k (sym c.if-digit.ensures))

pub returns-else-v-2 : goal.returns-else-v-2
returns-else-v-2 c = digit_kept c.args.b c.args.k c.args.v (sym c.if-digit.ensures ∙ sym c.if-v-2.false)
