-- `coding::bits::clear_behind` meets its contract: the unused bits are those of the last byte, where it has any.
use mathlib.Core.Path.{sym, ◌∙◌}
use borrow.Author.Tests.{eq-eqb}
use Rattle.coding.proofs.Laws.Padding.{padded_full, padded_last}
use Rattle.coding.proofs.bits.clear_behind.Goals as goal

pub returns-then-k-eq0 : goal.returns-then-k-eq0
returns-then-k-eq0 c =
    eq-eqb _ _ c.if-k-eq0.true ∙ sym (padded_full _ _ (λ i h. (c.type_inv.s i).fits) c.requires c.if-k-eq0.true)

pub returns-else-k-eq0 : goal.returns-else-k-eq0
returns-else-k-eq0 c = sym (padded_last _ _ (λ i h. (c.type_inv.s i).fits) c.requires c.if-k-eq0.false)
