-- `survey::sides::depth_for` meets its contract: the chain counts the sides below the greater of rows and columns, and the table has the powers of two.
-- The table is a variable in the chain's own fact, so that no tactic opens its rows.
use mathlib.Core.Path.{◌≡◌, refl, sym, ◌∙◌}
use mathlib.Core.Bool.{Bool, true, false, cond}
use mathlib.Core.List.{List}
use native.Mathlib.Omega.{arith}
use lib.Dec.{ltb}
use Rattle.std.specs.List.{count_by}
use Rattle.std.proofs.iter.runs.Made.{chains}
use Rattle.coding.specs.Bits.{bit}
use Rattle.survey.specs.Sides.{depth_for}
use Rattle.survey.specs.declared.sides.Side.{Side}
use Rattle.survey.proofs.sides.depth_for.Goals as goal

as_bit : (b : Bool) → cond b 1 0 ≡ bit b
as_bit true = refl
as_bit false = refl

pub returns : goal.returns
unfolding depth_for
returns c =
    let n = c.max-n.result in
    let counted : (sides : List Side) → sides ≡ c.iter.result.rest.now → c.count.result ≡ count_by (λ s. ltb s.side n) sides =
    λ sides e. grind (arith, chains) in
    counted _ (sym c.iter.ensures.rest) ∙ simp (as_bit, c.max-n.ensures)
