-- `grid::Grid::is_whole` meets its contract: the four quarters of the whole square are what a reader starts at, and their pairs make its own.
use mathlib.Core.Path.{◌∙◌, sym, ap, subst}
use Prim.Native.Nat.{ℕ, ◌-◌}
use native.Mathlib.Omega.{arith}
use Rattle.survey.specs.Reading.{rows_in, columns_in, lists_in, survey_in}
use Rattle.survey.specs.Standing.{Sized}
use Rattle.survey.proofs.Laws.Sides.{depth_most}
use Rattle.grid.specs.Test.{depth_in}
use Rattle.grid.proofs.Laws.Places.{rows_within, columns_within}
use Rattle.grid.proofs.Laws.Sized.{is_sized_lem}
use Rattle.grid.proofs.Laws.Looked.{looked_whole, says_first, wholly_same, unsized_whole}
use Rattle.grid.proofs.Grid.is_whole.Goals as goal

pub invariant_of-whole : goal.invariant_of-whole
invariant_of-whole c =
    let f = c.args.self.now.file.now in
    record { within = (omega (arith, c.args.self.now.opened.depth_is, depth_most (rows_in f) (columns_in f)), omega arith, omega arith) }

pub quarters-requires-clause-says : goal.quarters-requires-clause-says
quarters-requires-clause-says c =
    let o = c.args.self.now.opened in
    says_first c.args.self.now.file.now o.depth_is (omega (arith, o.depth_is, c.requires.deep)) o.greatest_is c.requires.uneven

pub returns-then-is_sized : goal.returns-then-is_sized
returns-then-is_sized c =
    let f = c.args.self.now.file.now in
    let o = c.args.self.now.opened in
    let h = ap (λ (n : ℕ). n - 1) o.depth_is in
    let s = is_sized_lem (lists_in f) (depth_in f - 1) (sym c.is_sized.ensures ∙ c.if-is_sized.true) in
    wholly_same h o.greatest_is o.least_is (sym c.is_some.ensures)
    (looked_whole (survey_in f) (lists_in f) c.quarters.result
    (subst (Sized (lists_in f)) (sym h) s) (omega (arith, (rows_within f o.parted).0)) (omega (arith, (columns_within f o.parted).0))
    c.quarters.ensures)

pub returns-else-is_sized : goal.returns-else-is_sized
returns-else-is_sized c =
    let f = c.args.self.now.file.now in
    unsized_whole (survey_in f) (lists_in f) c.is_sized.ensures c.if-is_sized.false
