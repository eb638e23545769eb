-- `grid::heading::is_headed` meets its contract: its six tests, in order, are those of the definition.
use mathlib.Core.Path.{◌≡◌, sym, ap, ◌∙◌}
use mathlib.Core.Bool.{◌&&◌}
use borrow.Author.Tests.{le-leb, lt-leb}
use lib.Dec.{eqb, leb}
use lib.ListN.{length}
use Rattle.coding.specs.Bytes.{number}
use Rattle.coding.proofs.Laws.Lists.{held, failed, in_order}
use Rattle.survey.specs.Level.{is_level, turned}
use Rattle.survey.specs.Raster.{in_limits}
use Rattle.survey.specs.Reading.{rows_in, columns_in, greatest_in, least_in}
use Rattle.grid.specs.Test.{is_headed}
use Rattle.grid.proofs.heading.is_headed.Goals as goal
use Rattle.grid.proofs.heading.is_headed.Goals.{Joined-is_side-2, then-f-ge20, else-f-ge20, then-get-eq4, else-get-eq4, then-is_side, else-is_side, then-is_side-2, else-is_side-2}

-- the first five tests
five : (c : Joined-is_side-2) → let f = c.args.f.now in
    c.if-is_side-2.value
    ≡ (((leb 20 (length f) && eqb (number f) 4) && in_limits (rows_in f)) && in_limits (columns_in f)) && is_level (greatest_in f)
five c =
    let f = c.args.f.now in
    let a = leb 20 (length f) in
    let b = eqb (number f) 4 in
    let d = in_limits (rows_in f) in
    let e = in_limits (columns_in f) in
    let g = is_level (greatest_in f) in
    let two : c.if-f-ge20.value ≡ a && b =
    elim c.if-f-ge20.branch [
      | then-f-ge20 w ↦ held b (le-leb 20 (length f) w.if-f-ge20.true) (w.value-is ∙ ap (λ n. eqb n 4) w.get.ensures)
      | else-f-ge20 w ↦ failed b (lt-leb 20 (length f) w.if-f-ge20.false) w.value-is
    ] in
    let three : c.if-get-eq4.value ≡ (a && b) && d =
    elim c.if-get-eq4.branch [
      | then-get-eq4 w ↦ held d (sym two ∙ w.if-get-eq4.true) (w.value-is ∙ w.is_side.ensures ∙ ap in_limits w.get-then-get-eq4.ensures)
      | else-get-eq4 w ↦ failed d (sym two ∙ w.if-get-eq4.false) (w.value-is ∙ two)
    ] in
    let four : c.if-is_side.value ≡ ((a && b) && d) && e =
    elim c.if-is_side.branch [
      | then-is_side w ↦ held e (sym three ∙ w.if-is_side.true) (w.value-is ∙ w.is_side-then-is_side.ensures ∙ ap in_limits w.get-then-is_side.ensures)
      | else-is_side w ↦ failed e (sym three ∙ w.if-is_side.false) (w.value-is ∙ three)
    ] in
    elim c.if-is_side-2.branch [
      | then-is_side-2 w ↦
          held g (sym four ∙ w.if-is_side-2.true) (w.value-is ∙ w.is_level.ensures ∙ ap (λ n. is_level (turned n)) w.get-then-is_side-2.ensures)
      | else-is_side-2 w ↦ failed g (sym four ∙ w.if-is_side-2.false) (w.value-is ∙ four)
    ]

pub returns-then-is_level : goal.returns-then-is_level
unfolding is_headed
returns-then-is_level c =
    let j = (goal.at.returns-then-is_level c).Joined-is_side-2 in
    held (is_level (least_in c.args.f.now)) (sym (five j) ∙ c.if-is_level.true)
    (c.is_level-then-is_level.ensures ∙ ap (λ n. is_level (turned n)) c.get-then-is_level.ensures)
    ∙ in_order (leb 20 (length c.args.f.now)) (eqb (number c.args.f.now) 4) (in_limits (rows_in c.args.f.now)) (in_limits (columns_in c.args.f.now)) _ _

pub returns-else-is_level : goal.returns-else-is_level
unfolding is_headed
returns-else-is_level c =
    let j = (goal.at.returns-else-is_level c).Joined-is_side-2 in
    failed (is_level (least_in c.args.f.now)) (sym (five j) ∙ c.if-is_level.false) (five j)
    ∙ in_order (leb 20 (length c.args.f.now)) (eqb (number c.args.f.now) 4) (in_limits (rows_in c.args.f.now)) (in_limits (columns_in c.args.f.now)) _ _
