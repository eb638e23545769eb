-- `grid::Grid::is_short` meets its contract: its three tests are those of the table.
use mathlib.Core.Path.{◌≡◌, sym, ap, ◌∙◌}
use mathlib.Core.Bool.{◌&&◌}
use Prim.Native.Nat.{ℕ, ◌+◌, ◌-◌}
use native.Mathlib.Omega.{arith}
use borrow.Author.Tests.{le-leb, lt-leb}
use lib.Dec.{leb}
use lib.ListN.{length}
use Rattle.std.proofs.Math.Bool.{and_assoc}
use Rattle.coding.specs.Seen.{bits_in}
use Rattle.coding.specs.Numbers.{numbers_in}
use Rattle.coding.proofs.Laws.Lists.{held, failed}
use Rattle.survey.specs.Order.{Lists}
use Rattle.survey.specs.Sides.{most_entries}
use Rattle.survey.specs.declared.sides.Side.{Side}
use Rattle.survey.specs.Reading.{rows_in, columns_in, lists_in}
use Rattle.survey.proofs.Laws.Sides.{depth_most}
use Rattle.grid.specs.Test.{depth_in, is_short}
use Rattle.grid.proofs.Laws.Places.{lists_are}
use Rattle.grid.proofs.Grid.is_short.Goals as goal
use Rattle.grid.proofs.Grid.is_short.Goals.{Joined-len-less, then-len-less, else-len-less}

pub of_depth-most-requires : goal.of_depth-most-requires
of_depth-most-requires c =
    let f = c.args.self.now.file.now in
    omega (arith, c.args.self.now.opened.depth_is, c.saturating_sub-above.ensures, depth_most (rows_in f) (columns_in f))

pub of_depth-less-requires : goal.of_depth-less-requires
of_depth-less-requires c =
    let f = c.args.self.now.file.now in
    omega (arith, c.args.self.now.opened.depth_is, c.saturating_sub-above.ensures, depth_most (rows_in f) (columns_in f))

module _ (c : Joined-len-less) where
  abbrev h : ℕ
  h = depth_in c.args.self.now.file.now - 1

  above : c.saturating_sub-above.result ≡ depth_in c.args.self.now.file.now - 1
  above = omega (arith, c.args.self.now.opened.depth_is, c.saturating_sub-above.ensures)

  most : c.of_depth-most.result.entries ≡ most_entries (1 + h)
  most = ap (λ (s : Side). s.entries) c.of_depth-most.ensures ∙ ap most_entries (omega (arith, above))

  less : c.of_depth-less.result.entries ≡ most_entries h
  less = ap (λ (s : Side). s.entries) c.of_depth-less.ensures ∙ ap most_entries above

  two : c.if-len-less.value ≡ leb (length (bits_in c.args.self.now.split)) (most_entries h) && leb (length (numbers_in c.args.self.now.max)) (most_entries (1 + h))
  two =
      let split = bits_in c.args.self.now.split in
      let max = numbers_in c.args.self.now.max in
      let a = leb (length split) (most_entries h) in
      let b = leb (length max) (most_entries (1 + h)) in
      let n : leb c.len.result c.of_depth-less.result.entries ≡ a = ap (λ k. leb k c.of_depth-less.result.entries) c.len.ensures.0 ∙ ap (leb (length split)) less in
      elim c.if-len-less.branch [
        | then-len-less w ↦
            held b (sym n ∙ le-leb _ _ w.if-len-less.true)
            (w.value-is ∙ ap (λ k. leb k c.of_depth-most.result.entries) w.len-then-len-less.ensures ∙ ap (leb (length max)) most)
        | else-len-less w ↦ failed b (sym n ∙ lt-leb _ _ w.if-len-less.false) (w.value-is ∙ n)
      ]

  tests : (leb (length (bits_in c.args.self.now.split)) (most_entries h) && leb (length (numbers_in c.args.self.now.max)) (most_entries (1 + h))) && leb (length (numbers_in c.args.self.now.min)) (most_entries h)
      ≡ (let l = lists_in c.args.self.now.file.now in is_short (depth_in c.args.self.now.file.now - 1) (length l.split_marks) (length l.lmax) (length l.lmin))
  unfolding is_short
  tests =
      and_assoc (leb (length (bits_in c.args.self.now.split)) (most_entries h)) (leb (length (numbers_in c.args.self.now.max)) (most_entries (1 + h))) (leb (length (numbers_in c.args.self.now.min)) (most_entries h))
      ∙ ap (λ (l : Lists). is_short (depth_in c.args.self.now.file.now - 1) (length l.split_marks) (length l.lmax) (length l.lmin)) (lists_are c.args.self.now.opened)

pub returns-then-len-most : goal.returns-then-len-most
returns-then-len-most c =
    let j = (goal.at.returns-then-len-most c).Joined-len-less in
    held (leb (length (numbers_in c.args.self.now.min)) (most_entries (h j))) (sym (two j) ∙ c.if-len-most.true)
    (ap (λ k. leb k c.of_depth-less.result.entries) c.len-then-len-most.ensures ∙ ap (leb (length (numbers_in c.args.self.now.min))) (less j))
    ∙ tests j

pub returns-else-len-most : goal.returns-else-len-most
returns-else-len-most c =
    let j = (goal.at.returns-else-len-most c).Joined-len-less in
    failed (leb (length (numbers_in c.args.self.now.min)) (most_entries (h j))) (sym (two j) ∙ c.if-len-most.false) (two j) ∙ tests j
