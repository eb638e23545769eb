-- `grid::Grid::is_sized` meets its contract: the next level starts behind the ones before this one, and the last tells the lengths.
use mathlib.Core.Path.{◌≡◌, sym, ap, ◌∙◌}
use mathlib.Core.Bool.{Bool, ◌&&◌}
use mathlib.Core.List.{List}
use Prim.Native.Nat.{ℕ, suc, ◌+◌, ◌*◌, ◌-◌, ◌≤◌}
use native.Mathlib.Omega.{arith}
use borrow.Author.Tests.{eq-eqb, ne_eqb}
use lib.Dec.{eqb}
use lib.ListN.{length}
use Rattle.coding.specs.Bits.{ones, ones_before}
use Rattle.coding.specs.Seen.{bits_in}
use Rattle.coding.specs.Numbers.{numbers_in}
use Rattle.coding.proofs.Laws.Lists.{held, failed}
use Rattle.survey.specs.Standing.{start_of}
use Rattle.survey.specs.Order.{Lists}
use Rattle.survey.specs.Reading.{lists_in}
use Rattle.grid.specs.Test.{depth_in, is_sized}
use Rattle.grid.proofs.Laws.Places.{lists_are}
use Rattle.grid.proofs.Laws.Sized.{start_next, sized_test}
use Rattle.grid.proofs.Grid.is_sized.Goals as goal
use Rattle.grid.proofs.Grid.is_sized.Goals.{Joined-len-z, then-len-z, else-len-z}

next_start : (split : List Bool) (d z r : ℕ) → 1 ≤ d → z ≡ start_of split (d - 1) 0 → r ≡ ones_before split z → 4 + 4 * r ≡ start_of split (d + 1 - 1) 0
next_start split d z r h e o =
    let k : d + 1 - 1 ≡ suc (d - 1) = omega arith in
    rw (k, start_next split (d - 1) 0) (ap (λ (n : ℕ). 4 + 4 * n) (o ∙ ap (ones_before split) e))

pub loop-preserved : goal.loop-preserved
loop-preserved c =
    (omega arith, omega arith, next_start (bits_in c.args.self.now.split) c.loop.counter c.loop.z c.ones_before.result c.loop.invariant.0 c.loop.invariant.2 c.ones_before.ensures.0)

module _ (c : Joined-len-z) where
  abbrev found : Lists
  found = record { split_marks = (bits_in c.args.self.now.split); lmax = (numbers_in c.args.self.now.max); lmin = (numbers_in c.args.self.now.min) }

  two : c.if-len-z.value ≡ eqb (length (bits_in c.args.self.now.split)) c.loop.z && eqb (length (numbers_in c.args.self.now.max)) (4 + 4 * ones_before (bits_in c.args.self.now.split) c.loop.z)
  two =
      let split = bits_in c.args.self.now.split in
      let max = numbers_in c.args.self.now.max in
      let b = eqb (length max) (4 + 4 * ones_before split c.loop.z) in
      let n : eqb c.len.result c.loop.z ≡ eqb (length split) c.loop.z = ap (λ k. eqb k c.loop.z) c.len.ensures.0 in
      elim c.if-len-z.branch [
        | then-len-z w ↦
            held b (sym n ∙ eq-eqb _ _ w.if-len-z.true)
            (w.value-is ∙ ap (λ k. eqb k (4 + 4 * w.ones_before-then-len-z.result)) w.len-then-len-z.ensures
            ∙ ap (λ k. eqb (length max) (4 + 4 * k)) w.ones_before-then-len-z.ensures.0)
        | else-len-z w ↦ failed b (sym n ∙ ne_eqb _ _ w.if-len-z.false) (w.value-is ∙ n)
      ]

  -- the three tests are those of the file's lists
  tests : (eqb (length (bits_in c.args.self.now.split)) c.loop.z && eqb (length (numbers_in c.args.self.now.max)) (4 + 4 * ones_before (bits_in c.args.self.now.split) c.loop.z))
      && eqb (length (numbers_in c.args.self.now.min)) (ones (bits_in c.args.self.now.split))
      ≡ is_sized (lists_in c.args.self.now.file.now) (depth_in c.args.self.now.file.now - 1)
  tests =
      let o = c.args.self.now.opened in
      let e : c.loop.counter - 1 ≡ depth_in c.args.self.now.file.now - 1 = omega (arith, o.depth_is) in
      let z = c.loop.invariant.2 ∙ ap (λ n. start_of (bits_in c.args.self.now.split) n 0) e in
      sized_test found (depth_in c.args.self.now.file.now - 1) c.loop.z z
      ∙ ap (λ (l : Lists). is_sized l (depth_in c.args.self.now.file.now - 1)) (lists_are c.args.self.now.opened)

pub returns-then-len-ones_before : goal.returns-then-len-ones_before
returns-then-len-ones_before c =
    let j = (goal.at.returns-then-len-ones_before c).Joined-len-z in
    held (eqb (length (numbers_in c.args.self.now.min)) (ones (bits_in c.args.self.now.split))) (sym (two j) ∙ c.if-len-ones_before.true)
    (ap (λ k. eqb k c.ones.result) c.len-then-len-ones_before.ensures ∙ ap (eqb (length (numbers_in c.args.self.now.min))) c.ones.ensures)
    ∙ tests j

pub returns-else-len-ones_before : goal.returns-else-len-ones_before
returns-else-len-ones_before c =
    let j = (goal.at.returns-else-len-ones_before c).Joined-len-z in
    failed (eqb (length (numbers_in c.args.self.now.min)) (ones (bits_in c.args.self.now.split))) (sym (two j) ∙ c.if-len-ones_before.false) (two j) ∙ tests j
