-- `grid::lists` meets its contract: the sections that are read one behind the other are those that part the file.
use mathlib.Core.Path.{◌≡◌, sym, ap, ◌∙◌}
use mathlib.Core.List.{List}
use Prim.Native.Nat.{ℕ}
use borrow.Author.Tests.{eqb-true, eqb-false}
use lib.ListN.{length, drop}
use Rattle.std.proofs.Common.{rules}
use Rattle.coding.specs.Sections.{after_bits, starts_list}
use Rattle.coding.proofs.Laws.Lists.{no_bit}
use Rattle.grid.specs.Test.{IsParted, end_of_marks}
use Rattle.grid.proofs.Laws.Sound.{read_parted, after_marks_is, after_max_is, nothing_left, are_lists}
use Rattle.grid.proofs.lists.Goals as goal

-- what is behind T, and behind Lmax, of a file that is parted
behind_marks : {f s : List ℕ} → IsParted f → s ≡ after_bits (drop 20 f) → s ≡ drop (end_of_marks f) f
behind_marks {f} p e = after_marks_is f p e

pub returns-in_err-max : goal.returns-in_err-max
returns-in_err-max c =
    let f = c.args.file.now in
    let e : IsParted f → ⊥ = λ p. no_bit (sym p.max ∙ ap starts_list (sym (behind_marks p c.in_ok-split.ensures.2)) ∙ c.in_err-max.ensures) in
    search rules

pub returns-in_err-min : goal.returns-in_err-min
returns-in_err-min c =
    let f = c.args.file.now in
    let e : IsParted f → ⊥ = λ p.
    no_bit (sym p.min ∙ ap starts_list (sym (after_max_is f (behind_marks p c.in_ok-split.ensures.2) c.in_ok-max.ensures.2)) ∙ c.in_err-min.ensures) in
    search rules

pub returns-then-not-is_empty : goal.returns-then-not-is_empty
returns-then-not-is_empty c =
    let f = c.args.file.now in
    λ p.
    eqb-false _ _ (sym c.is_empty.ensures ∙ c.if-not-is_empty.true)
    (nothing_left f p (after_max_is f (behind_marks p c.in_ok-split.ensures.2) c.in_ok-max.ensures.2) c.in_ok-min.ensures.2)

pub returns : goal.returns
returns c =
    let f = c.args.file.now in
    let a = c.in_ok-split.ensures in
    let b = c.in_ok-max.ensures in
    let d = c.in_ok-min.ensures in
    let e = eqb-true _ _ (sym c.is_empty.ensures ∙ c.if-not-is_empty.false) in
    let p = read_parted f c.requires a.0 a.2 b.0 b.2 d.0 (ap length (sym d.2) ∙ e) in
    let q = behind_marks p a.2 in
    (p, are_lists f p a.1 q b.1 (after_max_is f q b.2) d.1)
