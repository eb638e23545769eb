-- `coding::list::Sections::agree` meets its contract: its six tests, in order, are those of the definition.
use mathlib.Core.Path.{◌≡◌, sym, ap, ◌∙◌}
use mathlib.Core.Bool.{◌&&◌}
use borrow.Author.Tests.{eq-eqb, ne_eqb}
use lib.Dec.{eqb}
use lib.ListN.{length}
use Rattle.coding.specs.Bits.{ones}
use Rattle.coding.proofs.Laws.Lists.{held, failed, in_order}
use Rattle.coding.specs.Places.{none_idle, none_zero, agree}
use Rattle.coding.specs.Seen.{parts_in}
use Rattle.coding.specs.Lists.{Parts}
use Rattle.coding.proofs.list.Sections.agree.Goals as goal
use Rattle.coding.proofs.list.Sections.agree.Goals.{Joined-self-ones-2, then-len-self, else-len-self, then-self-ones, else-self-ones, then-len-self-2, else-len-self-2, then-self-ones-2, else-self-ones-2}

-- the tests, one behind the other, are those of the definition
all : (p : Parts)
    → ((((eqb (length p.more) (length p.first) && eqb (length p.second) (ones p.more)) && eqb (length p.again) (length p.second)) && eqb (length p.third) (ones p.again))
    && none_idle p.second p.again)
    && none_zero p.third
    ≡ agree p
unfolding agree
all p =
    in_order (eqb (length p.more) (length p.first)) (eqb (length p.second) (ones p.more)) (eqb (length p.again) (length p.second)) (eqb (length p.third) (ones p.again)) _ _

-- the first five tests
five : (c : Joined-self-ones-2) → let i = parts_in c.args.self.now in
    c.if-self-ones-2.value
    ≡ (((eqb (length i.more) (length i.first) && eqb (length i.second) (ones i.more)) && eqb (length i.again) (length i.second)) && eqb (length i.third) (ones i.again))
    && none_idle i.second i.again
five c =
    let i = parts_in c.args.self.now in
    let a = eqb (length i.more) (length i.first) in
    let b = eqb (length i.second) (ones i.more) in
    let d = eqb (length i.again) (length i.second) in
    let e = eqb (length i.third) (ones i.again) in
    let n : eqb c.len.result (length i.first) ≡ a = ap (λ k. eqb k (length i.first)) c.len.ensures.0 in
    let two : c.if-len-self.value ≡ a && b =
    elim c.if-len-self.branch [
      | then-len-self w ↦ held b (sym n ∙ eq-eqb _ _ w.if-len-self.true) (w.value-is ∙ ap (eqb (length i.second)) w.ones.ensures)
      | else-len-self w ↦ failed b (sym n ∙ ne_eqb _ _ w.if-len-self.false) (w.value-is ∙ n)
    ] in
    let three : c.if-self-ones.value ≡ (a && b) && d =
    elim c.if-self-ones.branch [
      | then-self-ones w ↦
          held d (sym two ∙ w.if-self-ones.true) (w.value-is ∙ ap (λ k. eqb k (length i.second)) w.len-then-self-ones.ensures.0)
      | else-self-ones w ↦ failed d (sym two ∙ w.if-self-ones.false) (w.value-is ∙ two)
    ] in
    let four : c.if-len-self-2.value ≡ ((a && b) && d) && e =
    elim c.if-len-self-2.branch [
      | then-len-self-2 w ↦ held e (sym three ∙ w.if-len-self-2.true) (w.value-is ∙ ap (eqb (length i.third)) w.ones-then-len-self-2.ensures)
      | else-len-self-2 w ↦ failed e (sym three ∙ w.if-len-self-2.false) (w.value-is ∙ three)
    ] in
    elim c.if-self-ones-2.branch [
      | then-self-ones-2 w ↦ held (none_idle i.second i.again) (sym four ∙ w.if-self-ones-2.true) (w.value-is ∙ w.none_idle.ensures)
      | else-self-ones-2 w ↦ failed (none_idle i.second i.again) (sym four ∙ w.if-self-ones-2.false) (w.value-is ∙ four)
    ]

pub returns-then-none_idle : goal.returns-then-none_idle
returns-then-none_idle c =
    let j = (goal.at.returns-then-none_idle c).Joined-self-ones-2 in
    held (none_zero c.args.self.now.third.now) (sym (five j) ∙ c.if-none_idle.true) c.none_zero.ensures ∙ all _

pub returns-else-none_idle : goal.returns-else-none_idle
returns-else-none_idle c =
    let j = (goal.at.returns-else-none_idle c).Joined-self-ones-2 in
    failed (none_zero c.args.self.now.third.now) (sym (five j) ∙ c.if-none_idle.false) (five j) ∙ all _
