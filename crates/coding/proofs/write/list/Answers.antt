-- `coding::write::list` meets its contract: five sections, each laid where the one before ended, are the packed list.
use mathlib.Core.Path.{◌≡◌, refl, sym, ◌∙◌, subst}
use mathlib.Core.Bool.{Bool, true, false}
use mathlib.Core.List.{List}
use Prim.Native.Nat.{ℕ, ◌+◌, ◌/◌, ◌≤◌}
use native.Mathlib.Omega.{arith}
use Rattle.coding.specs.Lanes.{items_of, WrittenAt, Counts, first_part, more_part, second_part, again_part, third_part}
use Rattle.coding.specs.declared.lanes.part.Part.{Part}
use Rattle.coding.proofs.Laws.Items.{items_same, items_long, count_all, length-packed}
use Rattle.coding.proofs.Laws.Written.{five_laid}
use Rattle.coding.proofs.write.list.Goals as goal

-- the buffer has room for all five
room : (l : List ℕ) {n n2 n3 size : ℕ} → Counts l n n2 n3 size → 20 + n + (n + 7) / 8 + n2 + (n2 + 7) / 8 + n3 ≤ size
room l p = omega (arith, length-packed l, p.all, p.two, p.three, p.fits)

-- a part of the code is the part that the definitions name
named : (b : Bool) (p q : Part) (l o new : List ℕ) (at : ℕ) → p.bits ≡ q.bits → p.from ≡ q.from → p.by ≡ q.by
    → WrittenAt b (items_of p l) o at new → WrittenAt b (items_of q l) o at new
named b p q l o new at h f y w = subst (λ m. WrittenAt b m o at new) (items_same p q h f y l) w

pub invariant_of-first-2 : goal.invariant_of-first-2
invariant_of-first-2 c =
    let l = c.args.numbers.now in
    record { counted = c.requires.all ∙ sym (count_all l) ∙ sym (items_long _ l) }

pub invariant_of-more-2 : goal.invariant_of-more-2
invariant_of-more-2 c =
    let l = c.args.numbers.now in
    record { counted = c.requires.all ∙ sym (count_all l) ∙ sym (items_long _ l) }

pub invariant_of-second-2 : goal.invariant_of-second-2
invariant_of-second-2 c = record { counted = c.requires.two ∙ sym (items_long _ c.args.numbers.now) }

pub invariant_of-again-2 : goal.invariant_of-again-2
invariant_of-again-2 c = record { counted = c.requires.two ∙ sym (items_long _ c.args.numbers.now) }

pub invariant_of-third-2 : goal.invariant_of-third-2
invariant_of-third-2 c = record { counted = c.requires.three ∙ sym (items_long _ c.args.numbers.now) }

pub section_at-a-requires : goal.section_at-a-requires
section_at-a-requires c = omega (arith, room c.args.numbers.now c.requires)

pub section_at-b-requires : goal.section_at-b-requires
section_at-b-requires c = omega (arith, room c.args.numbers.now c.requires)

pub section_at-c-requires : goal.section_at-c-requires
section_at-c-requires c = omega (arith, room c.args.numbers.now c.requires)

pub section_at-d-requires : goal.section_at-d-requires
section_at-d-requires c = omega (arith, room c.args.numbers.now c.requires)

pub section_at-requires : goal.section_at-requires
section_at-requires c = omega (arith, room c.args.numbers.now c.requires)

pub returns : goal.returns
returns c =
    let l = c.args.numbers.now in
    let p = c.requires in
    let w1 = c.section_at-a in
    let w2 = c.section_at-b in
    let w3 = c.section_at-c in
    let w4 = c.section_at-d in
    let w5 = c.section_at in
    five_laid l p.range c.args.out.now w1.new.out w2.new.out w3.new.out w4.new.out w5.new.out
    0 w1.result w2.result w3.result w4.result
    (named false _ first_part l _ _ _ refl refl refl w1.ensures.written) (omega arith)
    (named true _ more_part l _ _ _ refl refl refl w2.ensures.written) (omega arith)
    (named false _ second_part l _ _ _ refl refl refl w3.ensures.written) (omega arith)
    (named true _ again_part l _ _ _ refl refl refl w4.ensures.written) (omega arith)
    (named false _ third_part l _ _ _ refl refl refl w5.ensures.written)
