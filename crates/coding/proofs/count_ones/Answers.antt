-- `coding::count_ones` meets its contract: bytes are a section of bits just if one starts them and nothing is behind it.
use mathlib.Core.Path.{◌≡◌, refl, sym, ap, ◌∙◌}
use mathlib.Core.Bool.{Bool, true, false, not}
use mathlib.Core.List.{List, [], ◌∷◌}
use Prim.Native.Nat.{ℕ, ◌+◌, ◌-◌, ◌/◌}
use native.Mathlib.Omega.{arith}
use borrow.Author.Tests.{eqb-true, eqb-false}
use lib.ListN.{length, length-drop}
use Rattle.coding.specs.Bits.{ones_before}
use Rattle.coding.specs.Bytes.{number}
use Rattle.coding.specs.Calls.{refuse, first_of, amount_of, ones_refusal, CountsOnes}
use Rattle.coding.specs.Sections.{bit_section, bits_at, after_bits, starts_bits, is_bit_section}
use Rattle.coding.proofs.Laws.Lists.{no_bit}
use Rattle.coding.proofs.Laws.Sections.{starts_bits_lem, starts-whole, whole-starts, is_bits}
use Rattle.coding.proofs.count_ones.Goals as goal

-- ---- a section of bits, and nothing behind it

section_starts : (s : List ℕ) → is_bit_section s ≡ true → starts_bits s ≡ true
unfolding is_bit_section starts_bits
section_starts s e = whole-starts s (bit_section (bits_at s)) e

starts_section : (s : List ℕ) → starts_bits s ≡ true → length (bit_section (bits_at s)) ≡ length s → is_bit_section s ≡ true
unfolding is_bit_section starts_bits
starts_section s e n = starts-whole s (bit_section (bits_at s)) e n

-- what is behind it is as long as the bytes less the section
behind : (s t : List ℕ) → t ≡ after_bits s → length t ≡ length s - (4 + (number s + 7) / 8)
unfolding after_bits
behind s t e = ap length e ∙ length-drop (4 + (number s + 7) / 8) s

-- ---- the answers

refused : (b : Bool) (a : ℕ) → (b ≡ true → ⊥) → record { refusal = 3; amount = 0 } ≡ amount_of (first_of (refuse 3 (not b) ∷ [])) a
refused true a h = absurd (h refl)
refused false a h = refl

no_section : (s : List ℕ) (z : ℕ) → (is_bit_section s ≡ true → ⊥) → CountsOnes s z (record { refusal = 3; amount = 0 })
unfolding ones_refusal
no_section s z h = record { answer = refused (is_bit_section s) (ones_before (bits_at s) z) h }

a_section : (s : List ℕ) (z r : ℕ) → is_bit_section s ≡ true → r ≡ ones_before (bits_at s) z → CountsOnes s z (record { refusal = 0; amount = r })
unfolding ones_refusal
a_section s z r e h = record { answer = rw (e, h) refl }

-- ---- the function

pub returns-in_default : goal.returns-in_default
returns-in_default c = no_section c.args.s.now c.args.z (λ e. no_bit (sym (section_starts c.args.s.now e) ∙ c.in_default.ensures))

pub returns-then-not-is_empty : goal.returns-then-not-is_empty
returns-then-not-is_empty c =
    let s = c.args.s.now in
    let p = c.in-Some.ensures in
    no_section s c.args.z (λ e. eqb-false _ _ (sym c.is_empty.ensures ∙ c.if-not-is_empty.true)
    (omega (arith, behind s c.in-Some.rest.now p.2, ap length (is_bits s e), (starts_bits_lem s p.0).size)))

pub returns : goal.returns
returns c =
    let s = c.args.s.now in
    let p = c.in-Some.ensures in
    let w = starts_bits_lem s p.0 in
    let e = eqb-true _ _ (sym c.is_empty.ensures ∙ c.if-not-is_empty.false) in
    a_section s c.args.z c.ones_before.result (starts_section s p.0 (omega (arith, e, behind s c.in-Some.rest.now p.2, w.size, w.body)))
    (c.ones_before.ensures.0 ∙ ap (λ l. ones_before l c.args.z) p.1)
