-- `coding::section::bits` meets its contract: a section of bits starts them just if the count and bytes for as many bits are there, and the
-- unused bits are 0.
use mathlib.Core.Path.{◌≡◌, sym, ap, ◌∙◌}
use Prim.Native.Nat.{◌+◌, ◌/◌}
use native.Mathlib.Omega.{arith}
use lib.ListN.{length, take, drop, length-drop}
use lib.Seq.{drop-drop}
use Rattle.coding.specs.Bits.{all_bits}
use Rattle.coding.specs.Places.{bits_of}
use Rattle.coding.specs.Sections.{bits_at, after_bits}
use Rattle.coding.proofs.Laws.Lists.{no_bit, not_true}
use Rattle.coding.proofs.Laws.Sections.{padded, starts_bits_lem, whole_bits}
use Rattle.coding.proofs.section.bits.Goals as goal
use Rattle.coding.proofs.section.bits.Goals.{After-clear_behind}

pub returns-in_err-count : goal.returns-in_err-count
returns-in_err-count c = rw c.from_residual.ensures (not_true _ (λ e. omega (arith, (starts_bits_lem _ e).head, c.in_err-count.ensures)))

pub returns-in_err-rest : goal.returns-in_err-rest
returns-in_err-rest c =
    let s = c.args.s.now in
    let p = c.in_ok-count.ensures in
    rw c.from_residual-in_err-rest.ensures
    (not_true _ (λ e. omega (arith, (starts_bits_lem _ e).body, p.1, ap length p.3, length-drop 4 s, c.div_ceil.ensures, c.in_err-rest.ensures.cases)))

-- what was asked of the bytes behind the count
clear : (c : After-clear_behind) → c.clear_behind.result ≡ padded (drop 4 c.args.s.now) c.in_ok-count.count
clear c = c.clear_behind.ensures ∙ ap (λ s. padded s c.in_ok-count.count) c.in_ok-count.ensures.3

pub returns-then-clear_behind : goal.returns-then-clear_behind
unfolding bits_at after_bits
returns-then-clear_behind c =
    let s = c.args.s.now in
    let p = c.in_ok-count.ensures in
    let r = c.in_ok-rest.ensures.cases in
    let q = clear (goal.at.returns-then-clear_behind c).After-clear_behind in
    let size : c.div_ceil.result ≡ (c.in_ok-count.count + 7) / 8 = omega (arith, c.div_ceil.ensures) in (
      whole_bits s (λ i h. (c.type_inv.s i).fits) p.0 (omega (arith, r.0, size, p.1, ap length p.3, length-drop 4 s))
          (ap (padded (drop 4 s)) (sym p.1) ∙ sym q ∙ c.if-clear_behind.true),
      c.new.ensures ∙ ap (λ t. bits_of t c.in_ok-count.count) p.3 ∙ ap (λ m. take m (all_bits (drop 4 s))) p.1,
      r.2 ∙ ap (drop c.div_ceil.result) p.3 ∙ drop-drop c.div_ceil.result 4 s ∙ ap (λ m. drop (4 + m) s) (size ∙ ap (λ m. (m + 7) / 8) p.1),
    )

pub returns : goal.returns
returns c =
    let q = clear (goal.at.returns c).After-clear_behind in
    not_true _ (λ e. no_bit (sym (starts_bits_lem _ e).clear ∙ ap (padded (drop 4 c.args.s.now)) (sym c.in_ok-count.ensures.1) ∙ sym q ∙ c.if-clear_behind.false))
