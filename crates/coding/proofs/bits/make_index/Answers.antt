-- `coding::bits::make_index` meets its contract: the ones before a block are those before the block before it, and its own.
use mathlib.Core.Path.{◌≡◌, ◌∙◌, ap, sym}
use mathlib.Core.List.{List}
use mathlib.Core.Logic.{◌⊎◌, ⊎_elim}
use Prim.Native.Nat.{ℕ, ◌+◌, ◌*◌, ◌-◌, ◌<◌}
use native.Mathlib.Nat.{eq-or-lt_of_le}
use native.Mathlib.Omega.{arith}
use lib.ListN.{length, get_or, set}
use lib.Seq.{get_or-set_same, get_or-set_other}
use Rattle.coding.specs.Places.{ones_in}
use Rattle.coding.proofs.Laws.Bits.{ones_in_le, ones_in_block, index_made}
use Rattle.coding.proofs.bits.make_index.Goals as goal
use Rattle.coding.proofs.bits.make_index.Goals.{After-ones_in-sum}

-- one more is stored
one_more : (f : ℕ → ℕ) (x : List ℕ) (b v : ℕ) → b < length x → v ≡ f b → ((k : ℕ) → k < b → get_or x k 0 ≡ f k)
    → (k : ℕ) → k < b + 1 → get_or (set x b v) k 0 ≡ f k
one_more f x b v h e all k m =
    let c : (k ≡ b) ⊎ (k < b) = eq-or-lt_of_le (omega arith) in
    ⊎_elim (λ p. ap (λ i. get_or (set x b v) i 0) p ∙ get_or-set_same x b v 0 h ∙ e ∙ ap f (sym p))
    (λ p. get_or-set_other x b k v 0 (λ q. absurd (omega arith)) ∙ all k p) c

-- the ones of the block before are added
sum_is : (c : After-ones_in-sum) → c.loop-b.sum + c.ones_in-sum.result ≡ ones_in c.args.s.now (64 * c.loop-b.b)
sum_is c =
    let s = c.args.s.now in
    let a = 64 * c.saturating_sub.result in
    let b = 64 * c.loop-b.b in
    let e : a + (b - a) ≡ b = omega (arith, c.saturating_sub.ensures) in
    omega (
      arith,
      c.loop-b.invariant.sums,
      ap (λ k. ones_in s (64 * k)) c.saturating_sub.ensures,
      ap (ones_in s) e,
      ones_in_block s a (b - a) b c.ones_in-sum.result (omega (arith, c.saturating_sub.ensures)) (omega (arith, e)) c.ones_in-sum.ensures.0,
    )

pub overflow_add-sum : goal.overflow_add-sum
overflow_add-sum c =
    omega (arith, sum_is (goal.at.overflow_add-sum c).After-ones_in-sum, ones_in_le c.args.s.now (64 * c.loop-b.b))

pub overflow_cast-count : goal.overflow_cast-count
overflow_cast-count c =
    omega (arith, sum_is (goal.at.overflow_cast-count c).After-ones_in-sum, ones_in_le c.args.s.now (64 * c.loop-b.b))

pub loop-b-preserved : goal.loop-b-preserved
loop-b-preserved c =
    let l = c.loop-b in
    let s = c.args.s.now in
    let e = sum_is (goal.at.loop-b-preserved c).After-ones_in-sum in
    let n : l.b + 1 - 1 ≡ l.b = omega arith in
    record {
      sums = e ∙ ap (λ k. ones_in s (64 * k)) (sym n);
      stored = one_more (λ k. ones_in s (64 * k)) l.index l.b _ (omega arith) e l.invariant.stored;
    }

pub returns : goal.returns
returns c =
    index_made c.args.s.now c.loop-b.index c.args.n c.requires.n_bound.0 c.requires.n_bound.1 (omega arith)
    (λ k h. c.loop-b.invariant.stored k (omega arith))
