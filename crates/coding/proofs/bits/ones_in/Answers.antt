-- `coding::bits::ones_in` meets its contract: eight bytes more have the ones of the number that they make, and a byte more has its own.
use mathlib.Core.Path.{◌≡◌, refl, ap, ◌∙◌, subst⁻¹}
use mathlib.Core.List.{List, []}
use Prim.Native.Nat.{ℕ, zero, suc, ◌+◌, ◌*◌, ◌/◌, ◌≤◌, ◌<◌}
use native.Mathlib.Nat.{mod-eq_of_lt}
use native.Mathlib.Omega.{arith}
use lib.Count as Count
use lib.ListN.{length, get_or, take, drop}
use lib.Seq.{drop-drop, get_or-drop, get_or-take}
use Rattle.std.specs.Simd.{first_chunks}
use Rattle.coding.specs.Places.{ones_in}
use Rattle.coding.proofs.Laws.Bits.{eight, ones_in_one, ones_in_part}
use Rattle.coding.proofs.bits.ones_in.Goals as goal

-- the chunk i of eight bytes stands from 8 i on
chunk_at : (s : List ℕ) (k i : ℕ) → i < k → get_or (first_chunks 8 k s) i [] ≡ take 8 (drop (8 * i) s)
chunk_at s zero i h = absurd (omega arith)
chunk_at s (suc k) zero h = refl
chunk_at s (suc k) (suc i) h =
    let e : 8 + 8 * i ≡ 8 * suc i = omega arith in
    chunk_at (drop 8 s) k i (omega arith) ∙ ap (take 8) (drop-drop (8 * i) 8 s ∙ ap (λ m. drop m s) e)

-- its bytes are those of the slice
chunk_bytes : (s : List ℕ) (a : ℕ) → ((i : ℕ) → get_or s i 0 < 256) → (i : ℕ) → i < 8 → get_or (take 8 (drop a s)) i 0 < 256
chunk_bytes s a b i h = rw (get_or-take 8 (drop a s) i 0 h, get_or-drop a s i 0) (b (a + i))

one_more : (s : List ℕ) (a i : ℕ) → get_or s (a + i) 0 < 256 → ones_in s (a + (i + 1)) ≡ ones_in s (a + i) + Count.ones (get_or (drop a s) i 0)
one_more s a i b =
    let m : a + (i + 1) ≡ a + i + 1 = omega arith in
    omega (arith, ap (ones_in s) m, ones_in_one s (a + i), ap Count.ones (mod-eq_of_lt b), ap Count.ones (get_or-drop a s i 0))

pub loop-word-preserved : goal.loop-word-preserved
loop-word-preserved c =
    let s = c.args.s.now in
    let i = c.loop-word.word-index in
    let t = get_or c.as_chunks.result.0.now i [] in
    let f = c.as_chunks.ensures in
    let e : t ≡ take 8 (drop (8 * i) s) = ap (λ l. get_or l i []) f.front ∙ chunk_at s (length s / 8) i (omega (arith, f.front_len, c.loop-word-test.true)) in
    let w = eight t (subst⁻¹ (λ x. (j : ℕ) → j < 8 → get_or x j 0 < 256) e (chunk_bytes s (8 * i) (λ j. (c.type_inv.s j).fits))) c.from_le_bytes.result
    (omega (arith, c.from_le_bytes.ensures)) in
    let m : 8 * (i + 1) ≡ 8 * i + 8 = omega arith in
    let n = ones_in_part s (8 * i) 8 (Count.ones c.from_le_bytes.result) (w.0 ∙ ap (λ x. ones_in x 8) e) in
    (omega (arith, ap (ones_in s) m, n, c.loop-word.invariant.0), omega (arith, w.1))

pub loop-x-preserved : goal.loop-x-preserved
loop-x-preserved c =
    let l = c.loop-x in
    let s = c.args.s.now in
    let a = length s / 8 * 8 in
    let b = (c.type_inv.s (a + l.x-index)).fits in
    let e = ap (λ t. get_or t l.x-index 0) c.as_chunks.ensures.back in
    let m : Count.ones (get_or s (a + l.x-index) 0) ≤ 8 = Count.ones-le 8 (get_or s (a + l.x-index) 0) b in
    (omega (arith, one_more s a l.x-index b, ap Count.ones e, l.invariant.0), omega (arith, m, ap Count.ones e, ap Count.ones (get_or-drop a s l.x-index 0)))
