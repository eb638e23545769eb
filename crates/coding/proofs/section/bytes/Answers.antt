-- `coding::section::bytes` meets its contract: a section of bytes starts them just if the count and as many bytes are there.
use mathlib.Core.Path.{◌≡◌, ap, ◌∙◌}
use mathlib.Core.Bool.{true, false}
use mathlib.Core.List.{List}
use Prim.Native.Nat.{ℕ, ◌+◌, ◌≤◌, ◌<◌}
use native.Mathlib.Omega.{arith}
use lib.ListN.{length, take, drop, length-drop}
use lib.Seq.{drop-drop}
use Rattle.std.specs.Prelude.{MatchOption}
use Rattle.std.specs.List.{IsSplitAt}
use Rattle.std.proofs.Common.{Option, None, Some, Bor}
use Rattle.coding.specs.Bytes.{number}
use Rattle.coding.specs.Sections.{bytes_at, after_bytes, starts_bytes}
use Rattle.coding.proofs.Laws.Lists.{not_true}
use Rattle.coding.proofs.Laws.Packing.{Bytes}
use Rattle.coding.proofs.Laws.Sections.{starts_bytes_lem, whole_bytes}
use Rattle.coding.proofs.section.bytes.Goals as goal

pub returns-in_err-count : goal.returns-in_err-count
returns-in_err-count c = rw c.from_residual.ensures (not_true _ (λ e. omega (arith, (starts_bytes_lem _ e).head, c.in_err-count.ensures)))

-- as many bytes behind the count, or fewer
found : (s body : List ℕ) (n : ℕ) (r : Option (Bor (List ℕ) × Bor (List ℕ))) → Bytes s → 4 ≤ length s → n ≡ number s → body ≡ drop 4 s
    → MatchOption r (length body < n) (λ p. IsSplitAt body n p.0.now p.1.now)
    → MatchOption r (starts_bytes s ≡ false) (λ p. (starts_bytes s ≡ true) × (p.0.now ≡ bytes_at s) × (p.1.now ≡ after_bytes s))
unfolding bytes_at after_bytes
found s body n None b h e r m = not_true _ (λ x. omega (arith, (starts_bytes_lem _ x).body, ap length r, length-drop 4 s))
found s body n (Some p) b h e r m = (
  whole_bytes s b h (omega (arith, m.0, ap length r, length-drop 4 s)),
  m.1 ∙ ap (take n) r ∙ ap (λ k. take k (drop 4 s)) e,
  m.2 ∙ ap (drop n) r ∙ drop-drop n 4 s ∙ ap (λ k. drop (4 + k) s) e,
)

pub returns : goal.returns
returns c =
    let s = c.args.s.now in
    let e = c.in_ok-count.ensures in
    found s c.in_ok-count.body.now c.in_ok-count.count c.split_at_checked.result (λ i h. (c.type_inv.s i).fits) e.0 e.1 e.3 c.split_at_checked.ensures.cases
