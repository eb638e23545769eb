-- `coding::list::none_idle` meets its contract: a byte that is not 0, or of which more follows, leaves the test to those behind it.
use mathlib.Core.Path.{◌≡◌, refl, sym, ap, ◌∙◌}
use mathlib.Core.Bool.{Bool, true, false, ◌||◌, ◌&&◌, not}
use mathlib.Core.List.{List, [], ◌∷◌}
use Prim.Native.Nat.{ℕ, zero, suc, ◌+◌, ◌≤◌, ◌<◌}
use native.Mathlib.Numerals.{add-one}
use native.Mathlib.Omega.{arith}
use borrow.Author.Tests.{ne_eqb}
use lib.Dec.{eqb}
use lib.ListN.{length, get_or, drop, drop_of_length-le}
use lib.Seq.{drop-nil}
use Rattle.coding.specs.Places.{none_idle}
use Rattle.coding.specs.Seen.{bits_in}
use Rattle.coding.proofs.list.none_idle.Goals as goal
use Rattle.coding.proofs.list.none_idle.Goals.{else-x-eq0-via-then-x-eq0+else-not-get, else-x-eq0-via-else-x-eq0}

-- ---- one byte

idle_step : (s : List ℕ) (l : List Bool) (i : ℕ) → i < length s
    → none_idle (drop i s) (drop i l) ≡ (get_or l i false || not (eqb (get_or s i 0) 0)) && none_idle (drop (i + 1) s) (drop (i + 1) l)
idle_step s l i h = rw add-one (step s l i h)
  where
    step : (s : List ℕ) (l : List Bool) (i : ℕ) → i < length s
        → none_idle (drop i s) (drop i l) ≡ (get_or l i false || not (eqb (get_or s i 0) 0)) && none_idle (drop (suc i) s) (drop (suc i) l)
    step [] l i h = absurd (omega arith)
    step (x ∷ s) [] zero h = refl
    step (x ∷ s) [] (suc i) h = rw drop-nil at (step s [] i (omega arith))
    step (x ∷ s) (b ∷ l) zero h = refl
    step (x ∷ s) (b ∷ l) (suc i) h = step s l i (omega arith)

module _ (s : List ℕ) (l : List Bool) (i : ℕ) (h : i < length s) where
  idle_here : get_or s i 0 ≡ 0 → get_or l i false ≡ false → none_idle (drop i s) (drop i l) ≡ false
  idle_here e n = idle_step s l i h ∙ rw (n, e) refl

  marked_here : get_or l i false ≡ true → none_idle (drop (i + 1) s) (drop (i + 1) l) ≡ none_idle (drop i s) (drop i l)
  marked_here n = sym (idle_step s l i h ∙ rw n refl)

  not_zero-here : (get_or s i 0 ≡ 0 → ⊥) → none_idle (drop (i + 1) s) (drop (i + 1) l) ≡ none_idle (drop i s) (drop i l)
  not_zero-here n = sym (idle_step s l i h ∙ ap (λ b. (get_or l i false || not b) && none_idle (drop (i + 1) s) (drop (i + 1) l)) (ne_eqb (get_or s i 0) 0 n) ∙ either (get_or l i false) _)
    where
      either : (b r : Bool) → ((b || true) && r) ≡ r
      either true r = refl
      either false r = refl

none_left : (s : List ℕ) (l : List Bool) (i : ℕ) → length s ≤ i → none_idle (drop i s) (drop i l) ≡ true
none_left s l i h = rw (drop_of_length-le s {i = i} h) refl

-- ---- the function

pub returns-then-not-get : goal.returns-then-not-get
returns-then-not-get c =
    let l = c.loop-i in
    sym (idle_here c.args.s.now (bits_in c.args.more.now) l.i c.loop-i-test.true c.if-x-eq0.true (sym c.get.ensures ∙ c.if-not-get.true)) ∙ l.invariant

pub loop-i-preserved : goal.loop-i-preserved
loop-i-preserved c =
    let s = c.args.s.now in
    let m = bits_in c.args.more.now in
    let l = c.loop-i in
    let same : none_idle (drop (l.i + 1) s) (drop (l.i + 1) m) ≡ none_idle (drop l.i s) (drop l.i m) =
    elim c.else-x-eq0.branch [
      | else-x-eq0-via-then-x-eq0+else-not-get w ↦ marked_here s m l.i c.loop-i-test.true (sym w.get.ensures ∙ w.if-not-get.false)
      | else-x-eq0-via-else-x-eq0 w ↦ not_zero-here s m l.i c.loop-i-test.true w.if-x-eq0.false
    ] in
    same ∙ l.invariant

pub returns : goal.returns
returns c =
    let l = c.loop-i in
    sym (none_left c.args.s.now (bits_in c.args.more.now) l.i c.loop-i-test.false) ∙ l.invariant
