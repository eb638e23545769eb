-- What the test finds is told by what C gets of it, so its promise has one answer of the code.
-- Assumes nothing.
use mathlib.Core.Path.{◌≡◌, sym, ap, ◌∙◌}
use mathlib.Core.Bool.{Bool, true, false, not}
use mathlib.Core.List.{List, [], ◌∷◌}
use Prim.Native.Nat.{ℕ}
use native.Mathlib.Omega.{arith}
use Rattle.std.proofs.Common.{Result, Ok, Err}
use Rattle.coding.specs.Calls.{refuse, first_of}
use Rattle.coding.specs.declared.refusal.Refusal.{Refusal}
use Rattle.coding.proofs.Laws.Answers.{back_without, refusal_at, a_number}
use Rattle.survey.specs.Raster.{Raster}
use Rattle.survey.specs.Reading.{survey_in, is_file}
use Rattle.survey.specs.Answers.{as_heading}
use Rattle.survey.specs.Calls.{Tests, heading_of, test_refusal}
use Rattle.survey.specs.declared.Heading.{Heading}
use Rattle.survey.specs.declared.Outline.{Outline}
use Rattle.survey.proofs.Laws.Calls.{one_test}

pub one_heading : (r s : Result Outline Refusal) → as_heading r ≡ as_heading s → ((as_heading r).refusal ≡ 6 → ⊥) → r ≡ s
one_heading (Ok o) (Ok p) e h =
    ap Ok (ap (λ (g : Heading). record { rows = g.rows; columns = g.columns; greatest = g.greatest; least = g.least }) e)
one_heading (Ok o) (Err y) e h = absurd (a_number y (sym (ap (λ (g : Heading). g.refusal) e)))
one_heading (Err x) (Ok p) e h = absurd (a_number x (ap (λ (g : Heading). g.refusal) e))
one_heading (Err x) (Err y) e h =
    let n = ap (λ (g : Heading). g.refusal) e in
    ap Err (sym (back_without x h) ∙ ap (λ k. refusal_at k 0) n ∙ back_without y (λ g. h (n ∙ g)))

-- the test is never refused for room
no_room : {f : List ℕ} {r : Heading} → Tests f r → r.refusal ≡ 6 → ⊥
unfolding test_refusal
no_room {f} p e = neither (is_file f) (survey_in f) (sym (ap (λ (g : Heading). g.refusal) p.answer) ∙ e)
  where
    neither : (b : Bool) (A : Raster) → (heading_of (first_of (refuse 3 (not b) ∷ [])) A).refusal ≡ 6 → ⊥
    neither true A e = absurd (omega arith)
    neither false A e = absurd (omega arith)

pub one_test_answer : {f : List ℕ} (r s : Result Outline Refusal) → Tests f (as_heading r) → Tests f (as_heading s) → r ≡ s
one_test_answer r s p q = one_heading r s (one_test p q) (no_room p)
