-- `grid::test` meets its contract: an accepted file's heading is that of the survey that it says.
use mathlib.Core.Path.{◌≡◌, refl, sym, ap, ◌∙◌}
use mathlib.Core.Bool.{true, false}
use mathlib.Core.List.{List}
use Prim.Native.Nat.{ℕ, ◌≤◌, ◌<◌}
use native.Mathlib.Omega.{arith}
use lib.IntN.{ℤ, pos}
use lib.ListN.{length}
use mir.Syntax.{w32}
use mir.Val.{to_z, of_z}
use mir.ValLaws.{to_z-of_z}
use Rattle.survey.specs.Level.{turned, lowered}
use Rattle.survey.specs.Reading.{rows_in, columns_in, greatest_in, least_in, survey_in, is_file}
use Rattle.survey.specs.Calls.{Tests, test_refusal}
use Rattle.survey.proofs.Laws.Levels.{lowered_fits}
use Rattle.grid.proofs.Laws.Sound.{is_headed_lem, file_headed, greatest_is, least_is}
use Rattle.grid.proofs.test.Goals as goal
use Rattle.grid.proofs.test.Goals.{Else-not-is_file}

-- what the function gives back of an unsigned level
given : {v w : ℕ} {g : ℤ} → v < 4294967296 → g ≡ lowered v → v ≡ w → to_z w32 (of_z w32 g) ≡ lowered w
given {v} h p q = ap (λ (z : ℤ). to_z w32 (of_z w32 z)) p ∙ to_z-of_z w32 (lowered v) (lowered_fits v h) ∙ ap lowered q

accepted : (f : List ℕ) → is_file f ≡ true → {rows columns : ℕ} {g l : ℤ} → rows ≡ rows_in f → columns ≡ columns_in f → g ≡ lowered (greatest_in f)
    → l ≡ lowered (least_in f) → Tests f (record { refusal = 0; rows = rows; columns = columns; greatest = g; least = l })
unfolding test_refusal survey_in
accepted f e r c g l = record {
  answer = rw e (λ i. record {
    refusal = 0;
    rows = r i;
    columns = c i;
    greatest = (g ∙ ap lowered (greatest_is f e)) i;
    least = (l ∙ ap lowered (least_is f e)) i;
  });
}

unaccepted : (f : List ℕ) → is_file f ≡ false → Tests f (record { refusal = 3; rows = 0; columns = 0; greatest = pos 0; least = pos 0 })
unfolding test_refusal
unaccepted f e = record { answer = rw e refl }

long : (f : List ℕ) → is_file f ≡ true → 20 ≤ length f
long f e = (is_headed_lem f (file_headed f e)).long

is_it : (c : Else-not-is_file) → is_file c.args.f.now ≡ true
is_it c = sym c.is_file.ensures ∙ c.if-not-is_file.false

pub get-requires : goal.get-requires
get-requires c = omega (arith, long _ (is_it c))

pub get-requires-2 : goal.get-requires-2
get-requires-2 c = omega (arith, long _ (is_it (goal.at.get-requires-2 c).Else-not-is_file))

pub get-requires-3 : goal.get-requires-3
get-requires-3 c = omega (arith, long _ (is_it (goal.at.get-requires-3 c).Else-not-is_file))

pub get-requires-4 : goal.get-requires-4
get-requires-4 c = omega (arith, long _ (is_it (goal.at.get-requires-4 c).Else-not-is_file))

pub returns-then-not-is_file : goal.returns-then-not-is_file
returns-then-not-is_file c = unaccepted _ (sym c.is_file.ensures ∙ c.if-not-is_file.true)

pub returns : goal.returns
returns c =
    accepted _ (is_it (goal.at.returns c).Else-not-is_file) c.get.ensures c.get-2.ensures
    (given (omega arith) c.lower.ensures (c.turn.ensures ∙ ap turned c.get-3.ensures))
    (given (omega arith) c.lower-2.ensures (c.turn-2.ensures ∙ ap turned c.get-4.ensures))
