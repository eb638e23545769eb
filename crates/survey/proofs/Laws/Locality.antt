-- Locality: of a patch, every square directly inside a square without patched cells keeps its presence, its split mark and its stored differences.
-- It rests on one thing: a quarter is in the tree exactly if the square around it is uneven, since all that hold an uneven square are uneven.
-- Assumes nothing.
use mathlib.Core.Path.{◌≡◌, refl, sym, ap, ap₂, ◌∙◌}
use mathlib.Core.Bool.{false}
use mathlib.Core.List.{List}
use Prim.Native.Nat.{ℕ, suc, ◌-◌, ◌/◌}
use lib.IntN.{ℤ}
use Rattle.survey.specs.Raster.{Raster}
use Rattle.survey.specs.Square.{Bounds, square, bounds_at, bounds_of, greatest_or, least_or, is_uneven}
use Rattle.survey.specs.Tree.{is_split, greatest_drop, least_rise, is_present}
use Rattle.survey.specs.Reading.{block_of}
use Rattle.survey.specs.Window.{Window, in_window}
use Rattle.survey.specs.Change.{patched}
use Rattle.survey.proofs.Laws.Presence.{present_by_parent}
use Rattle.survey.proofs.Laws.Squares.{Agrees, bounds_same, agrees_quarter}

-- ---- two rasters that agree in a square

-- a square, so many steps and one more below the whole square, is kept
pub record Kept (A B : Raster) (steps k r c : ℕ) : Type 0 where
  pub presence : is_present A (suc steps) k r c ≡ is_present B (suc steps) k r c
  pub mark : is_split A (square k r c) ≡ is_split B (square k r c)
  pub greatest : greatest_drop A (square k r c) ≡ greatest_drop B (square k r c)
  pub least : least_rise A (square k r c) ≡ least_rise B (square k r c)

pub kept : (A B : Raster) (steps k r c : ℕ) → Agrees A B (suc k) (r / 2) (c / 2) → Kept A B steps k r c
unfolding bounds_of
kept A B steps k r c h =
    let p : bounds_at A (suc k) (r / 2) (c / 2) ≡ bounds_at B (suc k) (r / 2) (c / 2) = bounds_same A B (suc k) (r / 2) (c / 2) h in
    let q : bounds_at A k r c ≡ bounds_at B k r c = bounds_same A B k r c (agrees_quarter r c refl refl h) in
    record {
      presence = present_by_parent A steps k r c ∙ ap is_uneven p ∙ sym (present_by_parent B steps k r c);
      mark = ap is_uneven q;
      greatest = ap₂ (λ (a b : Bounds). greatest_or 0 a - greatest_or (greatest_or 0 a) b) p q;
      least = ap₂ (λ (a b : Bounds). least_or (least_or 0 a) b - least_or 0 a) p q;
    }

-- ---- a patch

-- no cell of the square is patched
pub Untouched : Window → ℕ → ℕ → ℕ → Type 0
Untouched w k r c = (y x : ℕ) → block_of k y ≡ r → block_of k x ≡ c → in_window w y x ≡ false

-- THE LAW
pub locality : (A : Raster) (w : Window) (s : List ℤ) (steps k r c : ℕ) → Untouched w (suc k) (r / 2) (c / 2) → Kept A (patched A w s) steps k r c
unfolding Untouched
locality A w s steps k r c h =
    kept A (patched A w s) steps k r c (record { rows = refl; columns = refl; level = λ y x p q e. rw (h y x p q) refl })
