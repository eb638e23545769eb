-- What the test of a file has to find at each square: the square stands at its place under a parent whose greatest and least are claimed, and lies between them.
-- Assumes nothing.
use Rattle.std.specs.Prelude.{◌≡◌, true, ℕ, ◌-◌, ◌≤◌}
use Rattle.survey.specs.Raster.{Raster, is_real}
use Rattle.survey.specs.Square.{Square, square, quarter, bounds_at, bounds_of, greatest_or, least_or}
use Rattle.survey.specs.Order.{Shape, Lists}
use Rattle.survey.specs.Standing.{Here}
use Rattle.survey.specs.Tree.{is_split}
use Rattle.survey.specs.Reading.{block_of, way_to, level_below}

-- a square, and what is claimed to be its parent's greatest and least
pub record Claim : Type 0 where
  pub at : Square
  pub greatest : ℕ
  pub least : ℕ

abbrev pub claim : Square → ℕ → ℕ → Claim
claim s g l = record { at = s; greatest = g; least = l }

-- the tree with what is claimed in place of what the parent has
abbrev pub claims : Raster → Shape Claim
claims A = record {
  mark = λ n. is_split A n.at;
  kid = λ n i. claim (quarter n.at i) (greatest_or n.greatest (bounds_of A n.at)) (least_or n.least (bounds_of A n.at));
  dmax = λ n. n.greatest - greatest_or n.greatest (bounds_of A n.at);
  dmin = λ n. least_or n.least (bounds_of A n.at) - n.least;
}

-- the square of depth k stands at place z of the lists, under the claimed greatest g and least l, and lies between them
pub record Fit (A : Raster) (L : Lists) (k z g l r c : ℕ) : Type 0 where
  pub here : Here (claims A) L k z (claim (square k r c) g l)
  pub under : greatest_or g (bounds_at A k r c) ≤ g
  pub over : l ≤ least_or l (bounds_at A k r c)

-- the raster's levels in the square are those that a reader finds below place z
unfoldable pub Says : Raster → Lists → ℕ → ℕ → ℕ → ℕ → ℕ → Type 0
Says A L k z g r c = (y x : ℕ) → block_of k y ≡ r → block_of k x ≡ c → is_real A y x ≡ true → A.level y x ≡ level_below L (way_to y x) k z g
