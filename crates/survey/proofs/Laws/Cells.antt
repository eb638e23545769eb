-- Squares and their cells: where a square has real cells, what it has without any, and what it has if they are all alike.
-- Assumes nothing.
use mathlib.Core.Path.{◌≡◌, refl, sym, ap, ◌∙◌}
use mathlib.Core.Bool.{true}
use Prim.Native.Nat.{ℕ, zero, suc, ◌*◌, ◌^◌, ◌≤◌, ◌<◌}
use native.Mathlib.Nat.{pow-suc, mul_assoc, mul_comm}
use native.Mathlib.Omega.{arith}
use lib.Dec.{ltb}
use borrow.Author.Tests.{ltb-true, lt-ltb}
use Rattle.coding.proofs.Laws.Lists.{and_left, and_right, and_both}
use Rattle.survey.specs.Raster.{Raster, is_real}
use Rattle.survey.specs.Square.{Bounds, none, span, bounds_at}
use Rattle.survey.specs.Reading.{block_of}
use Rattle.survey.proofs.Laws.Squares.{Inside, cell_inside, Met, Ends, bounds_met}

twice : (r k : ℕ) → r * 2 ^ suc k ≡ 2 * r * 2 ^ k
twice r k = ap (λ (n : ℕ). r * n) (pow-suc 2 k) ∙ sym (mul_assoc r (2 ^ k) 2) ∙ mul_comm (r * 2 ^ k) 2 ∙ sym (mul_assoc 2 r (2 ^ k))

-- a row in the r-th row of squares is none before it
pub block_floor : (k y r : ℕ) → r ≤ block_of k y → r * 2 ^ k ≤ y
block_floor zero y r h = omega arith
block_floor (suc k) y r h = omega (arith, twice r k, block_floor k y (2 * r) (omega arith))

-- the first row of the r-th row of squares lies there
pub block_corner : (k r : ℕ) → block_of k (r * 2 ^ k) ≡ r
block_corner zero r = omega arith
block_corner (suc k) r =
    let e : block_of k (r * 2 ^ suc k) ≡ 2 * r = ap (block_of k) (twice r k) ∙ block_corner k (2 * r) in
    omega arith

module _ (A : Raster) (k r c : ℕ) where
  real_row : (y x : ℕ) → is_real A y x ≡ true → (y < A.rows) × (x < A.columns)
  real_row y x e =
      (ltb-true y A.rows (and_left (ltb y A.rows) (ltb x A.columns) e), ltb-true x A.columns (and_right (ltb y A.rows) (ltb x A.columns) e))

  -- below the last row, or behind the last column, a square has no real cell
  no_cells : ((y x : ℕ) → block_of k y ≡ r → block_of k x ≡ c → is_real A y x ≡ true → ⊥) → (q : Bounds) → Ends (Met A k r c) q → q ≡ none
  no_cells h none m = refl
  no_cells h (span g l) m = absurd (h m.0.row m.0.column m.0.in_row m.0.in_column m.0.real)

  pub none_rows : A.rows ≤ r * 2 ^ k → bounds_at A k r c ≡ none
  none_rows h =
      no_cells (λ y x p q e. omega (arith, (real_row y x e).0, block_floor k y r (omega arith))) (bounds_at A k r c) (bounds_met A k r c)

  pub none_columns : A.columns ≤ c * 2 ^ k → bounds_at A k r c ≡ none
  none_columns h =
      no_cells (λ y x p q e. omega (arith, (real_row y x e).1, block_floor k x c (omega arith))) (bounds_at A k r c) (bounds_met A k r c)

  -- elsewhere its first cell is real
  pub corner_real : r * 2 ^ k < A.rows → c * 2 ^ k < A.columns → is_real A (r * 2 ^ k) (c * 2 ^ k) ≡ true
  corner_real h g =
      and_both (ltb (r * 2 ^ k) A.rows) (ltb (c * 2 ^ k) A.columns) (lt-ltb (r * 2 ^ k) A.rows h) (lt-ltb (c * 2 ^ k) A.columns g)

  pub corner_inside : r * 2 ^ k < A.rows → c * 2 ^ k < A.columns
      → Inside (span (A.level (r * 2 ^ k) (c * 2 ^ k)) (A.level (r * 2 ^ k) (c * 2 ^ k))) (bounds_at A k r c)
  corner_inside h g =
      rw (block_corner k r, block_corner k c) at (cell_inside A (r * 2 ^ k) (c * 2 ^ k) (corner_real h g) k)

  alike_ends : (v w : ℕ) → ((y x : ℕ) → block_of k y ≡ r → block_of k x ≡ c → is_real A y x ≡ true → A.level y x ≡ v) → (q : Bounds)
      → Inside (span w w) q → Ends (Met A k r c) q → q ≡ span v v
  alike_ends v w h none i m = absurd i
  alike_ends v w h (span g l) i m =
      let a : g ≡ v = sym m.0.level ∙ h m.0.row m.0.column m.0.in_row m.0.in_column m.0.real in
      let b : l ≡ v = sym m.1.level ∙ h m.1.row m.1.column m.1.in_row m.1.in_column m.1.real in
      λ t. span (a t) (b t)

  -- a square whose real cells are alike
  pub alike_bounds : (v : ℕ) → r * 2 ^ k < A.rows → c * 2 ^ k < A.columns
      → ((y x : ℕ) → block_of k y ≡ r → block_of k x ≡ c → is_real A y x ≡ true → A.level y x ≡ v) → bounds_at A k r c ≡ span v v
  alike_bounds v h g f = alike_ends v (A.level (r * 2 ^ k) (c * 2 ^ k)) f (bounds_at A k r c) (corner_inside h g) (bounds_met A k r c)
