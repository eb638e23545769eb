-- Greatest and least of squares: a square lies within the bounds of the one around it, so what holds an uneven square is uneven, and an even square has its level at every real cell.
-- Assumes nothing.
use mathlib.Core.Path.{◌≡◌, refl, sym, ap, ap₂, ◌∙◌}
use mathlib.Core.Bool.{Bool, true, false, ◌&&◌, not}
use Prim.Native.Nat.{ℕ, zero, suc, ◌+◌, ◌*◌, ◌/◌, ◌%◌, ◌≤◌, ◌<◌, min, max}
use native.Mathlib.Decide.{dec_lt}
use native.Mathlib.Omega.{arith}
use lib.Dec.{eqb, ltb}
use borrow.Author.Tests.{eqb-true, eq-eqb, ne_eqb}
use Rattle.coding.proofs.Laws.Lists.{no_bit}
use Rattle.survey.specs.Raster.{Raster, is_real}
use Rattle.survey.specs.Square.{Bounds, none, span, join, bounds_if, bounds_at, greatest_or, least_or, is_uneven}
use Rattle.survey.specs.Reading.{block_of}

-- ---- bounds within bounds

abbrev pub Inside : Bounds → Bounds → Type 0
Inside none q = Unit {0}
Inside (span g l) none = ⊥
Inside (span g l) (span h m) = (g ≤ h) × (m ≤ l)

pub inside_refl : (p : Bounds) → Inside p p
inside_refl none = tt
inside_refl (span g l) = omega arith

pub inside_trans : (p q r : Bounds) → Inside p q → Inside q r → Inside p r
inside_trans none q r x y = tt
inside_trans (span g l) none r x y = absurd x
inside_trans (span g l) (span h m) none x y = absurd y
inside_trans (span g l) (span h m) (span i n) x y = omega arith

inside_left : (p q : Bounds) → Inside p (join p q)
inside_left none q = tt
inside_left (span g l) none = omega arith
inside_left (span g l) (span h m) = omega arith

inside_right : (p q : Bounds) → Inside q (join p q)
inside_right none q = inside_refl q
inside_right (span g l) none = tt
inside_right (span g l) (span h m) = omega arith

inside_in : (p q r : Bounds) → Inside p r → Inside p (join q r)
inside_in p q r h = inside_trans p r (join q r) h (inside_right q r)

-- of two joined bounds, what holds both holds the join
pub inside_join : (p q r : Bounds) → Inside p r → Inside q r → Inside (join p q) r
inside_join none q r x y = y
inside_join (span g l) none r x y = x
inside_join (span g l) (span h m) none x y = absurd x
inside_join (span g l) (span h m) (span i n) x y = omega arith

module _ (A : Raster) where
  -- a quarter is within the bounds of its square
  up_step : (k r c R C u v : ℕ) → r ≡ 2 * R + u → c ≡ 2 * C + v → u < 2 → v < 2 → Inside (bounds_at A k r c) (bounds_at A (suc k) R C)
  up_step k r c R C zero zero p q m n =
      let e : r ≡ 2 * R = omega arith in
      let f : c ≡ 2 * C = omega arith in
      rw (e, f) (inside_left (bounds_at A k (2 * R) (2 * C)) _)
  up_step k r c R C zero (suc zero) p q m n =
      let e : r ≡ 2 * R = omega arith in
      let w = bounds_at A k (2 * R) (2 * C + 1) in
      rw (e, q) (inside_in w (bounds_at A k (2 * R) (2 * C)) _ (inside_left w _))
  up_step k r c R C (suc zero) zero p q m n =
      let f : c ≡ 2 * C = omega arith in
      let w = bounds_at A k (2 * R + 1) (2 * C) in
      rw (p, f) (inside_in w (bounds_at A k (2 * R) (2 * C)) _ (inside_in w (bounds_at A k (2 * R) (2 * C + 1)) _ (inside_left w _)))
  up_step k r c R C (suc zero) (suc zero) p q m n =
      let w = bounds_at A k (2 * R + 1) (2 * C + 1) in
      rw (p, q)
      (inside_in w (bounds_at A k (2 * R) (2 * C)) _
      (inside_in w (bounds_at A k (2 * R) (2 * C + 1)) _ (inside_right (bounds_at A k (2 * R + 1) (2 * C)) w)))
  up_step k r c R C zero (suc (suc v)) p q m n = absurd (omega arith)
  up_step k r c R C (suc zero) (suc (suc v)) p q m n = absurd (omega arith)
  up_step k r c R C (suc (suc u)) v p q m n = absurd (omega arith)

  pub inside_up : (k r c : ℕ) → Inside (bounds_at A k r c) (bounds_at A (suc k) (r / 2) (c / 2))
  inside_up k r c = up_step k r c (r / 2) (c / 2) (r % 2) (c % 2) (omega arith) (omega arith) (omega arith) (omega arith)

-- ---- least and greatest

abbrev pub Proper : Bounds → Type 0
Proper none = Unit {0}
Proper (span g l) = l ≤ g

join_proper : (p q : Bounds) → Proper p → Proper q → Proper (join p q)
join_proper none q x y = y
join_proper (span g l) none x y = x
join_proper (span g l) (span h m) x y = omega arith

leaf_proper : (b : Bool) (v : ℕ) → Proper (bounds_if b v)
leaf_proper true v = omega arith
leaf_proper false v = tt

pub proper : (A : Raster) (k r c : ℕ) → Proper (bounds_at A k r c)
proper A zero r c = leaf_proper (is_real A r c) (A.level r c)
proper A (suc k) r c =
    let p = bounds_at A k (2 * r) (2 * c) in
    let q = bounds_at A k (2 * r) (2 * c + 1) in
    let s = bounds_at A k (2 * r + 1) (2 * c) in
    let t = bounds_at A k (2 * r + 1) (2 * c + 1) in
    join_proper p (join q (join s t)) (proper A k (2 * r) (2 * c))
    (join_proper q (join s t) (proper A k (2 * r) (2 * c + 1))
    (join_proper s t (proper A k (2 * r + 1) (2 * c)) (proper A k (2 * r + 1) (2 * c + 1))))

-- ---- uneven squares

apart : (a b : ℕ) → not (eqb a b) ≡ true → a ≡ b → ⊥
apart a b e p = no_bit (sym e ∙ ap not (eq-eqb a b p))

is_apart : (a b : ℕ) → (a ≡ b → ⊥) → not (eqb a b) ≡ true
is_apart a b h = ap not (ne_eqb a b h)

uneven_within : (p q : Bounds) → Proper p → Inside p q → is_uneven p ≡ true → is_uneven q ≡ true
uneven_within none q x i e = no_bit (sym e)
uneven_within (span g l) none x i e = absurd i
uneven_within (span g l) (span h m) x i e = is_apart h m (λ t. apart g l e (omega arith))

pub uneven_up : (A : Raster) (k r c : ℕ) → is_uneven (bounds_at A k r c) ≡ true → is_uneven (bounds_at A (suc k) (r / 2) (c / 2)) ≡ true
uneven_up A k r c e =
    uneven_within (bounds_at A k r c) (bounds_at A (suc k) (r / 2) (c / 2)) (proper A k r c) (inside_up A k r c) e

-- THE LAW: a square that holds an uneven square is uneven, however many steps above it
pub uneven_holds : (A : Raster) (j k r c : ℕ) → is_uneven (bounds_at A k r c) ≡ true → is_uneven (bounds_at A (j + k) (block_of j r) (block_of j c)) ≡ true
uneven_holds A zero k r c e = let n : 0 + k ≡ k = omega arith in rw n e
uneven_holds A (suc j) k r c e =
    let n : suc j + k ≡ suc (j + k) = omega arith in
    rw n (uneven_up A (j + k) (block_of j r) (block_of j c) (uneven_holds A j k r c e))

-- ---- real cells

pub leaf_real : (b : Bool) (v : ℕ) → b ≡ true → bounds_if b v ≡ span v v
leaf_real true v e = refl
leaf_real false v e = no_bit (sym e)

-- the level of a real cell is within the bounds of every square that it lies in
pub cell_inside : (A : Raster) (y x : ℕ) → is_real A y x ≡ true → (k : ℕ)
    → Inside (span (A.level y x) (A.level y x)) (bounds_at A k (block_of k y) (block_of k x))
cell_inside A y x e zero =
    let v = A.level y x in rw (leaf_real (is_real A y x) v e) (inside_refl (span v v))
cell_inside A y x e (suc k) =
    let v = A.level y x in
    inside_trans (span v v) (bounds_at A k (block_of k y) (block_of k x)) (bounds_at A (suc k) (block_of k y / 2) (block_of k x / 2))
    (cell_inside A y x e k) (inside_up A k (block_of k y) (block_of k x))

-- where there is a real cell, there are bounds
pub some_bounds : (v d e : ℕ) (q : Bounds) → Inside (span v v) q → q ≡ span (greatest_or d q) (least_or e q)
some_bounds v d e none h = absurd h
some_bounds v d e (span g l) h = refl

pub greatest_any : (v d e : ℕ) (q : Bounds) → Inside (span v v) q → greatest_or d q ≡ greatest_or e q
greatest_any v d e none h = absurd h
greatest_any v d e (span g l) h = refl

pub greatest_most : (v d : ℕ) (q : Bounds) → Inside (span v v) q → v ≤ greatest_or d q
greatest_most v d none h = absurd h
greatest_most v d (span g l) h = omega arith

-- an even square has one level at its real cells
pub even_level : (v d : ℕ) (q : Bounds) → is_uneven q ≡ false → Inside (span v v) q → greatest_or d q ≡ v
even_level v d none e h = absurd h
even_level v d (span g l) e h = omega (arith, eqb-true g l (even_eq (eqb g l) e))
  where
    even_eq : (b : Bool) → not b ≡ false → b ≡ true
    even_eq true q = refl
    even_eq false q = no_bit q

-- the greatest of a part, where there is one, is no more than that of the whole
pub greatest_within : (d : ℕ) (p q : Bounds) → Inside p q → greatest_or (greatest_or d q) p ≤ greatest_or d q
greatest_within d none q h = omega arith
greatest_within d (span g l) none h = absurd h
greatest_within d (span g l) (span i m) h = omega arith

-- ---- rasters that agree

-- the same rows and columns, and the same level at each real cell of a square
pub record Agrees (A B : Raster) (k r c : ℕ) : Type 0 where
  pub rows : A.rows ≡ B.rows
  pub columns : A.columns ≡ B.columns
  pub level : (y x : ℕ) → block_of k y ≡ r → block_of k x ≡ c → is_real A y x ≡ true → A.level y x ≡ B.level y x

leaf_same : (a b : Bool) (v w : ℕ) → a ≡ b → (a ≡ true → v ≡ w) → bounds_if a v ≡ bounds_if b w
leaf_same true b v w e f = rw (sym e) (ap (λ (x : ℕ). span x x) (f refl))
leaf_same false b v w e f = rw (sym e) refl

pub real_same : (A B : Raster) (y x : ℕ) → A.rows ≡ B.rows → A.columns ≡ B.columns → is_real A y x ≡ is_real B y x
real_same A B y x p q = ap₂ (λ (m n : ℕ). ltb y m && ltb x n) p q

pub agrees_quarter : {A B : Raster} {k R C : ℕ} (r c : ℕ) → r / 2 ≡ R → c / 2 ≡ C → Agrees A B (suc k) R C → Agrees A B k r c
agrees_quarter r c p q h = record { rows = h.rows; columns = h.columns; level = λ y x a b e. h.level y x (rw a p) (rw b q) e }

pub bounds_same : (A B : Raster) (k r c : ℕ) → Agrees A B k r c → bounds_at A k r c ≡ bounds_at B k r c
bounds_same A B zero r c h =
    leaf_same (is_real A r c) (is_real B r c) (A.level r c) (B.level r c) (real_same A B r c h.rows h.columns) (h.level r c refl refl)
bounds_same A B (suc k) r c h =
    cc (
      bounds_same A B k (2 * r) (2 * c) (agrees_quarter (2 * r) (2 * c) (omega arith) (omega arith) h),
      bounds_same A B k (2 * r) (2 * c + 1) (agrees_quarter (2 * r) (2 * c + 1) (omega arith) (omega arith) h),
      bounds_same A B k (2 * r + 1) (2 * c) (agrees_quarter (2 * r + 1) (2 * c) (omega arith) (omega arith) h),
      bounds_same A B k (2 * r + 1) (2 * c + 1) (agrees_quarter (2 * r + 1) (2 * c + 1) (omega arith) (omega arith) h),
    )

-- ---- what the bounds are: a real cell of the square has the greatest level, and one has the least

-- a real cell of the square has the level v
pub record Met (A : Raster) (k r c v : ℕ) : Type 0 where
  pub row : ℕ
  pub column : ℕ
  pub in_row : block_of k row ≡ r
  pub in_column : block_of k column ≡ c
  pub real : is_real A row column ≡ true
  pub level : A.level row column ≡ v

abbrev pub Ends : (ℕ → Type 0) → Bounds → Type 0
Ends P none = Unit {0}
Ends P (span g l) = P g × P l

ends_map : {P Q : ℕ → Type 0} → ((v : ℕ) → P v → Q v) → (p : Bounds) → Ends P p → Ends Q p
ends_map f none h = tt
ends_map f (span g l) h = (f g h.0, f l h.1)

max_of : (P : ℕ → Type 0) (a b : ℕ) → P a → P b → Dec (a < b) → P (max a b)
max_of P a b p q (yes h) = let e : max a b ≡ b = omega arith in rw e q
max_of P a b p q (no h) = let e : max a b ≡ a = omega arith in rw e p

min_of : (P : ℕ → Type 0) (a b : ℕ) → P a → P b → Dec (a < b) → P (min a b)
min_of P a b p q (yes h) = let e : min a b ≡ a = omega arith in rw e p
min_of P a b p q (no h) = let e : min a b ≡ b = omega arith in rw e q

ends_join : (P : ℕ → Type 0) (p q : Bounds) → Ends P p → Ends P q → Ends P (join p q)
ends_join P none q x y = y
ends_join P (span g l) none x y = x
ends_join P (span g l) (span h m) x y = (max_of P g h x.0 y.0 (dec_lt g h), min_of P l m x.1 y.1 (dec_lt l m))

leaf_met : (A : Raster) (r c : ℕ) (b : Bool) → is_real A r c ≡ b → Ends (Met A 0 r c) (bounds_if b (A.level r c))
leaf_met A r c true e =
    let m : Met A 0 r c (A.level r c) = record { row = r; column = c; in_row = refl; in_column = refl; real = e; level = refl } in (m, m)
leaf_met A r c false e = tt

met_up : (A : Raster) (k r c R C : ℕ) → r / 2 ≡ R → c / 2 ≡ C → (v : ℕ) → Met A k r c v → Met A (suc k) R C v
met_up A k r c R C p q v m = record {
  row = m.row;
  column = m.column;
  in_row = ap (λ (n : ℕ). n / 2) m.in_row ∙ p;
  in_column = ap (λ (n : ℕ). n / 2) m.in_column ∙ q;
  real = m.real;
  level = m.level;
}

-- with `cell_inside`, THE MEANING of greatest and least: over the real cells alone
pub bounds_met : (A : Raster) (k r c : ℕ) → Ends (Met A k r c) (bounds_at A k r c)
bounds_met A zero r c = leaf_met A r c (is_real A r c) refl
bounds_met A (suc k) r c =
    let P = Met A (suc k) r c in
    let up : (y x : ℕ) → y / 2 ≡ r → x / 2 ≡ c → Ends (Met A k y x) (bounds_at A k y x) → Ends (Met A (suc k) r c) (bounds_at A k y x) =
    λ y x p q h. ends_map (met_up A k y x r c p q) (bounds_at A k y x) h in
    let p = bounds_at A k (2 * r) (2 * c) in
    let q = bounds_at A k (2 * r) (2 * c + 1) in
    let s = bounds_at A k (2 * r + 1) (2 * c) in
    let t = bounds_at A k (2 * r + 1) (2 * c + 1) in
    ends_join P p (join q (join s t)) (up (2 * r) (2 * c) (omega arith) (omega arith) (bounds_met A k (2 * r) (2 * c)))
    (ends_join P q (join s t) (up (2 * r) (2 * c + 1) (omega arith) (omega arith) (bounds_met A k (2 * r) (2 * c + 1)))
    (ends_join P s t (up (2 * r + 1) (2 * c) (omega arith) (omega arith) (bounds_met A k (2 * r + 1) (2 * c)))
    (up (2 * r + 1) (2 * c + 1) (omega arith) (omega arith) (bounds_met A k (2 * r + 1) (2 * c + 1)))))
