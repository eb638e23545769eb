-- What the test finds at a square is so, one law for each way out of it: no real cell, a greatest or least that does not go down, one level,
-- and four quarters.
-- Assumes nothing.
use mathlib.Core.Path.{◌≡◌, refl, sym, ap, ◌∙◌, subst}
use mathlib.Core.Bool.{Bool, true, false, not}
use mathlib.Core.List.{List}
use Prim.Native.Nat.{ℕ, zero, suc, ◌+◌, ◌*◌, ◌-◌, ◌/◌, ◌%◌, ◌^◌, ◌≤◌, ◌<◌}
use native.Mathlib.Numerals.{one-add}
use native.Mathlib.Omega.{arith}
use lib.ListN.{get_or}
use borrow.Author.Tests.{eq-eqb, ne_eqb}
use Rattle.coding.specs.Bits.{bit, ones_before}
use Rattle.coding.proofs.Laws.Bits.{before_suc}
use Rattle.coding.proofs.Laws.Lists.{no_bit}
use Rattle.survey.specs.Raster.{Raster}
use Rattle.survey.specs.Square.{Bounds, none, span, bounds_at, is_uneven}
use Rattle.survey.specs.Order.{Lists}
use Rattle.survey.specs.Standing.{Sized}
use Rattle.survey.specs.Sides.{depth_for}
use Rattle.survey.specs.Reading.{rows_in, columns_in, greatest_in, least_in, lists_in, way_to, level_in, survey_in}
use Rattle.survey.proofs.Laws.Squares.{Inside, Proper, proper}
use Rattle.survey.proofs.Laws.Cells.{corner_inside, alike_bounds}
use Rattle.squares.specs.Pair.{pair, pair_of, quad, above_of}
use Rattle.squares.specs.declared.Pair.{Pair}
use Rattle.squares.specs.declared.Quad.{Quad}
use Rattle.std.specs.Prelude.{Option, Some, None}
use Rattle.std.specs.Option.{is_some}
use Rattle.grid.specs.Claims.{Fit, Says}
use Rattle.grid.specs.Test.{Looked, Bare, Quarters, Quartered, Wholly, is_sized}
use Rattle.grid.proofs.Laws.Sized.{sized_is}
use Rattle.grid.proofs.Laws.Claims.{Flat, flat_none, none_flat, flat_level, flat_cell, cell_flat, flat_even, even_flat, fit_mark, split_fit, fit_split, says_cell, says_even, says_split}
use Rattle.grid.proofs.Laws.Pairs.{Low, low_under, fold_pair, pair_apart, pair_real}

-- ---- a square with a real cell that fits: Lmax takes no more away than there is, and leaves no less than the claimed least

flat_some : (x g l u : ℕ) (q : Bounds) → Inside (span u u) q → Proper q → Flat x g l q → (x ≤ g) × (l ≤ g - x)
flat_some x g l u none i p f = absurd i
flat_some x g l u (span a b) i p f = omega (arith, f.drop, f.under, f.over)

module _ (A : Raster) (L : Lists) where
  open L use {split_marks, lmax, lmin}

  fit_flat : (k z g l r c : ℕ) → Fit A L k z g l r c → Flat (get_or lmax z 0) g l (bounds_at A k r c)
  fit_flat zero z g l r c f = cell_flat A L z g l r c f
  fit_flat (suc k) z g l r c f = even_flat A L k z g l r c f

  flat_fit : (k z g l r c : ℕ) → ((k ≡ 0 → ⊥) → get_or split_marks z false ≡ false) → is_uneven (bounds_at A k r c) ≡ false
      → Flat (get_or lmax z 0) g l (bounds_at A k r c) → Fit A L k z g l r c
  flat_fit zero z g l r c m e f = flat_cell A L z g l r c f
  flat_fit (suc k) z g l r c m e f = flat_even A L k z g l r c (m (λ n. omega arith)) e f

  fit_even : (k z g l r c : ℕ) → (k ≡ 0 → ⊥) → Fit A L k z g l r c → get_or split_marks z false ≡ is_uneven (bounds_at A k r c)
  fit_even zero z g l r c n f = absurd (n refl)
  fit_even (suc k) z g l r c n f = fit_mark A L k z g l r c f

  -- ---- no real cell
  pub looked_none : (k z g l r c : ℕ) (t : Option Pair) → bounds_at A k r c ≡ none → Bare L k z t → Looked A L k z g l r c t
  looked_none k z g l r c None n b = λ f.
      let u = b (none_flat (get_or lmax z 0) g l (subst (Flat (get_or lmax z 0) g l) n (fit_flat k z g l r c f))) in
      no_bit (sym u.1 ∙ fit_even k z g l r c u.0 f ∙ ap is_uneven n)
  looked_none k z g l r c (Some p) n b = (
    flat_fit k z g l r c b.1 (ap is_uneven n) (subst (Flat (get_or lmax z 0) g l) (sym n) (flat_none (get_or lmax z 0) g l b.0)),
    b.2 ∙ ap pair_of (sym n),
  )

  -- ---- a real cell, and a greatest or least that does not go down
  pub looked_fault : {k z g l r c : ℕ} → r * 2 ^ k < A.rows → c * 2 ^ k < A.columns → (get_or lmax z 0 ≤ g → l ≤ g - get_or lmax z 0 → ⊥)
      → Fit A L k z g l r c → ⊥
  looked_fault {k} {z} {g} {l} {r} {c} p q h f =
      let s = flat_some (get_or lmax z 0) g l (A.level (r * 2 ^ k) (c * 2 ^ k)) (bounds_at A k r c) (corner_inside A k r c p q) (proper A k r c) (fit_flat k z g l r c f) in
      h s.0 s.1

  -- ---- one level
  even_bounds : (k z g r c : ℕ) → r * 2 ^ k < A.rows → c * 2 ^ k < A.columns → Says A L k z g r c → ((k ≡ 0 → ⊥) → get_or split_marks z false ≡ false)
      → bounds_at A k r c ≡ span (g - get_or lmax z 0) (g - get_or lmax z 0)
  even_bounds zero z g r c p q s m = alike_bounds A 0 r c (g - get_or lmax z 0) p q (says_cell A L z g r c s)
  even_bounds (suc k) z g r c p q s m =
      alike_bounds A (suc k) r c (g - get_or lmax z 0) p q (says_even A L k z g r c (m (λ n. omega arith)) s)

  pub looked_level : {k z g l r c v : ℕ} → v ≡ g - get_or lmax z 0 → r * 2 ^ k < A.rows → c * 2 ^ k < A.columns → Says A L k z g r c
      → ((k ≡ 0 → ⊥) → get_or split_marks z false ≡ false) → get_or lmax z 0 ≤ g → l ≤ g - get_or lmax z 0
      → Looked A L k z g l r c (Some (pair v v))
  looked_level {k} {z} {g} {l} {r} {c} e p q s m h o =
      let v = g - get_or lmax z 0 in
      let b = even_bounds k z g r c p q s m in (
        flat_fit k z g l r c m (ap is_uneven b ∙ ap not (eq-eqb v v refl)) (subst (Flat (get_or lmax z 0) g l) (sym b) (flat_level (get_or lmax z 0) g l v h refl o)),
        ap (λ (n : ℕ). pair n n) e ∙ ap pair_of (sym b),
      )

  -- ---- a split square whose least would not be below its greatest
  pub looked_close : {k z g l r c : ℕ} → (k ≡ 0 → ⊥) → get_or split_marks z false ≡ true
      → g - get_or lmax z 0 - l ≤ get_or lmin (ones_before split_marks z) 0 → Fit A L k z g l r c → ⊥
  looked_close {k = zero} d m h f = d refl
  looked_close {k = suc k} {z} {g} {l} {r} {c} d m h f =
      let s = fit_split A L k z g l (g - get_or lmax z 0) (l + get_or lmin (ones_before split_marks z) 0) r c m refl refl f in
      let p : l + get_or lmin (ones_before split_marks z) 0 ≤ g - get_or lmax z 0 = subst Proper s.pair_is (proper A (suc k) r c) in
      s.apart (omega arith)

  -- ---- four quarters

  fit_low : (k z v w r c : ℕ) → v < 4294967296 → Fit A L k z v w r c → Low (bounds_at A k r c)
  fit_low k z v w r c h f = low_under (bounds_at A k r c) v (proper A k r c) f.under h

  -- what is found at quarters that fit makes the pair of their square
  pub above_is : (k r c first : ℕ) (own : Pair) (q : Quad) → own.hi < 4294967296 → Quarters A L k first own r c
      → q.a ≡ pair_of (bounds_at A k (2 * r + 0) (2 * c + 0)) → q.b ≡ pair_of (bounds_at A k (2 * r + 0) (2 * c + 1))
      → q.c ≡ pair_of (bounds_at A k (2 * r + 1) (2 * c + 0)) → q.d ≡ pair_of (bounds_at A k (2 * r + 1) (2 * c + 1))
      → above_of q ≡ pair_of (bounds_at A (suc k) r c)
  above_is k r c first own q small f a b d e =
      let y : 2 * r + 0 ≡ 2 * r = omega arith in
      let x : 2 * c + 0 ≡ 2 * c = omega arith in
      let m0 : bounds_at A k (2 * r + 0) (2 * c + 0) ≡ bounds_at A k (2 * r) (2 * c) = λ i. bounds_at A k (y i) (x i) in
      let m1 : bounds_at A k (2 * r + 0) (2 * c + 1) ≡ bounds_at A k (2 * r) (2 * c + 1) = λ i. bounds_at A k (y i) (2 * c + 1) in
      let m2 : bounds_at A k (2 * r + 1) (2 * c + 0) ≡ bounds_at A k (2 * r + 1) (2 * c) = λ i. bounds_at A k (2 * r + 1) (x i) in
      let low = λ (i : ℕ) (h : i < 4). fit_low k (first + i) own.hi own.lo (2 * r + i / 2) (2 * c + i % 2) small (f i h) in
      let p0 = a ∙ ap pair_of m0 in
      let p1 = b ∙ ap pair_of m1 in
      let p2 = d ∙ ap pair_of m2 in
      (λ i. above_of (quad (p0 i) (p1 i) (p2 i) (e i)))
      ∙ fold_pair (bounds_at A k (2 * r) (2 * c)) (bounds_at A k (2 * r) (2 * c + 1)) (bounds_at A k (2 * r + 1) (2 * c)) (bounds_at A k (2 * r + 1) (2 * c + 1))
      (subst Low m0 (low 0 (omega arith))) (subst Low m1 (low 1 (omega arith))) (subst Low m2 (low 2 (omega arith))) (low 3 (omega arith))

  pub fit_move : {k j z y v w r p c q : ℕ} → k ≡ j → z ≡ y → r ≡ p → c ≡ q → Fit A L k z v w r c → Fit A L j y v w p q
  fit_move {k} {j} {z} {y} {v} {w} {r} {p} {c} {q} d e h s f =
      subst (λ (n : ℕ). Fit A L n y v w p q) d
      (subst (λ (n : ℕ). Fit A L k n v w p q) e (subst (λ (n : ℕ). Fit A L k z v w n q) h (subst (λ (n : ℕ). Fit A L k z v w r n) s f)))

  -- the four by their number
  pub four : {k : ℕ} {own : Pair} (first r c : ℕ) → let F = λ (i : ℕ). Fit A L k (first + i) own.hi own.lo (2 * r + i / 2) (2 * c + i % 2) in
      F 0 → F 1 → F 2 → F 3 → Quarters A L k first own r c
  four first r c f g h j zero b = f
  four first r c f g h j (suc zero) b = g
  four first r c f g h j (suc (suc zero)) b = h
  four first r c f g h j (suc (suc (suc zero))) b = j
  four first r c f g h j (suc (suc (suc (suc i)))) b = absurd (omega arith)

  -- what a reader finds in a quarter; o is the ones before the square's place
  pub says-quarter : (k z g r c : ℕ) {o v y p q : ℕ} (i : ℕ) → i < 4 → (k ≡ 0 → ⊥) → get_or split_marks z false ≡ true → o ≡ ones_before split_marks z → v ≡ g - get_or lmax z 0
      → y ≡ 4 * (o + 1) + i → p ≡ 2 * r + i / 2 → q ≡ 2 * c + i % 2 → Says A L k z g r c → Says A L (k - 1) y v p q
  says-quarter zero z g r c i b d m e f h s u x = absurd (d refl)
  says-quarter (suc k) z g r c {o} {v} {y} {p} {q} i b d m e f h s u x =
      let n : suc k - 1 ≡ k = omega arith in
      let w : y ≡ 4 * ones_before split_marks (suc z) + i = omega (arith, before_suc split_marks z, ap bit m) in
      rw (n, w, f, s, u) (says_split A L k z g r c i b m x)

  -- a split square, from its quarters
  pub looked_split : (k z g l r c : ℕ) {first : ℕ} {own : Pair} (t : Option Pair) → (k ≡ 0 → ⊥) → get_or split_marks z false ≡ true → get_or lmax z 0 ≤ g → own.hi ≡ g - get_or lmax z 0
      → own.lo ≡ l + get_or lmin (ones_before split_marks z) 0 → own.lo < own.hi → first ≡ 4 * (ones_before split_marks z + 1)
      → Quartered A L (k - 1) first own r c t → Looked A L k z g l r c t
  looked_split zero z g l r c t d m h x y n e j = absurd (d refl)
  looked_split (suc k) z g l r c {first} {own} t d m h x y n e j =
      let u : suc k - 1 ≡ k = omega arith in
      by_case t (subst (λ (b : ℕ). Quartered A L b first own r c t) u j)
    where
      place : (i : ℕ) → 4 * ones_before split_marks (suc z) + i ≡ first + i
      place i = omega (arith, before_suc split_marks z, ap bit m, e)

      by_case : (t : Option Pair) → Quartered A L k first own r c t → Looked A L (suc k) z g l r c t
      by_case None j = λ f.
          let s = fit_split A L k z g l own.hi own.lo r c m x y f in
          j (λ i b. fit_move refl (place i) refl refl (s.parts i b)) (ap pair_of s.pair_is)
      by_case (Some p) j = (
        split_fit A L k z g l own.hi own.lo r c m
            record {
              fits = h;
              v_is = x;
              w_is = y;
              pair_is = pair_apart own.hi own.lo (bounds_at A (suc k) r c) j.1 n;
              apart = λ f. omega arith;
              parts = λ i b. fit_move refl (sym (place i)) refl refl (j.0 i b);
            },
        j.2 ∙ sym j.1,
      )

  -- ---- the whole square

  pub looked_whole : {h : ℕ} {own : Pair} (t : Option Pair) → Sized L h → 0 < A.rows → 0 < A.columns → Quartered A L h 0 own 0 0 t
      → Wholly A L h own.hi own.lo (is_some t)
  looked_whole {h} {own} None s p q j = record {
    fits = λ e. no_bit (sym e);
    unfit = λ e w.
        j (λ i b. fit_move refl (omega arith) (omega arith) (omega arith) (w.parts i b))
        (ap (λ (n : ℕ). pair_of (bounds_at A n 0 0)) (sym (one-add h)) ∙ ap pair_of w.pair_is);
  }
  looked_whole {h} {own} (Some x) s p q j = record {
    fits = λ e. record {
      lengths = s;
      pair_is =
          ap (λ (n : ℕ). bounds_at A n 0 0) (one-add h)
          ∙ pair_real own.hi own.lo (A.level (0 * 2 ^ suc h) (0 * 2 ^ suc h)) (bounds_at A (suc h) 0 0) j.1 (corner_inside A (suc h) 0 0 (omega arith) (omega arith));
      parts = λ i b. fit_move refl (omega arith) (omega arith) (omega arith) (j.0 i b);
    };
    unfit = λ e. no_bit e;
  }

-- lists of other lengths are not those of a whole square
pub unsized_whole : (A : Raster) (L : Lists) {h g l : ℕ} {ok : Bool} → ok ≡ is_sized L h → ok ≡ false → Wholly A L h g l ok
unsized_whole A L {h} e n = record { fits = λ t. no_bit (sym t ∙ n); unfit = λ t w. no_bit (sym (sized_is L h w.lengths) ∙ sym e ∙ n) }

-- a reader starts at the quarters of the whole square, of depth h + 1
pub says-whole : (f : List ℕ) (h : ℕ) → depth_for (rows_in f) (columns_in f) ≡ suc h → (greatest_in f ≡ least_in f → ⊥) → (i : ℕ) → i < 4
    → Says (survey_in f) (lists_in f) h i (greatest_in f) (i / 2) (i % 2)
unfolding Says survey_in level_in
says-whole f h d n i b y x p q e =
    let w : way_to y x h ≡ i = omega arith in
    rw (d, ne_eqb (greatest_in f) (least_in f) n, w) refl

pub says_first : (f : List ℕ) {d g : ℕ} → d ≡ depth_for (rows_in f) (columns_in f) → 0 < d → g ≡ greatest_in f → (greatest_in f ≡ least_in f → ⊥) → (i : ℕ) → i < 4
    → Says (survey_in f) (lists_in f) (d - 1) (0 + i) g (0 + i / 2) (0 + i % 2)
says_first f {d} {g} e p q n i b =
    let h : depth_for (rows_in f) (columns_in f) ≡ suc (d - 1) = omega arith in
    let x : 0 + i ≡ i = omega arith in
    let y : 0 + i / 2 ≡ i / 2 = omega arith in
    let z : 0 + i % 2 ≡ i % 2 = omega arith in
    rw (q, x, y, z) (says-whole f (d - 1) h n i b)

-- the same finding, said of other names
pub wholly_same : {A : Raster} {L : Lists} {h k g m l n : ℕ} {a b : Bool} → h ≡ k → g ≡ m → l ≡ n → a ≡ b → Wholly A L h g l a → Wholly A L k m n b
wholly_same {A} {L} {h} {k} {g} {m} {l} {n} {a} {b} p q r s w =
    subst (λ (x : ℕ). Wholly A L x m n b) p
    (subst (λ (x : ℕ). Wholly A L h x n b) q (subst (λ (x : ℕ). Wholly A L h g x b) r (subst (λ (x : Bool). Wholly A L h g l x) s w)))
