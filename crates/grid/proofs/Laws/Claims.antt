-- The file test is local: what it finds at a square, from its place, the claimed bounds and its quarters, is just whether the square fits.
-- Assumes nothing.
use mathlib.Core.Path.{◌≡◌, refl, sym, ap, ◌∙◌, subst}
use mathlib.Core.Bool.{Bool, true, false, not}
use Prim.Native.Nat.{ℕ, zero, suc, ◌+◌, ◌*◌, ◌-◌, ◌/◌, ◌%◌, ◌≤◌, ◌<◌}
use native.Mathlib.Nat.{zero-add}
use native.Mathlib.Omega.{arith}
use lib.Dec.{eqb}
use lib.ListN.{get_or}
use borrow.Author.Tests.{eq-eqb, ne_eqb}
use Rattle.coding.specs.Bits.{ones_before}
use Rattle.coding.proofs.Laws.Lists.{no_bit}
use Rattle.survey.specs.Raster.{Raster, is_real}
use Rattle.survey.specs.Square.{Bounds, none, span, square, quarter, bounds_at, bounds_of, greatest_or, least_or, is_uneven}
use Rattle.survey.specs.Order.{Lists, kids, kids_if, form}
use Rattle.survey.specs.Standing.{All, Here, Sized}
use Rattle.survey.specs.Tree.{greatest_drop, least_rise, squares, lists_from}
use Rattle.survey.specs.Reading.{block_of, way_to}
use Rattle.survey.proofs.Laws.Form.{quarters, navigate, sized, unique, first, kids_at}
use Rattle.survey.proofs.Laws.Order.{all_of}
use Rattle.survey.proofs.Laws.Form as Form
use Rattle.survey.proofs.Laws.Squares.{Inside, inside_up}
use Rattle.grid.specs.Claims.{claim, claims, Fit, Says}

-- ---- a square that is not split: a single cell, or an even square

-- what stands in Lmax at its place is the claimed greatest less its own, and it lies between the claimed bounds
pub record Flat (x g l : ℕ) (q : Bounds) : Type 0 where
  pub drop : x ≡ g - greatest_or g q
  pub under : greatest_or g q ≤ g
  pub over : l ≤ least_or l q

pub flat_none : (x g l : ℕ) → x ≡ 0 → Flat x g l none
flat_none x g l e = record { drop = omega arith; under = omega arith; over = omega arith }

pub none_flat : (x g l : ℕ) → Flat x g l none → x ≡ 0
none_flat x g l f = omega (arith, f.drop)

pub flat_level : (x g l v : ℕ) → x ≤ g → v ≡ g - x → l ≤ v → Flat x g l (span v v)
flat_level x g l v h e o = record { drop = omega arith; under = omega arith; over = o }

pub level_flat : (x g l v : ℕ) → v ≡ g - x → Flat x g l (span v v) → (x ≤ g) × (l ≤ v)
level_flat x g l v e f = (omega (arith, f.drop, f.under), f.over)

apart_of : (a b : ℕ) → not (eqb a b) ≡ true → a ≡ b → ⊥
apart_of a b e p = no_bit (sym e ∙ ap not (eq-eqb a b p))

of_apart : (a b : ℕ) → (a ≡ b → ⊥) → not (eqb a b) ≡ true
of_apart a b h = ap not (ne_eqb a b h)

split_span : (q : Bounds) (g l : ℕ) → is_uneven q ≡ true → q ≡ span (greatest_or g q) (least_or l q)
split_span none g l e = no_bit (sym e)
split_span (span c d) g l e = refl

-- a part of a square lies between the square's bounds
greatest_part : (p : Bounds) (v w : ℕ) → Inside p (span v w) → greatest_or v p ≤ v
greatest_part none v w h = omega arith
greatest_part (span a b) v w h = omega arith

least_part : (p : Bounds) (v w : ℕ) → Inside p (span v w) → w ≤ least_or w p
least_part none v w h = omega arith
least_part (span a b) v w h = omega arith

module _ (A : Raster) (L : Lists) where
  open L use {split_marks, lmax, lmin}

  pub flat_cell : (z g l r c : ℕ) → Flat (get_or lmax z 0) g l (bounds_at A 0 r c) → Fit A L 0 z g l r c
  unfolding bounds_of
  flat_cell z g l r c f = record { here = f.drop; under = f.under; over = f.over }

  pub cell_flat : (z g l r c : ℕ) → Fit A L 0 z g l r c → Flat (get_or lmax z 0) g l (bounds_at A 0 r c)
  unfolding bounds_of
  cell_flat z g l r c f = record { drop = f.here; under = f.under; over = f.over }

  pub flat_even : (k z g l r c : ℕ) → get_or split_marks z false ≡ false → is_uneven (bounds_at A (suc k) r c) ≡ false → Flat (get_or lmax z 0) g l (bounds_at A (suc k) r c)
      → Fit A L (suc k) z g l r c
  unfolding bounds_of
  flat_even k z g l r c m e f = record {
    here = (f.drop, (m ∙ sym e, λ t. no_bit (sym t ∙ e)), rw e tt);
    under = f.under;
    over = f.over;
  }

  pub even_flat : (k z g l r c : ℕ) → Fit A L (suc k) z g l r c → Flat (get_or lmax z 0) g l (bounds_at A (suc k) r c)
  unfolding bounds_of
  even_flat k z g l r c f = record { drop = f.here.0; under = f.under; over = f.over }

  -- the mark at its place is its own
  pub fit_mark : (k z g l r c : ℕ) → Fit A L (suc k) z g l r c → get_or split_marks z false ≡ is_uneven (bounds_at A (suc k) r c)
  unfolding bounds_of
  fit_mark k z g l r c f = f.here.1.0

  -- ---- a split square, whose greatest is v and whose least is w

  pub record Split (k z g l v w r c : ℕ) : Type 0 where
    pub fits : get_or lmax z 0 ≤ g
    pub v_is : v ≡ g - get_or lmax z 0
    pub w_is : w ≡ l + get_or lmin (ones_before split_marks z) 0
    pub pair_is : bounds_at A (suc k) r c ≡ span v w
    pub apart : v ≡ w → ⊥
    pub parts : (i : ℕ) → i < 4 → Fit A L k (4 * ones_before split_marks (suc z) + i) v w (2 * r + i / 2) (2 * c + i % 2)

  pub split_fit : (k z g l v w r c : ℕ) → get_or split_marks z false ≡ true → Split k z g l v w r c → Fit A L (suc k) z g l r c
  unfolding bounds_of
  split_fit k z g l v w r c m s =
      let n = claim (square (suc k) r c) g l in
      let e : is_uneven (bounds_at A (suc k) r c) ≡ true = ap is_uneven s.pair_is ∙ of_apart v w s.apart in
      let p : greatest_or g (bounds_at A (suc k) r c) ≡ v = ap (greatest_or g) s.pair_is in
      let q : least_or l (bounds_at A (suc k) r c) ≡ w = ap (least_or l) s.pair_is in
      record {
        here = (
          omega (arith, s.fits, s.v_is, p),
          (m ∙ sym e, λ _. omega (arith, s.w_is, q)),
          quarters (claims A) L k z n (m ∙ sym e) e (λ i b. rw (p, q) (s.parts i b).here),
        );
        under = omega (arith, p, s.v_is);
        over = omega (arith, q, s.w_is);
      }

  pub fit_split : (k z g l v w r c : ℕ) → get_or split_marks z false ≡ true → v ≡ g - get_or lmax z 0 → w ≡ l + get_or lmin (ones_before split_marks z) 0
      → Fit A L (suc k) z g l r c → Split k z g l v w r c
  unfolding bounds_of
  fit_split k z g l v w r c m x y f =
      let n = claim (square (suc k) r c) g l in
      let e : is_uneven (bounds_at A (suc k) r c) ≡ true = sym f.here.1.0 ∙ m in
      let p : greatest_or g (bounds_at A (suc k) r c) ≡ v = omega (arith, f.under, f.here.0) in
      let q : least_or l (bounds_at A (suc k) r c) ≡ w = omega (arith, f.over, f.here.1.1 e) in
      let s : bounds_at A (suc k) r c ≡ span v w = split_span (bounds_at A (suc k) r c) g l e ∙ (λ i. span (p i) (q i)) in
      record {
        fits = omega (arith, f.here.0);
        v_is = x;
        w_is = y;
        pair_is = s;
        apart = apart_of v w (sym (ap is_uneven s) ∙ e);
        parts = λ i b.
            let rr : (2 * r + i / 2) / 2 ≡ r = omega arith in
            let cc' : (2 * c + i % 2) / 2 ≡ c = omega arith in
            let u : Inside (bounds_at A k (2 * r + i / 2) (2 * c + i % 2)) (span v w) =
            subst (λ (t : Bounds). Inside (bounds_at A k (2 * r + i / 2) (2 * c + i % 2)) t) s (rw (rr, cc') at (inside_up A k (2 * r + i / 2) (2 * c + i % 2))) in
            record {
              here = rw (p, q) at (Form.quarter (claims A) L k z n i b e f.here);
              under = greatest_part (bounds_at A k (2 * r + i / 2) (2 * c + i % 2)) v w u;
              over = least_part (bounds_at A k (2 * r + i / 2) (2 * c + i % 2)) v w u;
            };
      }

  -- ---- claims that are right

  drop_is : (k r c g l : ℕ) → bounds_at A (suc k) (r / 2) (c / 2) ≡ span g l → greatest_drop A (square k r c) ≡ g - greatest_or g (bounds_at A k r c)
  unfolding bounds_of
  drop_is k r c g l e = ap (λ (q : Bounds). greatest_or 0 q - greatest_or (greatest_or 0 q) (bounds_at A k r c)) e

  rise_is : (k r c g l : ℕ) → bounds_at A (suc k) (r / 2) (c / 2) ≡ span g l → least_rise A (square k r c) ≡ least_or l (bounds_at A k r c) - l
  unfolding bounds_of
  rise_is k r c g l e = ap (λ (q : Bounds). least_or (least_or 0 q) (bounds_at A k r c) - least_or 0 q) e

  -- the quarter's parent is the square, so its claims are right too
  own_right : (k r c g l i : ℕ) → i < 4 → is_uneven (bounds_at A (suc k) r c) ≡ true
      → bounds_at A (suc k) ((2 * r + i / 2) / 2) ((2 * c + i % 2) / 2) ≡ span (greatest_or g (bounds_at A (suc k) r c)) (least_or l (bounds_at A (suc k) r c))
  own_right k r c g l i h e =
      let y : (2 * r + i / 2) / 2 ≡ r = omega arith in
      let x : (2 * c + i % 2) / 2 ≡ c = omega arith in
      rw (y, x) (split_span (bounds_at A (suc k) r c) g l e)

  Right : ℕ → Type 0
  Right k = (z r c g l : ℕ) → bounds_at A (suc k) (r / 2) (c / 2) ≡ span g l → Here (claims A) L k z (claim (square k r c) g l)
      → Here (squares A) L k z (square k r c)

  right_step : (k : ℕ) → Right k → (z r c g l : ℕ) → bounds_at A (suc (suc k)) (r / 2) (c / 2) ≡ span g l → Here (claims A) L (suc k) z (claim (square (suc k) r c) g l)
      → (b : Bool) → is_uneven (bounds_at A (suc k) r c) ≡ b → Here (squares A) L (suc k) z (square (suc k) r c)
  unfolding Right bounds_of
  right_step k ih z r c g l p h true e =
      let n = claim (square (suc k) r c) g l in (
        h.0 ∙ sym (drop_is (suc k) r c g l p),
        (h.1.0, λ m. h.1.1 m ∙ sym (rise_is (suc k) r c g l p)),
        quarters (squares A) L k z (square (suc k) r c) h.1.0 e
            (λ i b. ih (4 * ones_before split_marks (suc z) + i) (2 * r + i / 2) (2 * c + i % 2) (greatest_or g (bounds_at A (suc k) r c)) (least_or l (bounds_at A (suc k) r c))
            (own_right k r c g l i b e) (Form.quarter (claims A) L k z n i b e h)),
      )
  right_step k ih z r c g l p h false e =
      (h.0 ∙ sym (drop_is (suc k) r c g l p), (h.1.0, λ m. no_bit (sym m ∙ e)), rw e tt)

  right : (k : ℕ) → Right k
  unfolding Right bounds_of
  right zero z r c g l p h = h ∙ sym (drop_is 0 r c g l p)
  right (suc k) z r c g l p h = right_step k (right k) z r c g l p h (is_uneven (bounds_at A (suc k) r c)) refl

  Claimed : ℕ → Type 0
  Claimed k = (z r c g l : ℕ) → bounds_at A (suc k) (r / 2) (c / 2) ≡ span g l → Here (squares A) L k z (square k r c)
      → Here (claims A) L k z (claim (square k r c) g l)

  claimed_step : (k : ℕ) → Claimed k → (z r c g l : ℕ) → bounds_at A (suc (suc k)) (r / 2) (c / 2) ≡ span g l → Here (squares A) L (suc k) z (square (suc k) r c)
      → (b : Bool) → is_uneven (bounds_at A (suc k) r c) ≡ b → Here (claims A) L (suc k) z (claim (square (suc k) r c) g l)
  unfolding Claimed bounds_of
  claimed_step k ih z r c g l p h true e =
      let n = claim (square (suc k) r c) g l in (
        h.0 ∙ drop_is (suc k) r c g l p,
        (h.1.0, λ m. h.1.1 m ∙ rise_is (suc k) r c g l p),
        quarters (claims A) L k z n h.1.0 e
            (λ i b. ih (4 * ones_before split_marks (suc z) + i) (2 * r + i / 2) (2 * c + i % 2) (greatest_or g (bounds_at A (suc k) r c)) (least_or l (bounds_at A (suc k) r c))
            (own_right k r c g l i b e) (Form.quarter (squares A) L k z (square (suc k) r c) i b e h)),
      )
  claimed_step k ih z r c g l p h false e =
      (h.0 ∙ drop_is (suc k) r c g l p, (h.1.0, λ m. no_bit (sym m ∙ e)), rw e tt)

  claimed : (k : ℕ) → Claimed k
  unfolding Claimed bounds_of
  claimed zero z r c g l p h = h ∙ drop_is 0 r c g l p
  claimed (suc k) z r c g l p h = claimed_step k (claimed k) z r c g l p h (is_uneven (bounds_at A (suc k) r c)) refl

  -- ---- the whole square, of depth h + 1, with greatest g and least l

  pub record Tested (h g l : ℕ) : Type 0 where
    pub lengths : Sized L h
    pub pair_is : bounds_at A (suc h) 0 0 ≡ span g l
    pub parts : (i : ℕ) → i < 4 → Fit A L h i g l (i / 2) (i % 2)

  -- lists in which the four quarters fit are the raster's
  pub tested_lists : (h g l : ℕ) → (g ≡ l → ⊥) → Tested h g l → L ≡ lists_from A (suc h)
  unfolding Right bounds_of
  tested_lists h g l n t =
      let root = square (suc h) 0 0 in
      let ks = kids (squares A) root in
      let m : is_uneven (bounds_at A (suc h) 0 0) ≡ true = ap is_uneven t.pair_is ∙ of_apart g l n in
      let here : (i : ℕ) → i < 4 → Here (squares A) L h i (quarter (square (suc h) 0 0) i) = λ i b.
      let y : 2 * 0 + i / 2 ≡ i / 2 = omega arith in
      let x : 2 * 0 + i % 2 ≡ i % 2 = omega arith in
      let y0 : i / 2 / 2 ≡ 0 = omega arith in
      let x0 : i % 2 / 2 ≡ 0 = omega arith in
      rw (y, x) (right h i (i / 2) (i % 2) g l (rw (y0, x0) t.pair_is) (t.parts i b).here) in
      let a : All (Here (squares A) L h) 0 (kids (squares A) (square (suc h) 0 0)) =
      all_of (Here (squares A) L h) root ks 0 (λ i b. rw (zero-add, kids_at (squares A) root i b) (here i b)) in
      unique (squares A) L h ks refl t.lengths a ∙ sym (ap (λ b. form (squares A) h (kids_if (squares A) b root)) m)

  pub lists_tested : (h g l : ℕ) → (g ≡ l → ⊥) → bounds_at A (suc h) 0 0 ≡ span g l → L ≡ lists_from A (suc h) → Tested h g l
  unfolding Claimed bounds_of
  lists_tested h g l n p e =
      let root = square (suc h) 0 0 in
      let ks = kids (squares A) root in
      let m : is_uneven (bounds_at A (suc h) 0 0) ≡ true = ap is_uneven p ∙ of_apart g l n in
      let f : L ≡ form (squares A) h (kids (squares A) (square (suc h) 0 0)) = e ∙ ap (λ b. form (squares A) h (kids_if (squares A) b root)) m in
      let a : All (Here (squares A) L h) 0 (kids (squares A) (square (suc h) 0 0)) =
      subst (λ (M : Lists). All (Here (squares A) M h) 0 ks) (sym f) (navigate (squares A) h ks refl) in
      record {
        lengths = subst (λ (M : Lists). Sized M h) (sym f) (sized (squares A) h ks refl);
        pair_is = p;
        parts = λ i b.
            let y : 2 * 0 + i / 2 ≡ i / 2 = omega arith in
            let x : 2 * 0 + i % 2 ≡ i % 2 = omega arith in
            let y0 : i / 2 / 2 ≡ 0 = omega arith in
            let x0 : i % 2 / 2 ≡ 0 = omega arith in
            let here : Here (squares A) L h i (square h (i / 2) (i % 2)) = rw (zero-add, y, x) at (first (squares A) L h 0 root i b a) in
            let u : Inside (bounds_at A h (i / 2) (i % 2)) (span g l) =
            subst (λ (t : Bounds). Inside (bounds_at A h (i / 2) (i % 2)) t) (rw (y0, x0) p) (inside_up A h (i / 2) (i % 2)) in
            record {
              here = claimed h i (i / 2) (i % 2) g l (rw (y0, x0) p) here;
              under = greatest_part (bounds_at A h (i / 2) (i % 2)) g l u;
              over = least_part (bounds_at A h (i / 2) (i % 2)) g l u;
            };
      }

  -- ---- what a reader finds

  -- of a cell, or an even square: one level
  pub says_cell : (z g r c : ℕ) → Says A L 0 z g r c → (y x : ℕ) → block_of 0 y ≡ r → block_of 0 x ≡ c → is_real A y x ≡ true → A.level y x ≡ g - get_or lmax z 0
  unfolding Says
  says_cell z g r c s = s

  pub says_even : (k z g r c : ℕ) → get_or split_marks z false ≡ false → Says A L (suc k) z g r c
      → (y x : ℕ) → block_of (suc k) y ≡ r → block_of (suc k) x ≡ c → is_real A y x ≡ true → A.level y x ≡ g - get_or lmax z 0
  unfolding Says
  says_even k z g r c t s y x p q e = s y x p q e ∙ rw t refl

  -- of a split square: what it finds in its quarters
  pub says_split : (k z g r c i : ℕ) → i < 4 → get_or split_marks z false ≡ true → Says A L (suc k) z g r c
      → Says A L k (4 * ones_before split_marks (suc z) + i) (g - get_or lmax z 0) (2 * r + i / 2) (2 * c + i % 2)
  unfolding Says
  says_split k z g r c i b t s y x p q e =
      let w : way_to y x k ≡ i = omega arith in
      s y x (omega arith) (omega arith) e ∙ rw (t, w) refl
