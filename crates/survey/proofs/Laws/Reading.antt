-- Reading back: every level that went into a stored form comes out of it, so a stored form is that of one survey only.
-- Assumes nothing.
use mathlib.Core.Path.{◌≡◌, refl, sym, ap, ap₂, ◌∙◌, subst}
use mathlib.Core.Bool.{Bool, true, false, ◌&&◌, not}
use mathlib.Core.List.{[], ◌++◌, append-nil}
use Prim.Native.Nat.{ℕ, zero, suc, ◌+◌, ◌*◌, ◌-◌, ◌/◌, ◌%◌, ◌≤◌, ◌<◌}
use native.Mathlib.Nat.{zero-add}
use native.Mathlib.Decide.{dec_lt}
use native.Mathlib.Omega.{arith}
use lib.Dec.{eqb, leb, ltb}
use lib.ListN.{get_or, drop}
use borrow.Author.Tests.{ltb-true, leb-true}
use Rattle.coding.specs.Bytes.{word}
use Rattle.coding.specs.Bits.{ones_before}
use Rattle.coding.specs.Sections.{packed, bits_at, after_bits, list_at}
use Rattle.coding.proofs.Laws.Lists.{and_left, and_right}
use Rattle.coding.proofs.Laws.Sections.{number_word, bits_front, bits_after, list_front, list_after}
use Rattle.survey.specs.Level.{turned, is_level, lowest_level, highest_level}
use Rattle.survey.specs.Raster.{Raster, is_real, side_limit, in_limits, every_to, is_survey}
use Rattle.survey.specs.Sides.{depth_of}
use Rattle.survey.specs.Square.{Bounds, none, span, join, square, quarter, bounds_at, bounds_of, bounds_if, greatest_or, least_or, is_uneven}
use Rattle.survey.specs.Order.{Lists, kids, kids_if, form}
use Rattle.survey.specs.Standing.{Here}
use Rattle.survey.specs.Tree.{is_split, greatest_drop, squares, lists_from, lists_of}
use Rattle.survey.specs.File.{greatest_of, least_of, heading, list_sections, file_of}
use Rattle.survey.specs.Reading.{rows_in, columns_in, greatest_in, least_in, after_list, lists_in, block_of, way_to, level_below, level_from, level_in}
use Rattle.survey.proofs.Laws.Form.{navigate, first}
use Rattle.survey.proofs.Laws.Form as Form
use Rattle.survey.proofs.Laws.Squares.{leaf_real, real_same, Inside, inside_join, inside_up, proper, Proper, cell_inside, some_bounds, greatest_any, even_level, greatest_within}
use Rattle.survey.proofs.Laws.Sides.{side_covers, block_zero}

-- ---- going down

module _ (A : Raster) (L : Lists) (y x : ℕ) (real : is_real A y x ≡ true) where
  -- the greatest of the square of depth k that the cell lies in
  abbrev top : ℕ → ℕ
  top k = greatest_or 0 (bounds_at A k (block_of k y) (block_of k x))

  inside : (k : ℕ) → Inside (span (A.level y x) (A.level y x)) (bounds_at A k (block_of k y) (block_of k x))
  inside = cell_inside A y x real

  -- what the difference in Lmax leaves of the parent's greatest is the square's own
  own : (k z : ℕ) → get_or L.lmax z 0 ≡ greatest_drop A (square k (block_of k y) (block_of k x)) → top (suc k) - get_or L.lmax z 0 ≡ top k
  unfolding bounds_of
  own k z e =
      let p = bounds_at A k (block_of k y) (block_of k x) in
      let q = bounds_at A (suc k) (block_of (suc k) y) (block_of (suc k) x) in
      omega (
        arith,
        e,
        greatest_any (A.level y x) (greatest_or 0 q) 0 p (inside k),
        greatest_within 0 p q (inside_up A k (block_of k y) (block_of k x)),
      )

  -- a reader that stands at the square that the cell lies in finds the cell's level
  Finds : ℕ → Type 0
  Finds k = (z : ℕ) → Here (squares A) L k z (square k (block_of k y) (block_of k x)) → level_below L (way_to y x) k z (top (suc k)) ≡ A.level y x

  finds_step : (k : ℕ) → Finds k → (z : ℕ) → Here (squares A) L (suc k) z (square (suc k) (block_of (suc k) y) (block_of (suc k) x))
      → (b : Bool) → is_split A (square (suc k) (block_of (suc k) y) (block_of (suc k) x)) ≡ b → level_below L (way_to y x) (suc k) z (top (suc (suc k))) ≡ A.level y x
  unfolding Finds
  finds_step k ih z h true e =
      let n = square (suc k) (block_of (suc k) y) (block_of (suc k) x) in
      let i = way_to y x k in
      let t : get_or L.split_marks z false ≡ true = h.1.0 ∙ e in
      let g : top (suc (suc k)) - get_or L.lmax z 0 ≡ top (suc k) = own (suc k) z h.0 in
      let r : 2 * (block_of k y / 2) + way_to y x k / 2 ≡ block_of k y = omega arith in
      let c : 2 * (block_of k x / 2) + way_to y x k % 2 ≡ block_of k x = omega arith in
      let q : Here (squares A) L k (4 * ones_before L.split_marks (suc z) + way_to y x k) (square k (block_of k y) (block_of k x)) =
      rw (r, c) at (Form.quarter (squares A) L k z n i (omega arith) e h) in
      rw (t, g) (ih (4 * ones_before L.split_marks (suc z) + i) q)
  finds_step k ih z h false e =
      let t : get_or L.split_marks z false ≡ false = h.1.0 ∙ e in
      rw t (own (suc k) z h.0 ∙ unfold bounds_of in even_level (A.level y x) 0 (bounds_at A (suc k) (block_of (suc k) y) (block_of (suc k) x)) e (inside (suc k)))

  finds : (k : ℕ) → Finds k
  unfolding Finds
  finds zero z h = own zero z h ∙ ap (greatest_or 0) (leaf_real (is_real A y x) (A.level y x) real)
  finds (suc k) z h = finds_step k (finds k) z h (is_split A (square (suc k) (block_of (suc k) y) (block_of (suc k) x))) refl

  -- the whole square, of depth D, holds the cell
  module _ (D : ℕ) (row : block_of D y ≡ 0) (column : block_of D x ≡ 0) where
    whole_is : bounds_at A D 0 0 ≡ bounds_at A D (block_of D y) (block_of D x)
    whole_is = ap₂ (λ (r c : ℕ). bounds_at A D r c) (sym row) (sym column)

    pub whole_inside : Inside (span (A.level y x) (A.level y x)) (bounds_at A D 0 0)
    whole_inside = rw whole_is (inside D)

  from_split : (h : ℕ) → block_of (suc h) y ≡ 0 → block_of (suc h) x ≡ 0 → is_split A (square (suc h) 0 0) ≡ true
      → L ≡ form (squares A) h (kids (squares A) (square (suc h) 0 0)) → level_below L (way_to y x) h (way_to y x h) (greatest_or 0 (bounds_at A (suc h) 0 0)) ≡ A.level y x
  unfolding Finds
  from_split h p q e l =
      let n = square (suc h) 0 0 in
      let i = way_to y x h in
      let r : 2 * 0 + way_to y x h / 2 ≡ block_of h y = omega arith in
      let c : 2 * 0 + way_to y x h % 2 ≡ block_of h x = omega arith in
      let a = subst (λ (M : Lists). Here (squares A) M h (0 + i) (quarter n i)) (sym l)
      (first (squares A) (form (squares A) h (kids (squares A) n)) h 0 n i (omega arith) (navigate (squares A) h (kids (squares A) n) refl)) in
      let s : Here (squares A) L h (way_to y x h) (square h (block_of h y) (block_of h x)) = rw (r, c, zero-add) at a in
      rw (whole_is (suc h) p q) (finds h i s)

  -- what is read from the lists of the whole square is the cell's level
  pub from_whole : (D : ℕ) → block_of D y ≡ 0 → block_of D x ≡ 0 → L ≡ lists_from A D → (b : Bool) → is_split A (square D 0 0) ≡ b
      → level_from L (way_to y x) D b (greatest_or 0 (bounds_at A D 0 0)) ≡ A.level y x
  unfolding bounds_of
  from_whole zero p q l b e = ap (greatest_or 0) (whole_is zero p q ∙ leaf_real (is_real A y x) (A.level y x) real)
  from_whole (suc h) p q l true e = from_split h p q e (l ∙ ap (λ b. form (squares A) h (kids_if (squares A) b (square (suc h) 0 0))) e)
  from_whole (suc h) p q l false e = even_level (A.level y x) 0 (bounds_at A (suc h) 0 0) e (whole_inside (suc h) p q)

-- ---- the file, taken apart

pub rows_back : (A : Raster) → rows_in (file_of A) ≡ A.rows
unfolding file_of heading word
rows_back A = number_word A.rows _

pub columns_back : (A : Raster) → columns_in (file_of A) ≡ A.columns
unfolding file_of heading word
columns_back A = number_word A.columns _

turned_twice : (v : ℕ) → v < 4294967296 → turned (turned v) ≡ v
turned_twice v h = omega arith

pub greatest_back : (A : Raster) → greatest_of A < 4294967296 → greatest_in (file_of A) ≡ greatest_of A
unfolding file_of heading word
greatest_back A h = ap turned (number_word (turned (greatest_of A)) _) ∙ turned_twice (greatest_of A) h

pub least_back : (A : Raster) → least_of A < 4294967296 → least_in (file_of A) ≡ least_of A
unfolding file_of heading word
least_back A h = ap turned (number_word (turned (least_of A)) _) ∙ turned_twice (least_of A) h

-- what stands behind the heading
pub sections_back : (A : Raster) → drop 20 (file_of A) ≡ list_sections (lists_of A)
unfolding file_of heading word
sections_back A = refl

pub lists_back : (A : Raster) → lists_in (file_of A) ≡ lists_of A
unfolding lists_in list_sections
lists_back A =
    let L = lists_of A in
    let t = packed L.lmax ++ packed L.lmin in
    let s = sections_back A in
    let n : packed L.lmin ++ [] ≡ packed L.lmin = append-nil (packed L.lmin) in
    let b : after_bits (drop 20 (file_of A)) ≡ packed (lists_of A).lmax ++ packed (lists_of A).lmin = ap after_bits s ∙ bits_after L.split_marks t in
    λ i. record {
      split_marks = (ap bits_at s ∙ bits_front L.split_marks t) i;
      lmax = (ap list_at b ∙ list_front L.lmax (packed L.lmin)) i;
      lmin = (ap list_at (ap after_list b ∙ list_after L.lmax (packed L.lmin) ∙ sym n) ∙ list_front L.lmin []) i;
    }

-- ---- surveys within the limits

every_step : (n : ℕ) (f : ℕ → Bool) → every_to (suc n) f ≡ true → (i : ℕ) → i < suc n → (i < n → f i ≡ true) → Dec (i < n) → f i ≡ true
every_step n f e i h ih (yes g) = ih g
every_step n f e i h ih (no g) = let s : i ≡ n = omega arith in rw s (and_right (every_to n f) (f n) e)

every_at : (n : ℕ) (f : ℕ → Bool) → every_to n f ≡ true → (i : ℕ) → i < n → f i ≡ true
every_at zero f e i h = absurd (omega arith)
every_at (suc n) f e i h = every_step n f e i h (every_at n f (and_left (every_to n f) (f n) e) i) (dec_lt i n)

-- what a survey within the limits meets
pub record Survey (A : Raster) : Type 0 where
  pub some_rows : 1 ≤ A.rows
  pub most_rows : A.rows ≤ side_limit
  pub some_columns : 1 ≤ A.columns
  pub most_columns : A.columns ≤ side_limit
  pub level : (y x : ℕ) → is_real A y x ≡ true → is_level (A.level y x) ≡ true

pub is_survey_lem : (A : Raster) → is_survey A ≡ true → Survey A
unfolding is_survey
is_survey_lem A e =
    let a = in_limits A.rows in
    let b = in_limits A.columns in
    let f = every_to A.rows (λ y. every_to A.columns (λ x. is_level (A.level y x))) in
    let p = and_left a (b && f) e in
    let q = and_left b f (and_right a (b && f) e) in
    let l = and_right b f (and_right a (b && f) e) in
    record {
      some_rows = leb-true 1 A.rows (and_left (leb 1 A.rows) (leb A.rows side_limit) p);
      most_rows = leb-true A.rows side_limit (and_right (leb 1 A.rows) (leb A.rows side_limit) p);
      some_columns = leb-true 1 A.columns (and_left (leb 1 A.columns) (leb A.columns side_limit) q);
      most_columns = leb-true A.columns side_limit (and_right (leb 1 A.columns) (leb A.columns side_limit) q);
      level = λ y x r.
          every_at A.columns (λ x. is_level (A.level y x))
          (every_at A.rows (λ y. every_to A.columns (λ x. is_level (A.level y x))) l y (ltb-true y A.rows (and_left (ltb y A.rows) (ltb x A.columns) r)))
          x (ltb-true x A.columns (and_right (ltb y A.rows) (ltb x A.columns) r));
    }

-- its bounds are levels
leaf_level : (b : Bool) (v : ℕ) → (b ≡ true → is_level v ≡ true) → Inside (bounds_if b v) (span highest_level lowest_level)
leaf_level true v h =
    let e = h refl in
    (leb-true v highest_level (and_right (leb lowest_level v) (leb v highest_level) e), leb-true lowest_level v (and_left (leb lowest_level v) (leb v highest_level) e))
leaf_level false v h = tt

pub bounds_levels : (A : Raster) → Survey A → (k r c : ℕ) → Inside (bounds_at A k r c) (span highest_level lowest_level)
bounds_levels A s zero r c = leaf_level (is_real A r c) (A.level r c) (s.level r c)
bounds_levels A s (suc k) r c =
    let t = span highest_level lowest_level in
    let p = bounds_at A k (2 * r) (2 * c) in
    let q = bounds_at A k (2 * r) (2 * c + 1) in
    let u = bounds_at A k (2 * r + 1) (2 * c) in
    let v = bounds_at A k (2 * r + 1) (2 * c + 1) in
    inside_join p (join q (join u v)) t (bounds_levels A s k (2 * r) (2 * c))
    (inside_join q (join u v) t (bounds_levels A s k (2 * r) (2 * c + 1))
    (inside_join u v t (bounds_levels A s k (2 * r + 1) (2 * c)) (bounds_levels A s k (2 * r + 1) (2 * c + 1))))

greatest_fits : (q : Bounds) → Inside q (span highest_level lowest_level) → greatest_or 0 q < 4294967296
greatest_fits none h = omega arith
greatest_fits (span g l) h = omega arith

least_fits : (q : Bounds) → Proper q → Inside q (span highest_level lowest_level) → least_or 0 q < 4294967296
least_fits none p h = omega arith
least_fits (span g l) p h = omega arith

-- ---- the laws

module _ (A : Raster) (s : Survey A) where
  pub greatest_read : greatest_in (file_of A) ≡ greatest_of A
  unfolding bounds_of
  greatest_read = greatest_back A (greatest_fits (bounds_at A (depth_of A) 0 0) (bounds_levels A s (depth_of A) 0 0))

  pub least_read : least_in (file_of A) ≡ least_of A
  unfolding bounds_of
  least_read = least_back A (least_fits (bounds_at A (depth_of A) 0 0) (proper A (depth_of A) 0 0) (bounds_levels A s (depth_of A) 0 0))

  -- a real cell lies in the whole square
  pub in_whole : (y x : ℕ) → is_real A y x ≡ true → (block_of (depth_of A) y ≡ 0) × (block_of (depth_of A) x ≡ 0)
  in_whole y x r =
      let c = side_covers A.rows A.columns s.most_rows s.most_columns in
      let p = ltb-true y A.rows (and_left (ltb y A.rows) (ltb x A.columns) r) in
      let q = ltb-true x A.columns (and_right (ltb y A.rows) (ltb x A.columns) r) in
      (block_zero (depth_of A) y (omega arith), block_zero (depth_of A) x (omega arith))

  -- THE LAW: every level that went in comes out
  pub level_back : (y x : ℕ) → is_real A y x ≡ true → level_in (file_of A) y x ≡ A.level y x
  unfolding level_in lists_of bounds_of
  level_back y x r =
      let w = in_whole y x r in
      let v = A.level y x in
      let q = bounds_at A (depth_of A) 0 0 in
      let b = some_bounds v 0 0 q (whole_inside A (lists_of A) y x r (depth_of A) w.0 w.1) in
      rw (lists_back A, rows_back A, columns_back A, greatest_read, least_read)
      (from_whole A (lists_of A) y x r (depth_of A) w.0 w.1 refl (not (eqb (greatest_of A) (least_of A))) (ap is_uneven b))

-- THE LAW: a stored form is that of one survey only: the same rows, the same columns, the same level at every real cell
pub record SameSurvey (A B : Raster) : Type 0 where
  pub rows : A.rows ≡ B.rows
  pub columns : A.columns ≡ B.columns
  pub level : (y x : ℕ) → is_real A y x ≡ true → A.level y x ≡ B.level y x

pub one_survey : (A B : Raster) → Survey A → Survey B → file_of A ≡ file_of B → SameSurvey A B
one_survey A B s t e =
    let m : A.rows ≡ B.rows = sym (rows_back A) ∙ ap rows_in e ∙ rows_back B in
    let n : A.columns ≡ B.columns = sym (columns_back A) ∙ ap columns_in e ∙ columns_back B in
    record {
      rows = m;
      columns = n;
      level = λ y x r. sym (level_back A s y x r) ∙ ap (λ f. level_in f y x) e ∙ level_back B t y x (sym (real_same A B y x m n) ∙ r);
    }
