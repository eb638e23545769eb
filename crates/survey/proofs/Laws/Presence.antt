-- Presence in the tree: it goes by the parent alone, and the squares of the stored lists, level by level, are just those present.
-- Assumes nothing.
use mathlib.Core.Path.{◌≡◌, refl, ap, ap₂, ◌∙◌, subst}
use mathlib.Core.Bool.{Bool, true, false, ◌&&◌}
use mathlib.Core.Logic.{⊎_elim}
use mathlib.Core.List.Memᴰ
use mathlib.Core.List.{List, [], ◌∷◌, Memᴰ}
use Prim.Native.Nat.{ℕ, zero, suc, ◌+◌, ◌*◌, ◌/◌, ◌%◌, ◌^◌, ◌≤◌, ◌<◌}
use native.Mathlib.Nat.{pow-suc}
use native.Mathlib.Omega.{arith}
use Rattle.coding.proofs.Laws.Lists.{and_left, and_right}
use Rattle.survey.specs.Raster.{Raster}
use Rattle.survey.specs.Square.{Square, square, below, quarter, bounds_of}
use Rattle.survey.specs.Order.{kids, kids_if, next, levels}
use Rattle.survey.specs.Tree.{is_split, squares, is_present}
use Rattle.survey.proofs.Laws.Squares.{uneven_up}

-- ---- presence goes by the parent alone

uneven_present : (A : Raster) (steps k r c : ℕ) → is_split A (square k r c) ≡ true → is_present A steps k r c ≡ true
unfolding bounds_of
uneven_present A zero k r c e = refl
uneven_present A (suc steps) k r c e =
    let u = uneven_up A k r c e in
    ap₂ (λ (a b : Bool). a && b) (uneven_present A steps (suc k) (r / 2) (c / 2) u) u

and_false : (a : Bool) → (a && false) ≡ false
and_false true = refl
and_false false = refl

by_parent : (A : Raster) (steps k r c : ℕ) (b : Bool) → is_split A (square (suc k) (r / 2) (c / 2)) ≡ b
    → is_present A (suc steps) k r c ≡ is_split A (square (suc k) (r / 2) (c / 2))
by_parent A steps k r c true e = rw (uneven_present A steps (suc k) (r / 2) (c / 2) e) refl
by_parent A steps k r c false e = rw e (and_false (is_present A steps (suc k) (r / 2) (c / 2)))

-- a quarter is in the tree exactly if the square around it is uneven
pub present_by_parent : (A : Raster) (steps k r c : ℕ) → is_present A (suc steps) k r c ≡ is_split A (square (suc k) (r / 2) (c / 2))
present_by_parent A steps k r c = by_parent A steps k r c (is_split A (square (suc k) (r / 2) (c / 2))) refl

-- ---- the levels of the tree

abbrev pub In : Square → List Square → Type 0
In s l = Memᴰ s l

module _ (A : Raster) where
  -- the squares so many steps below the whole square, which has depth D
  abbrev pub level_of : ℕ → ℕ → List Square
  level_of D zero = square D 0 0 ∷ []
  level_of D (suc j) = next (squares A) (level_of D j)

  -- s is a quarter of a split square of the list
  pub record Quartered (s : Square) (l : List Square) : Type 0 where
    pub parent : Square
    pub there : In parent l
    pub split : is_split A parent ≡ true
    pub place : ℕ
    pub four : place < 4
    pub is : s ≡ quarter parent place

  four_cases : (s p : Square) (l : List Square) → In p l → is_split A p ≡ true → In s (kids (squares A) p) → Quartered s l
  four_cases s p l m e (Memᴰ.head q) = record { parent = p; there = m; split = e; place = 0; four = omega arith; is = q }
  four_cases s p l m e (Memᴰ.tail (Memᴰ.head q)) = record { parent = p; there = m; split = e; place = 1; four = omega arith; is = q }
  four_cases s p l m e (Memᴰ.tail (Memᴰ.tail (Memᴰ.head q))) =
      record { parent = p; there = m; split = e; place = 2; four = omega arith; is = q }
  four_cases s p l m e (Memᴰ.tail (Memᴰ.tail (Memᴰ.tail (Memᴰ.head q)))) =
      record { parent = p; there = m; split = e; place = 3; four = omega arith; is = q }
  four_cases s p l m e (Memᴰ.tail (Memᴰ.tail (Memᴰ.tail (Memᴰ.tail q)))) = absurd (Memᴰ.not-nil q)

  kids_cases : (s p : Square) (l : List Square) → In p l → (b : Bool) → is_split A p ≡ b → In s (kids_if (squares A) b p) → Quartered s l
  kids_cases s p l m true e h = four_cases s p l m e h
  kids_cases s p l m false e h = absurd (Memᴰ.not-nil h)

  wider : {s p : Square} {l : List Square} → Quartered s l → Quartered s (p ∷ l)
  wider q = record { parent = q.parent; there = Memᴰ.tail q.there; split = q.split; place = q.place; four = q.four; is = q.is }

  next_in : (s : Square) (l : List Square) → In s (next (squares A) l) → Quartered s l
  next_in s [] h = absurd (Memᴰ.not-nil h)
  next_in s (p ∷ l) h =
      ⊎_elim (λ m. kids_cases s p (p ∷ l) (Memᴰ.head refl) (is_split A p) refl m) (λ m. wider (next_in s l m))
      (Memᴰ.append_cases (kids_if (squares A) (is_split A p) p) h)

  kid_in : (p : Square) (i : ℕ) → i < 4 → In (quarter p i) (kids (squares A) p)
  kid_in p zero h = Memᴰ.head refl
  kid_in p (suc zero) h = Memᴰ.tail (Memᴰ.head refl)
  kid_in p (suc (suc zero)) h = Memᴰ.tail (Memᴰ.tail (Memᴰ.head refl))
  kid_in p (suc (suc (suc zero))) h = Memᴰ.tail (Memᴰ.tail (Memᴰ.tail (Memᴰ.head refl)))
  kid_in p (suc (suc (suc (suc i)))) h = absurd (omega arith)

  in_next : (p : Square) (i : ℕ) → i < 4 → is_split A p ≡ true → (l : List Square) → In p l → In (quarter p i) (next (squares A) l)
  in_next p i h e [] m = elim m [ ]
  in_next p i h e (q ∷ l) (Memᴰ.head m) =
      Memᴰ.append_left (next (squares A) l)
      (subst (λ (t : Square). In (quarter p i) (kids_if (squares A) (is_split A t) t)) m (rw e (kid_in p i h)))
  in_next p i h e (q ∷ l) (Memᴰ.tail m) =
      Memᴰ.append_right (kids_if (squares A) (is_split A q) q) (in_next p i h e l m)

  -- what stands on a level is present
  pub record Present (j k : ℕ) (s : Square) : Type 0 where
    pub depth : s.depth ≡ k
    pub present : is_present A j k s.row s.column ≡ true

  quarter_present : (j k : ℕ) (s p : Square) (i : ℕ) → i < 4 → s ≡ quarter p i → is_split A p ≡ true → Present j (suc k) p → Present (suc j) k s
  quarter_present j k s p i h q e t =
      let r : s.row / 2 ≡ p.row = omega (arith, ap (λ (n : Square). n.row) q) in
      let c : s.column / 2 ≡ p.column = omega (arith, ap (λ (n : Square). n.column) q) in
      let f : is_split A (square (suc k) p.row p.column) ≡ true = subst (λ (d : ℕ). is_split A (square d p.row p.column) ≡ true) t.depth e in
      record {
        depth = ap (λ (n : Square). n.depth) q ∙ ap below t.depth;
        present = rw (r, c, t.present, f) refl;
      }

  pub level_present : (j k : ℕ) (s : Square) → In s (level_of (j + k) j) → Present j k s
  level_present zero k s h =
      record { depth = omega (arith, ap (λ (n : Square). n.depth) (Memᴰ.eq_of_singleton h)); present = refl }
  level_present (suc j) k s h =
      let q = next_in s (level_of (suc j + k) j) h in
      let n : suc j + k ≡ j + suc k = omega arith in
      quarter_present j k s q.parent q.place q.four q.is q.split
      (level_present j (suc k) q.parent (subst (λ (d : ℕ). In q.parent (level_of d j)) n q.there))

  -- what is present stands on its level
  pub present_level : (j k r c : ℕ) → r < 2 ^ j → c < 2 ^ j → is_present A j k r c ≡ true → In (square k r c) (level_of (j + k) j)
  present_level zero k r c p q h =
      let d : k ≡ 0 + k = omega arith in
      let y : r ≡ 0 = omega arith in
      let x : c ≡ 0 = omega arith in
      Memᴰ.head (λ i. square (d i) (y i) (x i))
  present_level (suc j) k r c p q h =
      let up = square (suc k) (r / 2) (c / 2) in
      let i = 2 * (r % 2) + c % 2 in
      let n : j + suc k ≡ suc j + k = omega arith in
      let y : r ≡ 2 * (r / 2) + (2 * (r % 2) + c % 2) / 2 = omega arith in
      let x : c ≡ 2 * (c / 2) + (2 * (r % 2) + c % 2) % 2 = omega arith in
      let a = is_present A j (suc k) (r / 2) (c / 2) in
      let b = is_split A up in
      let m : In (square (suc k) (r / 2) (c / 2)) (level_of (suc j + k) j) =
      subst (λ (d : ℕ). In up (level_of d j)) n
      (present_level j (suc k) (r / 2) (c / 2) (omega (arith, pow-suc 2 j)) (omega (arith, pow-suc 2 j)) (and_left a b h)) in
      Memᴰ.cast (λ t. square k (y t) (x t)) (in_next up i (omega arith) (and_right a b h) (level_of (suc j + k) j) m)

  -- ---- the squares of the stored lists

  -- those of n levels from the j-th on are those of each of them
  pub in_levels : (n D j : ℕ) (s : Square) → In s (levels (squares A) n (level_of D j)) → (i : ℕ) × (j ≤ i) × (i < j + n) × In s (level_of D i)
  in_levels zero D j s h = absurd (Memᴰ.not-nil h)
  in_levels (suc n) D j s h =
      ⊎_elim (λ m. (j, omega arith, omega arith, m))
      (λ m. let r = in_levels n D (suc j) s m in (r.0, omega (arith, r.1), omega (arith, r.2), r.3))
      (Memᴰ.append_cases (level_of D j) h)

  pub levels_in_lem : (n D j : ℕ) (s : Square) (i : ℕ) → i < n → In s (level_of D (i + j)) → In s (levels (squares A) n (level_of D j))
  levels_in_lem zero D j s i h m = absurd (omega arith)
  levels_in_lem (suc n) D j s zero h m =
      let e : 0 + j ≡ j = omega arith in
      Memᴰ.append_left (levels (squares A) n (level_of D (suc j))) (subst (λ (d : ℕ). In s (level_of D d)) e m)
  levels_in_lem (suc n) D j s (suc i) h m =
      let e : suc i + j ≡ i + suc j = omega arith in
      Memᴰ.append_right (level_of D j) (levels_in_lem n D (suc j) s i (omega arith) (subst (λ (d : ℕ). In s (level_of D d)) e m))
