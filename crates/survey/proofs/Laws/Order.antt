-- Navigation in a tree in level order, by counting ones: level after level, a level ends where the ones before it say that the next starts.
-- Assumes nothing.
use mathlib.Core.Path.{◌≡◌, refl, sym, ap, subst}
use mathlib.Core.Bool.{Bool, true, false}
use mathlib.Core.List.{List, [], ◌∷◌, ◌++◌, append-nil}
use Prim.Native.Nat.{ℕ, zero, suc, ◌+◌, ◌*◌, ◌<◌}
use native.Mathlib.Nat.{add-zero}
use native.Mathlib.Omega.{arith}
use lib.ListN.{length, get_or, length-append}
use Rattle.coding.proofs.Laws.Bits.{before_suc}
use Rattle.coding.specs.Bits.{bit, ones_before}
use Rattle.survey.specs.Order.{Shape, Lists, kids_if, next, levels}
use Rattle.survey.specs.Standing.{All, Max as MaxAt, Mark as MarkAt, Here as HereAt, start_of}

-- ---- a statement about each element of a list by its place

module _ {N : Type 0} (P : ℕ → N → Type 0) where
  pub all_move : (l : List N) {x y : ℕ} → x ≡ y → All P x l → All P y l
  all_move l e h = subst (λ (z : ℕ). All P z l) e h

  pub all_join : (a b : List N) (z : ℕ) → All P z a → All P (z + length a) b → All P z (a ++ b)
  all_join [] b z h k = all_move b (add-zero z) k
  all_join (n ∷ a) b z h k = (h.0, all_join a b (suc z) h.1 (all_move b (omega arith) k))

  pub all_left : (a b : List N) (z : ℕ) → All P z (a ++ b) → All P z a
  all_left [] b z h = tt
  all_left (n ∷ a) b z h = (h.0, all_left a b (suc z) h.1)

  pub all_right : (a b : List N) (z : ℕ) → All P z (a ++ b) → All P (z + length a) b
  all_right [] b z h = all_move b (omega arith) h
  all_right (n ∷ a) b z h = all_move b (omega arith) (all_right a b (suc z) h.1)

  pub all_at : (d : N) (l : List N) (z i : ℕ) → i < length l → All P z l → P (z + i) (get_or l i d)
  all_at d [] z i h a = absurd (omega arith)
  all_at d (n ∷ l) z zero h a = subst (λ (x : ℕ). P x n) (sym (add-zero z)) a.0
  all_at d (n ∷ l) z (suc i) h a = subst (λ (x : ℕ). P x (get_or l i d)) (omega arith) (all_at d l (suc z) i (omega arith) a.1)

pub all_map : {N : Type 0} {P Q : ℕ → N → Type 0} → ((z : ℕ) (n : N) → P z n → Q z n) → (l : List N) (z : ℕ) → All P z l → All Q z l
all_map f [] z h = tt
all_map f (n ∷ l) z h = (f z n h.0, all_map f l (suc z) h.1)

pub all_of : {N : Type 0} (P : ℕ → N → Type 0) (d : N) (l : List N) (z : ℕ) → ((i : ℕ) → i < length l → P (z + i) (get_or l i d)) → All P z l
all_of P d [] z f = tt
all_of P d (n ∷ l) z f = (
  subst (λ (x : ℕ). P x n) (add-zero z) (f 0 (omega arith)),
  all_of P d l (suc z) (λ i h. let e : z + suc i ≡ suc z + i = omega arith in subst (λ (x : ℕ). P x (get_or l i d)) e (f (suc i) (omega arith))),
)

-- ---- levels

module _ {N : Type 0} (S : Shape N) where
  pub length-kids : (b : Bool) (n : N) → length (kids_if S b n) ≡ 4 * bit b
  length-kids true n = refl
  length-kids false n = refl

module _ {N : Type 0} (S : Shape N) (L : Lists) where
  open S use {mark, kid, dmax, dmin}
  open L use {split_marks, lmax, lmin}

  abbrev Max : ℕ → N → Type 0
  Max = MaxAt S L

  abbrev Mark : ℕ → N → Type 0
  Mark = MarkAt S L

  abbrev Here : ℕ → ℕ → N → Type 0
  Here = HereAt S L

  -- ---- one level

  after : (n : N) (z : ℕ) → Mark z n → (4 + 4 * ones_before split_marks z) + length (kids_if S (mark n) n) ≡ 4 + 4 * ones_before split_marks (suc z)
  after n z h = omega (arith, length-kids S (mark n) n, before_suc split_marks z, ap bit h.0)

  row_max : (k : ℕ) (l : List N) (z : ℕ) → All (Here k) z l → All Max z l
  row_max k [] z h = tt
  row_max zero (n ∷ l) z h = (h.0, row_max zero l (suc z) h.1)
  row_max (suc k) (n ∷ l) z h = (h.0.0, row_max (suc k) l (suc z) h.1)

  row_mark : (k : ℕ) (l : List N) (z : ℕ) → All (Here (suc k)) z l → All Mark z l
  row_mark k [] z h = tt
  row_mark k (n ∷ l) z h = (h.0.1, row_mark k l (suc z) h.1)

  row_next : (k : ℕ) (l : List N) (z : ℕ) → All (Here (suc k)) z l → All (Here k) (4 + 4 * ones_before split_marks z) (next S l)
  row_next k [] z h = tt
  row_next k (n ∷ l) z h =
      all_join (Here k) (kids_if S (mark n) n) (next S l) (4 + 4 * ones_before split_marks z) h.0.2
      (all_move (Here k) (next S l) (sym (after n z h.0.1)) (row_next k l (suc z) h.1))

  row : (k : ℕ) (l : List N) (z : ℕ) → All Max z l → All Mark z l → All (Here k) (4 + 4 * ones_before split_marks z) (next S l) → All (Here (suc k)) z l
  row k [] z x m h = tt
  row k (n ∷ l) z x m h = (
    (x.0, m.0, all_left (Here k) (kids_if S (mark n) n) (next S l) (4 + 4 * ones_before split_marks z) h),
    row k l (suc z) x.1 m.1
        (all_move (Here k) (next S l) (after n z m.0) (all_right (Here k) (kids_if S (mark n) n) (next S l) (4 + 4 * ones_before split_marks z) h)),
  )

  row_ones : (l : List N) (z : ℕ) → All Mark z l → 4 * ones_before split_marks (z + length l) ≡ 4 * ones_before split_marks z + length (next S l)
  row_ones [] z h = omega (arith, ap (λ (x : ℕ). ones_before split_marks x) (add-zero z))
  row_ones (n ∷ l) z h =
      let e : z + suc (length l) ≡ suc z + length l = omega arith in
      omega (arith, ap (λ (x : ℕ). ones_before split_marks x) e, row_ones l (suc z) h.1, after n z h.0, length-append (kids_if S (mark n) n) (next S l))

  -- ---- all levels

  -- the level l, from z, ends where counting the ones before it says that the level below starts
  abbrev pub Starts : ℕ → List N → Type 0
  Starts z l = z + length l ≡ 4 + 4 * ones_before split_marks z

  starts-next : (l : List N) (z : ℕ) → Starts z l → All Mark z l → Starts (z + length l) (next S l)
  starts-next l z e m = omega (arith, row_ones l z m)

  pub sound_max : (k : ℕ) (l : List N) (z : ℕ) → Starts z l → All (Here k) z l → All Max z (levels S (suc k) l)
  sound_max zero l z e h = rw append-nil (row_max zero l z h)
  sound_max (suc k) l z e h =
      all_join Max l (levels S (suc k) (next S l)) z (row_max (suc k) l z h)
      (sound_max k (next S l) (z + length l) (starts-next l z e (row_mark k l z h)) (all_move (Here k) (next S l) (sym e) (row_next k l z h)))

  pub sound_mark : (k : ℕ) (l : List N) (z : ℕ) → Starts z l → All (Here k) z l → All Mark z (levels S k l)
  sound_mark zero l z e h = tt
  sound_mark (suc k) l z e h =
      all_join Mark l (levels S k (next S l)) z (row_mark k l z h)
      (sound_mark k (next S l) (z + length l) (starts-next l z e (row_mark k l z h)) (all_move (Here k) (next S l) (sym e) (row_next k l z h)))

  pub stands : (k : ℕ) (l : List N) (z : ℕ) → Starts z l → All Max z (levels S (suc k) l) → All Mark z (levels S k l) → All (Here k) z l
  stands zero l z e x m = rw append-nil at x
  stands (suc k) l z e x m =
      let m' : All Mark z l = all_left Mark l (levels S k (next S l)) z m in
      row k l z (all_left Max l (levels S (suc k) (next S l)) z x) m'
      (all_move (Here k) (next S l) e
      (stands k (next S l) (z + length l) (starts-next l z e m')
      (all_right Max l (levels S (suc k) (next S l)) z x)
      (all_right Mark l (levels S k (next S l)) z m)))

  pub length-levels : (k : ℕ) (l : List N) (z : ℕ) → Starts z l → All Mark z (levels S k l) → z + length (levels S k l) ≡ start_of split_marks k z
  length-levels zero l z e m = omega arith
  length-levels (suc k) l z e m =
      let m' : All Mark z l = all_left Mark l (levels S k (next S l)) z m in
      omega (
        arith,
        length-append l (levels S k (next S l)),
        ap (start_of split_marks k) e,
        length-levels k (next S l) (z + length l) (starts-next l z e m') (all_right Mark l (levels S k (next S l)) z m),
      )

  pub length-levels-suc : (k : ℕ) (l : List N) (z : ℕ) → Starts z l → All Mark z (levels S k l) → z + length (levels S (suc k) l) ≡ start_of split_marks (suc k) z
  length-levels-suc zero l z e m = rw append-nil e
  length-levels-suc (suc k) l z e m =
      let m' : All Mark z l = all_left Mark l (levels S k (next S l)) z m in
      omega (
        arith,
        length-append l (levels S (suc k) (next S l)),
        ap (start_of split_marks (suc k)) e,
        length-levels-suc k (next S l) (z + length l) (starts-next l z e m') (all_right Mark l (levels S k (next S l)) z m),
      )
