-- The stored lists of a tree: every square stands in them where counting ones leads, and no other lists are so.
-- Assumes nothing.
use mathlib.Core.Path.{◌≡◌, refl, ap, ◌∙◌}
use mathlib.Core.Bool.{Bool, true, false}
use mathlib.Core.List.{List, [], ◌∷◌, map, nil≢cons, head-eq_of_cons-eq, tail-eq_of_cons-eq}
use Prim.Native.Nat.{ℕ, zero, suc, ◌+◌, ◌*◌, ◌≤◌, ◌<◌}
use native.Mathlib.Omega.{arith}
use lib.ListN.{length, get_or, drop, length-map, drop_of_length-le}
use lib.Seq.{drop-cons}
use Rattle.coding.proofs.Laws.Bits.{before_suc}
use Rattle.coding.specs.Bits.{bit, ones, ones_before}
use Rattle.survey.specs.Order.{Shape, Lists, no_lists, kids, kids_if, levels, keep_if, split_of, form}
use Rattle.survey.specs.Standing.{All, Mark, Here, Sized}
use Rattle.survey.proofs.Laws.Order.{all_map, all_at, all_of, all_move, sound_max, sound_mark, stands, length-levels, length-levels-suc}

module _ {A : Type 0} (d : A) where
  head_of : (l : List A) (z : ℕ) (a : A) (r : List A) → drop z l ≡ a ∷ r → get_or l z d ≡ a
  head_of [] zero a r e = absurd (nil≢cons e)
  head_of [] (suc z) a r e = absurd (nil≢cons e)
  head_of (x ∷ l) zero a r e = head-eq_of_cons-eq e
  head_of (x ∷ l) (suc z) a r e = head_of l z a r e

  tail_of : (l : List A) (z : ℕ) (a : A) (r : List A) → drop z l ≡ a ∷ r → drop (suc z) l ≡ r
  tail_of [] zero a r e = absurd (nil≢cons e)
  tail_of [] (suc z) a r e = absurd (nil≢cons e)
  tail_of (x ∷ l) zero a r e = tail-eq_of_cons-eq e
  tail_of (x ∷ l) (suc z) a r e = tail_of l z a r e

-- a list that is a map, read by places
module _ {N A : Type 0} (L : List A) (d : A) (f : N → A) where
  reads : (l : List N) (z : ℕ) → drop z L ≡ map f l → All (λ z n. get_or L z d ≡ f n) z l
  reads [] z e = tt
  reads (n ∷ l) z e = (head_of d L z (f n) (map f l) e, reads l (suc z) (tail_of d L z (f n) (map f l) e))

  is_map : (l : List N) (z : ℕ) → length L ≡ z + length l → All (λ z n. get_or L z d ≡ f n) z l → drop z L ≡ map f l
  is_map [] z e h = drop_of_length-le L {i = z} (omega arith)
  is_map (n ∷ l) z e h =
      let c : drop z L ≡ get_or L z d ∷ drop (suc z) L = drop-cons L z d (omega arith) in
      let r : drop (suc z) L ≡ map f l = is_map l (suc z) (omega arith) h.1 in
      cc (c, r, h.0)

module _ {N : Type 0} (S : Shape N) (L : Lists) where
  open S use {mark, kid, dmax, dmin}
  open L use {split_marks, lmax, lmin}

  before_next : (n : N) (z : ℕ) (b : Bool) → get_or split_marks z false ≡ mark n → mark n ≡ b → ones_before split_marks (suc z) ≡ ones_before split_marks z + bit b
  before_next n z b t e = omega (arith, before_suc split_marks z, ap bit (t ∙ e))

  marks_go : (n : N) (r : List N) (z : ℕ) (b : Bool) → mark n ≡ b → get_or split_marks z false ≡ mark n → drop (ones_before split_marks z) lmin ≡ map dmin (keep_if S b n r)
      → (mark n ≡ true → get_or lmin (ones_before split_marks z) 0 ≡ dmin n) × (drop (ones_before split_marks (suc z)) lmin ≡ map dmin r)
  marks_go n r z true e t y =
      let q : ones_before split_marks (suc z) ≡ suc (ones_before split_marks z) = omega (arith, before_next n z true t e) in
      (λ h. head_of 0 lmin (ones_before split_marks z) (dmin n) (map dmin r) y, rw q (tail_of 0 lmin (ones_before split_marks z) (dmin n) (map dmin r) y))
  marks_go n r z false e t y =
      let q : ones_before split_marks (suc z) ≡ ones_before split_marks z = omega (arith, before_next n z false t e) in
      (λ h. cc, rw q y)

  marks : (l : List N) (z : ℕ) → drop z split_marks ≡ map mark l → drop (ones_before split_marks z) lmin ≡ map dmin (split_of S l) → All (Mark S L) z l
  marks [] z t y = tt
  marks (n ∷ l) z t y =
      let m : get_or split_marks z false ≡ mark n = head_of false split_marks z (mark n) (map mark l) t in
      let g : (mark n ≡ true → get_or lmin (ones_before split_marks z) 0 ≡ dmin n) × (drop (ones_before split_marks (suc z)) lmin ≡ map dmin (split_of S l)) = marks_go n (split_of S l) z (mark n) refl m y in
      ((m, g.0), marks l (suc z) (tail_of false split_marks z (mark n) (map mark l) t) g.1)

  lows_go : (n : N) (r : List N) (z : ℕ) (b : Bool) → mark n ≡ b → Mark S L z n → ones_before split_marks z + bit b ≤ length lmin
      → drop (ones_before split_marks (suc z)) lmin ≡ map dmin r → drop (ones_before split_marks z) lmin ≡ map dmin (keep_if S b n r)
  lows_go n r z true e m h y =
      let q : ones_before split_marks (suc z) ≡ suc (ones_before split_marks z) = omega (arith, before_next n z true m.0 e) in
      let c : drop (ones_before split_marks z) lmin ≡ get_or lmin (ones_before split_marks z) 0 ∷ drop (suc (ones_before split_marks z)) lmin = drop-cons lmin (ones_before split_marks z) 0 (omega arith) in
      cc (c, m.1 e, y, q)
  lows_go n r z false e m h y =
      let q : ones_before split_marks (suc z) ≡ ones_before split_marks z = omega (arith, before_next n z false m.0 e) in
      rw q at y

  lows : (l : List N) (z : ℕ) → All (Mark S L) z l → length lmin ≡ ones_before split_marks z + ones (map mark l) → drop (ones_before split_marks z) lmin ≡ map dmin (split_of S l)
  lows [] z m e = drop_of_length-le lmin {i = ones_before split_marks z} (omega arith)
  lows (n ∷ l) z m e =
      lows_go n (split_of S l) z (mark n) refl m.0 (omega arith)
      (lows l (suc z) m.1 (omega (arith, before_next n z (mark n) m.0.0 refl)))

marked : {N : Type 0} (S : Shape N) (k : ℕ) (l : List N) → All (Mark S (form S k l)) 0 (levels S k l)
marked S k l = marks S (form S k l) (levels S k l) 0 refl refl

-- THE LAW: in the stored form of a level of four squares, every square stands where counting ones leads.
pub navigate : {N : Type 0} (S : Shape N) (k : ℕ) (l : List N) → length l ≡ 4 → All (Here S (form S k l) k) 0 l
navigate S k l e =
    stands S (form S k l) k l 0 (omega arith) (reads (form S k l).lmax 0 S.dmax (levels S (suc k) l) 0 refl) (marked S k l)

-- and conversely: lists of these lengths, in which every square stands so, are the stored form
pub unique : {N : Type 0} (S : Shape N) (L : Lists) (k : ℕ) (l : List N) → length l ≡ 4 → Sized L k → All (Here S L k) 0 l → L ≡ form S k l
unique S L k l e s h =
    let m : All (Mark S L) 0 (levels S k l) = sound_mark S L k l 0 (omega arith) h in
    let t : L.split_marks ≡ map S.mark (levels S k l) =
    is_map L.split_marks false S.mark (levels S k l) 0 (omega (arith, s.t_length, length-levels S L k l 0 (omega arith) m))
    (all_map (λ z n c. c.0) (levels S k l) 0 m) in
    let x : L.lmax ≡ map S.dmax (levels S (suc k) l) =
    is_map L.lmax 0 S.dmax (levels S (suc k) l) 0 (omega (arith, s.max_length, length-levels-suc S L k l 0 (omega arith) m))
    (sound_max S L k l 0 (omega arith) h) in
    let y : L.lmin ≡ map S.dmin (split_of S (levels S k l)) = lows S L (levels S k l) 0 m (omega (arith, s.min_length, ap ones t)) in
    λ i. record { split_marks = t i; lmax = x i; lmin = y i }

length_kept : {N : Type 0} (S : Shape N) (b : Bool) (n : N) (r : List N) → length (keep_if S b n r) ≡ bit b + length r
length_kept S true n r = omega arith
length_kept S false n r = omega arith

length_split : {N : Type 0} (S : Shape N) (l : List N) → length (split_of S l) ≡ ones (map S.mark l)
length_split S [] = refl
length_split S (n ∷ l) = omega (arith, length_kept S (S.mark n) n (split_of S l), length_split S l)

-- the stored form has these lengths
pub sized : {N : Type 0} (S : Shape N) (k : ℕ) (l : List N) → length l ≡ 4 → Sized (form S k l) k
sized S k l e = record {
  t_length = omega (arith, length-map (levels S k l) S.mark, length-levels S (form S k l) k l 0 (omega arith) (marked S k l));
  max_length = omega (arith, length-map (levels S (suc k) l) S.dmax, length-levels-suc S (form S k l) k l 0 (omega arith) (marked S k l));
  min_length = omega (arith, length-map (split_of S (levels S k l)) S.dmin, length_split S (levels S k l));
}

-- ---- for a reader: from a square to its quarter i

pub kids_at : {N : Type 0} (S : Shape N) (n : N) (i : ℕ) → i < 4 → get_or (kids S n) i n ≡ S.kid n i
kids_at S n zero h = refl
kids_at S n (suc zero) h = refl
kids_at S n (suc (suc zero)) h = refl
kids_at S n (suc (suc (suc zero))) h = refl
kids_at S n (suc (suc (suc (suc i)))) h = absurd (omega arith)

-- at the top: the quarters of the whole square stand from 0
pub first : {N : Type 0} (S : Shape N) (L : Lists) (k z : ℕ) (n : N) (i : ℕ) → i < 4 → All (Here S L k) z (kids S n) → Here S L k (z + i) (S.kid n i)
first S L k z n i h a = rw kids_at at (all_at (Here S L k) n (kids S n) z i h a)

pub quarter : {N : Type 0} (S : Shape N) (L : Lists) (k z : ℕ) (n : N) (i : ℕ) → i < 4 → S.mark n ≡ true → Here S L (suc k) z n
    → Here S L k (4 * ones_before L.split_marks (suc z) + i) (S.kid n i)
quarter S L k z n i h e a =
    let q : ones_before L.split_marks (suc z) ≡ ones_before L.split_marks z + 1 = before_next S L n z true a.1.0 e in
    let p : 4 + 4 * ones_before L.split_marks z ≡ 4 * ones_before L.split_marks (suc z) = omega arith in
    first S L k (4 * ones_before L.split_marks (suc z)) n i h (all_move (Here S L k) (kids S n) p (rw e at a.2))

-- and back, for a writer or a test: the quarters of a split square
pub quarters : {N : Type 0} (S : Shape N) (L : Lists) (k z : ℕ) (n : N) → get_or L.split_marks z false ≡ S.mark n → S.mark n ≡ true
    → ((i : ℕ) → i < 4 → Here S L k (4 * ones_before L.split_marks (suc z) + i) (S.kid n i)) → All (Here S L k) (4 + 4 * ones_before L.split_marks z) (kids_if S (S.mark n) n)
quarters S L k z n t e f =
    let q : ones_before L.split_marks (suc z) ≡ ones_before L.split_marks z + 1 = before_next S L n z true t e in
    let p : 4 * ones_before L.split_marks (suc z) ≡ 4 + 4 * ones_before L.split_marks z = omega arith in
    rw e (all_move (Here S L k) (kids S n) p (all_of (Here S L k) n (kids S n) (4 * ones_before L.split_marks (suc z)) (λ i h. rw kids_at (f i h))))

-- ---- an even survey: nothing is stored

levels-nil : {N : Type 0} (S : Shape N) (k : ℕ) → levels S k [] ≡ []
levels-nil S zero = refl
levels-nil S (suc k) = levels-nil S k

pub form-nil : {N : Type 0} (S : Shape N) (k : ℕ) → form S k [] ≡ no_lists
form-nil S k =
    let e : levels S k [] ≡ [] = levels-nil S k in
    let e' : levels S (suc k) [] ≡ [] = levels-nil S (suc k) in
    λ i. record { split_marks = map S.mark (e i); lmax = map S.dmax (e' i); lmin = map S.dmin (split_of S (e i)) }
