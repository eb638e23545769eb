-- Bits, the ones before a place, and both by bytes: the bit i of some bytes is a digit of byte i / 8, and the ones before it are those of the
-- bytes before that one and of its lower digits. Running counts of ones, and sums of ones over some bytes.
-- Assumes nothing.
use mathlib.Core.Path.{◌≡◌, refl, sym, ap, ◌∙◌, subst}
use mathlib.Core.Bool.{Bool, true, false}
use mathlib.Core.List.{List, [], ◌∷◌, ◌++◌}
use Prim.Native.Nat.{ℕ, zero, suc, ◌+◌, ◌*◌, ◌-◌, ◌/◌, ◌%◌, ◌^◌, ◌≤◌, ◌<◌, min}
use mathlib.Core.Logic.{◌⊎◌, ⊎_elim}
use Rattle.std.proofs.lemmas.Bool.{cases_lt}
use native.Mathlib.Nat.{zero-add, div-one, mod-one, mod-eq_of_lt, zero-div}
use native.Mathlib.Numerals.{add-one}
use native.Mathlib.Omega.{arith}
use lib.Count as Count
use lib.Dec.{eqb}
use lib.ListN.{length, get_or, take, drop, get_or-append, length-take, length-drop}
use lib.Pow.{shr-shr, field, mod-mod-pow, pow_pos, pow-add}
use lib.Seq.{get_or-append-add, get_or-take, take_all}
use Rattle.coding.specs.Bits.{bit, ones, ones_before, digits, all_bits}
use Rattle.coding.specs.Places.{bits_of, ones_in, Index}
use Rattle.coding.proofs.Laws.Packing.{bit_odd, digits-length, bits_length}

-- ---- the ones before a place

pub before_suc : (l : List Bool) (z : ℕ) → ones_before l (suc z) ≡ ones_before l z + bit (get_or l z false)
before_suc [] zero = refl
before_suc [] (suc z) = refl
before_suc (b ∷ l) zero = omega arith
before_suc (b ∷ l) (suc z) = omega (arith, before_suc l z)

-- beyond the last bit, all of them
pub before_past : (l : List Bool) (z : ℕ) → length l ≤ z → ones_before l z ≡ ones l
before_past [] zero h = refl
before_past [] (suc z) h = refl
before_past (b ∷ l) zero h = absurd (omega arith)
before_past (b ∷ l) (suc z) h = omega (arith, before_past l z (omega arith))

pub before_all : (l : List Bool) → ones_before l (length l) ≡ ones l
before_all l = before_past l (length l) (omega arith)

pub before_nil : (z : ℕ) → ones_before [] z ≡ 0
before_nil z = before_past [] z (omega arith)

pub before_append_le : (a b : List Bool) (z : ℕ) → z ≤ length a → ones_before (a ++ b) z ≡ ones_before a z
before_append_le a b zero h = refl
before_append_le [] b (suc z) h = absurd (omega arith)
before_append_le (x ∷ a) b (suc z) h = omega (arith, before_append_le a b z (omega arith))

pub before_append-add : (a b : List Bool) (z : ℕ) → ones_before (a ++ b) (length a + z) ≡ ones a + ones_before b z
before_append-add [] b z =
    let e : 0 + z ≡ z = omega arith in
    omega (arith, ap (ones_before b) e)
before_append-add (x ∷ a) b z =
    let e : suc (length a) + z ≡ suc (length a + z) = omega arith in
    ap (ones_before ((x ∷ a) ++ b)) e ∙ omega (arith, before_append-add a b z)

pub before_take : (l : List Bool) (n z : ℕ) → z ≤ n → ones_before (take n l) z ≡ ones_before l z
before_take l n zero h = refl
before_take l zero (suc z) h = absurd (omega arith)
before_take [] (suc n) (suc z) h = refl
before_take (b ∷ l) (suc n) (suc z) h = omega (arith, before_take l n z (omega arith))

pub before_le : (l : List Bool) (z : ℕ) → ones_before l z ≤ z
before_le l zero = omega arith
before_le [] (suc z) = omega arith
before_le (true ∷ l) (suc z) = omega (arith, before_le l z)
before_le (false ∷ l) (suc z) = omega (arith, before_le l z)

-- a place with a 1 is a place
pub set_in : (n : ℕ) (l : List Bool) (z : ℕ) → get_or (take n l) z false ≡ true → z < n
set_in zero l z e = let q : ◌≡◌ {A = ℕ} 0 1 = ap bit e in absurd (omega arith)
set_in (suc n) [] z e = let q : ◌≡◌ {A = ℕ} 0 1 = ap bit e in absurd (omega arith)
set_in (suc n) (b ∷ l) zero e = omega arith
set_in (suc n) (b ∷ l) (suc z) e = omega (arith, set_in n l z e)

-- ---- one byte

pub digit_at : (k x i : ℕ) → i < k → get_or (digits k x) i false ≡ eqb (x / 2 ^ i % 2) 1
unfolding digits
digit_at zero x i h = absurd (omega arith)
digit_at (suc k) x zero h = ap (λ n. eqb (n % 2) 1) (sym (div-one x))
digit_at (suc k) x (suc i) h =
    let e : 1 + i ≡ suc i = omega arith in
    digit_at k (x / 2) i (omega arith) ∙ ap (λ n. eqb (n % 2) 1) (shr-shr x 1 i ∙ ap (λ n. x / 2 ^ n) e)

pub before_digits : (k r x : ℕ) → r ≤ k → ones_before (digits k x) r ≡ Count.ones (x % 2 ^ r)
unfolding digits Count.ones
before_digits k zero x h = ap Count.ones (sym (mod-one x))
before_digits zero (suc r) x h = absurd (omega arith)
before_digits (suc k) (suc r) x h =
    let e : r + 1 ≡ suc r = omega arith in
    let m : x % 2 ^ suc r % 2 ≡ x % 2 = ap (λ n. x % 2 ^ n % 2) (sym e) ∙ mod-mod-pow x r 1 in
    let d : x % 2 ^ suc r / 2 ≡ x / 2 % 2 ^ r = ap (λ n. x % 2 ^ n / 2) (sym e) ∙ field x r 1 in
    omega (arith, bit_odd (x % 2) (omega arith), before_digits k r (x / 2) (omega arith), Count.ones_step (x % 2 ^ suc r), m, ap Count.ones d)

pub ones-digits : (x : ℕ) → ones (digits 8 x) ≡ Count.ones (x % 256)
ones-digits x = sym (before_past (digits 8 x) 8 (omega (arith, digits-length 8 x))) ∙ before_digits 8 8 x (omega arith)

-- ---- bytes

pub bit_at : (s : List ℕ) (q r : ℕ) → r < 8 → get_or (all_bits s) (8 * q + r) false ≡ eqb (get_or s q 0 / 2 ^ r % 2) 1
unfolding all_bits
bit_at [] q r h = ap (λ n. eqb (n % 2) 1) (sym (zero-div (2 ^ r)))
bit_at (x ∷ s) zero r h =
    let e : 8 * 0 + r ≡ r = omega arith in
    ap (λ n. get_or (digits 8 x ++ all_bits s) n false) e
    ∙ get_or-append (digits 8 x) (all_bits s) false r (omega (arith, digits-length 8 x)) ∙ digit_at 8 x r h
bit_at (x ∷ s) (suc q) r h =
    let e : 8 * suc q + r ≡ length (digits 8 x) + (8 * q + r) = omega (arith, digits-length 8 x) in
    ap (λ n. get_or (digits 8 x ++ all_bits s) n false) e ∙ get_or-append-add (digits 8 x) (all_bits s) (8 * q + r) false ∙ bit_at s q r h

ones-zero : Count.ones 0 ≡ 0
unfolding Count.ones
ones-zero = refl

pub ones_in-nil : (q : ℕ) → ones_in [] q ≡ 0
ones_in-nil zero = refl
ones_in-nil (suc q) = refl

pub ones_in-suc : (s : List ℕ) (q : ℕ) → ones_in s (suc q) ≡ ones_in s q + Count.ones (get_or s q 0 % 256)
ones_in-suc [] q = omega (arith, ones_in-nil q, ones-zero)
ones_in-suc (x ∷ s) zero = omega arith
ones_in-suc (x ∷ s) (suc q) = omega (arith, ones_in-suc s q)

pub ones_in_one : (s : List ℕ) (q : ℕ) → ones_in s (q + 1) ≡ ones_in s q + Count.ones (get_or s q 0 % 256)
ones_in_one s q = ap (ones_in s) (add-one q) ∙ ones_in-suc s q

pub before_at : (s : List ℕ) (q r : ℕ) → r < 8 → ones_before (all_bits s) (8 * q + r) ≡ ones_in s q + Count.ones (get_or s q 0 % 2 ^ r)
unfolding all_bits
before_at [] q r h =
    let m : 0 % 2 ^ r ≡ 0 = mod-eq_of_lt (pow_pos r) in
    omega (arith, before_nil (8 * q + r), ones_in-nil q, ap Count.ones m, ones-zero)
before_at (x ∷ s) zero r h =
    let e : 8 * 0 + r ≡ r = omega arith in
    ap (ones_before (digits 8 x ++ all_bits s)) e
    ∙ before_append_le (digits 8 x) (all_bits s) r (omega (arith, digits-length 8 x)) ∙ omega (arith, before_digits 8 r x (omega arith))
before_at (x ∷ s) (suc q) r h =
    let e : 8 * suc q + r ≡ length (digits 8 x) + (8 * q + r) = omega (arith, digits-length 8 x) in
    ap (ones_before (digits 8 x ++ all_bits s)) e
    ∙ omega (arith, before_append-add (digits 8 x) (all_bits s) (8 * q + r), before_at s q r h, ones-digits x)

-- whole bytes
pub before_bytes : (s : List ℕ) (q : ℕ) → ones_before (all_bits s) (8 * q) ≡ ones_in s q
before_bytes s q =
    let e : 8 * q ≡ 8 * q + 0 = omega arith in
    ap (ones_before (all_bits s)) e ∙ omega (arith, before_at s q 0 (omega arith), ap Count.ones (mod-one (get_or s q 0)), ones-zero)

pub ones_in_le : (s : List ℕ) (q : ℕ) → ones_in s q ≤ 8 * q
ones_in_le s q = omega (arith, before_bytes s q, before_le (all_bits s) (8 * q))

-- ---- the first n bits

pub length_of : (s : List ℕ) (n : ℕ) → n ≤ 8 * length s → length (bits_of s n) ≡ n
length_of s n h = omega (arith, length-take n (all_bits s), bits_length s)

pub bit_of : (s : List ℕ) (n i : ℕ) → i < n → get_or (bits_of s n) i false ≡ eqb (get_or s (i / 8) 0 / 2 ^ (i % 8) % 2) 1
bit_of s n i h =
    let e : i ≡ 8 * (i / 8) + i % 8 = omega arith in
    get_or-take n (all_bits s) i false h ∙ ap (λ m. get_or (all_bits s) m false) e ∙ bit_at s (i / 8) (i % 8) (omega arith)

pub before_of : (s : List ℕ) (n z : ℕ) → z ≤ n → ones_before (bits_of s n) z ≡ ones_in s (z / 8) + Count.ones (get_or s (z / 8) 0 % 2 ^ (z % 8))
before_of s n z h =
    let e : z ≡ 8 * (z / 8) + z % 8 = omega arith in
    before_take (all_bits s) n z h ∙ ap (ones_before (all_bits s)) e ∙ before_at s (z / 8) (z % 8) (omega arith)

-- beyond the last bit, all ones
pub before_beyond : (s : List ℕ) (n z : ℕ) → n ≤ z → ones_before (bits_of s n) z ≡ ones_before (bits_of s n) n
before_beyond s n z h =
    let e : length (bits_of s n) ≤ n = omega (arith, length-take n (all_bits s)) in
    before_past (bits_of s n) z (omega arith) ∙ sym (before_past (bits_of s n) n e)

-- and those are the ones before the last bit, and itself
pub before_last : (s : List ℕ) (n m z : ℕ) → n ≡ m + 1 → n ≤ z
    → ones_before (bits_of s n) z ≡ ones_before (bits_of s n) m + bit (get_or (bits_of s n) m false)
before_last s n m z e h = before_beyond s n z h ∙ ap (ones_before (bits_of s n)) (e ∙ add-one m) ∙ before_suc (bits_of s n) m

-- ---- running counts

-- the ones before a block of 512
pub before_block : (s : List ℕ) (n k : ℕ) → 512 * k ≤ n → ones_before (bits_of s n) (512 * k) ≡ ones_in s (64 * k)
before_block s n k h =
    let e : 512 * k ≡ 8 * (64 * k) = omega arith in
    before_take (all_bits s) n (512 * k) h ∙ ap (ones_before (all_bits s)) e ∙ before_bytes s (64 * k)

-- the index has the ones before the block of place z
pub block_of : {s : List ℕ} {n : ℕ} {x : List ℕ} → Index s n x → (z : ℕ) → z < n → z / 512 < length x
    → get_or x (z / 512) 0 ≡ ones_in s (64 * (z / 512))
block_of {s} {n} {x} i z h b = i.right (z / 512) b ∙ before_block s n (z / 512) (omega arith)

-- an index is right whose counts are those of the bytes before each block
pub index_made : (s x : List ℕ) (n : ℕ) → n ≤ 8 * length s → n < 2 ^ 32 → 512 * length x < n + 512
    → ((k : ℕ) → k < length x → get_or x k 0 ≡ ones_in s (64 * k)) → Index s n x
index_made s x n f m b r = record { fits = f; small = m; right = λ k h. r k h ∙ sym (before_block s n k (omega arith)) }

-- ---- sums of ones over some bytes

-- w holds the bytes from i + k to i + 8, the first of them lowest
pub record Word (s : List ℕ) (i k w : ℕ) : Type 0 where
  pub most : k ≤ 8
  pub room : w < 2 ^ (8 * (8 - k))
  pub count : ones_in s (i + 8) ≡ ones_in s (i + k) + Count.ones w
  pub few : Count.ones w ≤ 8 * (8 - k)

pub word_none : (s : List ℕ) (i : ℕ) → Word s i 8 0
word_none s i = record {
  most = omega arith;
  room = omega arith;
  count = omega (arith, ones-zero);
  few = omega (arith, ones-zero);
}

pub word_room : (k w x : ℕ) → 0 < k → k ≤ 8 → w < 2 ^ (8 * (8 - k)) → x < 256 → w * 256 + x < 2 ^ (8 * (8 - (k - 1)))
word_room k w x p m h b =
    let e : 8 * (8 - (k - 1)) ≡ 8 * (8 - k) + 8 = omega arith in
    let q : 2 ^ (8 * (8 - (k - 1))) ≡ 2 ^ (8 * (8 - k)) * 256 = ap (λ n. 2 ^ n) e ∙ pow-add 2 (8 * (8 - k)) 8 in
    omega arith

pub word_more : (s : List ℕ) (i k w : ℕ) → 0 < k → get_or s (i + (k - 1)) 0 < 256 → Word s i k w
    → Word s i (k - 1) (w * 256 + get_or s (i + (k - 1)) 0)
word_more s i k w p b h =
    let x = get_or s (i + (k - 1)) 0 in
    let e : i + k ≡ (i + (k - 1)) + 1 = omega arith in
    record {
      most = omega (arith, h.most);
      room = word_room k w x p h.most h.room b;
      count = omega (arith, h.count, ap (ones_in s) e, ones_in_one s (i + (k - 1)), Count.ones_cat 8 w x b, ap Count.ones (mod-eq_of_lt b));
      few = omega (arith, h.few, Count.ones_cat 8 w x b, Count.ones-le 8 x b);
    }

-- how many bits there are that are seen as a list
pub counted : {s x : List ℕ} {n : ℕ} {l : List Bool} → Index s n x → l ≡ bits_of s n → length l ≡ n
counted {s} {x} {n} i e = ap length e ∙ length_of s n i.fits

-- ---- ones in a part

pub ones_in-add : (s : List ℕ) (a n : ℕ) → ones_in s (a + n) ≡ ones_in s a + ones_in (drop a s) n
ones_in-add s zero n = rw (zero-add, zero-add) refl
ones_in-add [] (suc a) n = omega (arith, ones_in-nil (suc a + n), ones_in-nil n)
ones_in-add (x ∷ s) (suc a) n =
    let e : suc a + n ≡ suc (a + n) = omega arith in
    rw e (omega (arith, ones_in-add s a n))

pub ones_in-take : (s : List ℕ) (n : ℕ) → ones_in (take n s) n ≡ ones_in s n
ones_in-take s zero = refl
ones_in-take [] (suc n) = refl
ones_in-take (x ∷ s) (suc n) = ap (λ k. Count.ones (x % 256) + k) (ones_in-take s n)

-- the ones in the bytes from a on, n of them
pub ones_in_part : (s : List ℕ) (a n k : ℕ) → k ≡ ones_in (take n (drop a s)) n → ones_in s (a + n) ≡ ones_in s a + k
ones_in_part s a n k e = omega (arith, e, ones_in-add s a n, ones_in-take (drop a s) n)

ones_in-past : (s : List ℕ) (n : ℕ) → length s ≤ n → ones_in s n ≡ ones_in s (length s)
ones_in-past [] n h = ones_in-nil n
ones_in-past (x ∷ s) zero h = absurd (omega arith)
ones_in-past (x ∷ s) (suc n) h = ap (λ k. Count.ones (x % 256) + k) (ones_in-past s n (omega arith))

-- the first n bytes, as far as they go
pub ones_in_front : (d : List ℕ) (n j : ℕ) → j ≡ min n (length d) → ones_in d n ≡ ones_in (take j d) (length (take j d))
ones_in_front d n j e =
    let c : (n < length d) ⊎ (length d ≤ n) = cases_lt n (length d) in
    ⊎_elim
    (λ g.
    let i : n ≡ j = omega arith in
    let l : j ≡ length (take j d) = omega (arith, length-take j d) in
    sym (ones_in-take d n) ∙ ap (λ k. ones_in (take k d) k) i ∙ ap (ones_in (take j d)) l)
    (λ g. ones_in-past d n g ∙ ap (λ u. ones_in u (length u)) (sym (take_all j d (omega arith)))) c

-- the bytes from a on, at most n of them, as far as they go
pub ones_in_block : (s : List ℕ) (a n m k : ℕ) → a ≤ length s → m ≡ min (a + n) (length s) → let t = take (m - a) (drop a s) in k ≡ ones_in t (length t)
    → ones_in s (a + n) ≡ ones_in s a + k
ones_in_block s a n m k h e q =
    let t = take (m - a) (drop a s) in
    let l : length t ≡ m - a = omega (arith, length-take (m - a) (drop a s), length-drop a s) in
    let r : ones_in (drop a s) n ≡ ones_in t (length t) = ones_in_front (drop a s) n (m - a) (omega (arith, length-drop a s)) in
    omega (arith, ones_in-add s a n, r, q)

-- eight bytes, the first lowest, as one number
module _ (s : List ℕ) (b : (i : ℕ) → i < 8 → get_or s i 0 < 256) where
  one_less : (k w : ℕ) → k < 8 → Word s 0 (k + 1) w → Word s 0 k (w * 256 + get_or s k 0)
  one_less k w l h =
      let z : 0 + (k + 1 - 1) ≡ k = omega arith in
      let e : k + 1 - 1 ≡ k = omega arith in
      let c : get_or s (0 + (k + 1 - 1)) 0 ≡ get_or s k 0 = ap (λ i. get_or s i 0) z in
      let r = word_more s 0 (k + 1) w (omega arith) (rw c (b k l)) h in
      subst (λ x. Word s 0 k (w * 256 + x)) c (subst (λ j. Word s 0 j (w * 256 + get_or s (0 + (k + 1 - 1)) 0)) e r)

  abbrev byte : ℕ → ℕ
  byte i = get_or s i 0

  pub eight : (v : ℕ) → v ≡ (((((((0 * 256 + byte 7) * 256 + byte 6) * 256 + byte 5) * 256 + byte 4) * 256 + byte 3) * 256 + byte 2) * 256 + byte 1) * 256 + byte 0
      → (Count.ones v ≡ ones_in s 8) × (Count.ones v ≤ 64)
  eight v e =
      let w = one_less 0 _ (omega arith) (one_less 1 _ (omega arith) (one_less 2 _ (omega arith) (one_less 3 _ (omega arith)
      (one_less 4 _ (omega arith) (one_less 5 _ (omega arith) (one_less 6 _ (omega arith) (one_less 7 _ (omega arith) (word_none s 0)))))))) in
      (omega (arith, w.count, ap Count.ones e), omega (arith, w.few, ap Count.ones e))
