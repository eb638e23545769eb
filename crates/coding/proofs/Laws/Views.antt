-- The elements that bytes hold, as bits: a digit made in a byte is a bit set, and how many there are.
-- Assumes nothing.
use mathlib.Core.Path.{◌≡◌, refl, sym, ◌∙◌, ap}
use mathlib.Core.Bool.{Bool, true, false}
use mathlib.Core.List.{List, [], ◌∷◌, ◌++◌, map}
use Prim.Native.Nat.{ℕ, zero, suc, ◌+◌, ◌*◌, ◌-◌, ◌/◌, ◌%◌, ◌^◌, ◌<◌, ◌≤◌}
use native.Mathlib.Nat.{pow-suc}
use native.Mathlib.Numerals.{one-add}
use native.Mathlib.Omega.{arith}
use lib.Dec.{eqb}
use lib.ListN.{length, get_or, set, length-map}
use lib.Pow.{shr-shr}
use lib.Seq.{set-append_left}
use borrow.Author.Tests.{eqb-true, eqb-false}
use Rattle.coding.specs.Bits.{bit, digits, all_bits}
use Rattle.coding.specs.Lanes.{view_of, size_of}
use Rattle.coding.proofs.Laws.Packing.{digits-length, bits_length}

-- ---- a digit of a byte

-- the digit of weight 2 to the power k
abbrev digit_of : ℕ → ℕ → ℕ
digit_of b zero = b % 2
digit_of b (suc k) = digit_of (b / 2) k

digit_is : (b k : ℕ) → digit_of b k ≡ b / 2 ^ k % 2
digit_is b zero = let e : b / 1 ≡ b = omega arith in rw e refl
digit_is b (suc k) = digit_is (b / 2) k ∙ ap (λ n. n % 2) (shr-shr b 1 k ∙ ap (λ n. b / 2 ^ n) (one-add k))

same_digit : (n b k : ℕ) → set (digits n b) k (eqb (digit_of b k) 1) ≡ digits n b
unfolding digits
same_digit zero b k = refl
same_digit (suc n) b zero = refl
same_digit (suc n) b (suc k) = ap (λ l. eqb (b % 2) 1 ∷ l) (same_digit n (b / 2) k)

more_digit : (n b k : ℕ) → digit_of b k ≡ 0 → digits n (b + 2 ^ k) ≡ set (digits n b) k true
unfolding digits
more_digit zero b k h = refl
more_digit (suc n) b zero h =
    let x : (b + 2 ^ 0) % 2 ≡ 1 = omega arith in
    let y : (b + 2 ^ 0) / 2 ≡ b / 2 = omega arith in
    rw (x, y) refl
more_digit (suc n) b (suc k) h =
    let x : (b + 2 ^ suc k) % 2 ≡ b % 2 = omega (arith, pow-suc 2 k) in
    let y : (b + 2 ^ suc k) / 2 ≡ b / 2 + 2 ^ k = omega (arith, pow-suc 2 k) in
    rw (x, y, more_digit n (b / 2) k h) refl

more_fits : (n b k : ℕ) → digit_of b k ≡ 0 → k < n → b < 2 ^ n → b + 2 ^ k < 2 ^ n
more_fits zero b k h l g = absurd (omega arith)
more_fits (suc n) b zero h l g = omega (arith, pow-suc 2 n)
more_fits (suc n) b (suc k) h l g = omega (arith, pow-suc 2 n, pow-suc 2 k, more_fits n (b / 2) k h (omega arith) (omega (arith, pow-suc 2 n)))

least : (b k : ℕ) → digit_of b k ≡ 1 → 2 ^ k ≤ b
least b zero h = omega arith
least b (suc k) h = omega (arith, pow-suc 2 k, least (b / 2) k h)

less_digit : (n b k : ℕ) → digit_of b k ≡ 1 → digits n (b - 2 ^ k) ≡ set (digits n b) k false
unfolding digits
less_digit zero b k h = refl
less_digit (suc n) b zero h =
    let x : (b - 2 ^ 0) % 2 ≡ 0 = omega arith in
    let y : (b - 2 ^ 0) / 2 ≡ b / 2 = omega arith in
    rw (x, y) refl
less_digit (suc n) b (suc k) h =
    let m : 2 ^ suc k ≤ b = least b (suc k) h in
    let x : (b - 2 ^ suc k) % 2 ≡ b % 2 = omega (arith, pow-suc 2 k) in
    let y : (b - 2 ^ suc k) / 2 ≡ b / 2 - 2 ^ k = omega (arith, pow-suc 2 k) in
    rw (x, y, less_digit n (b / 2) k h) refl

-- the ways to make the digit k of b
module _ (b k : ℕ) where
  zero_is : eqb (b / 2 ^ k % 2) 1 ≡ false → digit_of b k ≡ 0
  zero_is h = omega (arith, digit_is b k, eqb-false (b / 2 ^ k % 2) 1 h)

  one_is : eqb (b / 2 ^ k % 2) 1 ≡ true → digit_of b k ≡ 1
  one_is h = digit_is b k ∙ eqb-true (b / 2 ^ k % 2) 1 h

  pub digit_kept : (v : Bool) → eqb (b / 2 ^ k % 2) 1 ≡ v → digits 8 b ≡ set (digits 8 b) k v
  digit_kept v h = sym (rw (digit_is b k, h) at (same_digit 8 b k))

  pub digit_more : eqb (b / 2 ^ k % 2) 1 ≡ false → digits 8 (b + 2 ^ k) ≡ set (digits 8 b) k true
  digit_more h = more_digit 8 b k (zero_is h)

  pub digit_fits : eqb (b / 2 ^ k % 2) 1 ≡ false → k < 8 → b < 256 → b + 2 ^ k < 256
  digit_fits h l g = more_fits 8 b k (zero_is h) l g

  pub digit_least : eqb (b / 2 ^ k % 2) 1 ≡ true → 2 ^ k ≤ b
  digit_least h = least b k (one_is h)

  pub digit_less : eqb (b / 2 ^ k % 2) 1 ≡ true → digits 8 (b - 2 ^ k) ≡ set (digits 8 b) k false
  digit_less h = less_digit 8 b k (one_is h)

-- ---- a bit of bytes

pub set-bit : (s : List ℕ) (q r b : ℕ) (v : Bool) → q < length s → r < 8 → digits 8 b ≡ set (digits 8 (get_or s q 0)) r v
    → all_bits (set s q b) ≡ set (all_bits s) (8 * q + r) v
unfolding all_bits digits
set-bit [] q r b v h g i = absurd (omega arith)
set-bit (x ∷ s) zero r b v h g i =
    let e : 8 * 0 + r ≡ r = omega arith in
    rw e
    (ap (λ l. l ++ all_bits s) i ∙ sym (set-append_left (digits 8 x) (all_bits s) r v (omega (arith, digits-length 8 x))))
set-bit (x ∷ s) (suc q) r b v h g i =
    let e : 8 * suc q + r ≡ suc (suc (suc (suc (suc (suc (suc (suc (8 * q + r)))))))) = omega arith in
    rw (e, set-bit s q r b v (omega arith) g i) refl

pub map-set : {A B : Type 0} (f : A → B) (l : List A) (k : ℕ) (v : A) → map f (set l k v) ≡ set (map f l) k (f v)
map-set f [] k v = refl
map-set f (x ∷ l) zero v = refl
map-set f (x ∷ l) (suc k) v = ap (λ m. f x ∷ m) (map-set f l k v)

-- ---- how many elements bytes hold

pub length_bits : (s : List ℕ) → length (view_of true s) ≡ 8 * length s
length_bits s = length-map (all_bits s) bit ∙ bits_length s

pub view_same : (b : Bool) (s t : List ℕ) → length s ≡ length t → length (view_of b s) ≡ length (view_of b t)
view_same true s t h = omega (arith, length_bits s, length_bits t)
view_same false s t h = h

-- the bytes that n elements take hold them
pub view_holds : (b : Bool) (n : ℕ) (s : List ℕ) → length s ≡ size_of b n → n ≤ length (view_of b s)
view_holds true n s h = omega (arith, length_bits s)
view_holds false n s h = omega arith
