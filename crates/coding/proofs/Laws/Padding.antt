-- The unused bits of the bytes that hold n bits. They are 0 just if the last byte, where it has such bits, is below 2 ^ (n % 8).
-- Assumes nothing.
use mathlib.Core.Path.{◌≡◌, refl, sym, ap, ◌∙◌}
use mathlib.Core.Bool.{Bool, true, false}
use mathlib.Core.List.{List, [], ◌∷◌}
use Prim.Native.Nat.{ℕ, zero, suc, ◌+◌, ◌*◌, ◌/◌, ◌%◌, ◌^◌, ◌≤◌, ◌<◌}
use native.Mathlib.Decide.{dec_lt}
use native.Mathlib.Nat.{div-eq_of_lt, lt-div-mul-add, pow-suc}
use native.Mathlib.Omega.{arith}
use borrow.Author.Tests.{eqb-true, eq-eqb}
use lib.Dec.{eqb}
use lib.ListN.{length, get_or, take, drop, length-take, length-drop, take-append-drop, get_or-eq_default}
use lib.Pow.{pow_pos, pow_mono}
use lib.Seq.{drop-drop, get_or-drop, get_or-take, length-take-le, take-append-le}
use Rattle.coding.specs.Bits.{value_of, pack_bytes, pack_bits, all_bits}
use Rattle.coding.specs.Places.{bits_of}
use Rattle.coding.proofs.Laws.Bits.{bit_at, length_of}
use Rattle.coding.proofs.Laws.Packing.{Bytes, Clear, bits_length, bits_append, pack_back}
use Rattle.coding.proofs.Laws.Sections.{bytes_take, padded, same_eq, eq_same}

-- ---- the bytes that hold some bits, one by one

pub value_lt : (l : List Bool) → value_of l < 2 ^ length l
unfolding value_of
value_lt [] = omega arith
value_lt (true ∷ l) = omega (arith, value_lt l, pow-suc 2 (length l))
value_lt (false ∷ l) = omega (arith, value_lt l, pow-suc 2 (length l))

pub byte_packed : (n : ℕ) (l : List Bool) (q : ℕ) → q < n → get_or (pack_bytes n l) q 0 ≡ value_of (take 8 (drop (8 * q) l))
unfolding pack_bytes
byte_packed zero l q h = absurd (omega arith)
byte_packed (suc n) l zero h = refl
byte_packed (suc n) l (suc q) h =
    let e : 8 + 8 * q ≡ 8 * suc q = omega arith in
    byte_packed n (drop 8 l) q (omega arith) ∙ ap (λ m. value_of (take 8 m)) (drop-drop (8 * q) 8 l ∙ ap (λ k. drop k l) e)

-- ---- from the last byte to the bits behind

no_digit : (x r : ℕ) → x < 2 ^ r → eqb (x / 2 ^ r % 2) 1 ≡ false
no_digit x r h = ap (λ n. eqb (n % 2) 1) (div-eq_of_lt h)

module _ (s : List ℕ) (n : ℕ) (fits : (n + 7) / 8 ≤ length s) where
  front_length : length (take ((n + 7) / 8) s) ≡ (n + 7) / 8
  front_length = length-take-le ((n + 7) / 8) s fits

  front_bits : bits_of s n ≡ take n (all_bits (take ((n + 7) / 8) s))
  front_bits =
      let t = take ((n + 7) / 8) s in
      let r = drop ((n + 7) / 8) s in
      ap (λ l. take n (all_bits l)) (sym (take-append-drop ((n + 7) / 8) s)) ∙ ap (take n) (bits_append t r)
      ∙ take-append-le n (all_bits t) (all_bits r) (omega (arith, bits_length t, front_length))

  module _ (low : (n % 8 ≡ 0 → ⊥) → get_or s (n / 8) 0 < 2 ^ (n % 8)) where
    low_at : (j : ℕ) → n ≤ j → Dec (j / 8 < (n + 7) / 8) → get_or (take ((n + 7) / 8) s) (j / 8) 0 < 2 ^ (j % 8)
    low_at j h (yes p) =
        let q : j / 8 ≡ n / 8 = omega arith in
        let m : 2 ^ (n % 8) ≤ 2 ^ (j % 8) = pow_mono (omega arith) in
        omega (arith, get_or-take ((n + 7) / 8) s (j / 8) 0 p, ap (λ i. get_or s i 0) q, low (λ z. absurd (omega arith)))
    low_at j h (no p) =
        let q : length (take ((n + 7) / 8) s) ≤ j / 8 = omega (arith, front_length) in
        omega (arith, get_or-eq_default (take ((n + 7) / 8) s) 0 q, pow_pos (j % 8))

    clear : Clear (drop n (all_bits (take ((n + 7) / 8) s)))
    clear i =
        let t = take ((n + 7) / 8) s in
        let j = n + i in
        let e : n + i ≡ 8 * ((n + i) / 8) + (n + i) % 8 = omega arith in
        get_or-drop n (all_bits t) i false ∙ ap (λ k. get_or (all_bits t) k false) e ∙ bit_at t (j / 8) (j % 8) (omega arith)
        ∙ no_digit (get_or t (j / 8) 0) (j % 8) (low_at j (omega arith) (dec_lt (j / 8) ((n + 7) / 8)))

    low_padded : Bytes s → padded s n ≡ true
    low_padded b =
        let t = take ((n + 7) / 8) s in
        let l : length (take n (all_bits (take ((n + 7) / 8) s))) ≡ n =
        length_of t n (omega (arith, front_length)) in
        let k : length (take ((n + 7) / 8) s) ≡ (length (take n (all_bits (take ((n + 7) / 8) s))) + 7) / 8 =
        front_length ∙ ap (λ m. (m + 7) / 8) (sym l) in
        eq_same (pack_bits (bits_of s n)) t (ap pack_bits front_bits
        ∙ sym (pack_back t (take n (all_bits t)) (drop n (all_bits t)) (bytes_take ((n + 7) / 8) s b) k (sym (take-append-drop n (all_bits t))) clear))

  -- ---- and back
  padded_low : (n % 8 ≡ 0 → ⊥) → padded s n ≡ true → get_or s (n / 8) 0 < 2 ^ (n % 8)
  unfolding pack_bits
  padded_low h p =
      let q = n / 8 in
      let l = bits_of s n in
      let g : n / 8 < (n + 7) / 8 = omega arith in
      let k : length (bits_of s n) ≡ n = length_of s n (omega arith) in
      let e : pack_bytes ((length (bits_of s n) + 7) / 8) (bits_of s n) ≡ take ((n + 7) / 8) s = same_eq (pack_bits l) (take ((n + 7) / 8) s) p in
      let m : n / 8 < (length (bits_of s n) + 7) / 8 = omega arith in
      let d : length (take 8 (drop (8 * (n / 8)) (bits_of s n))) ≡ n % 8 =
      omega (arith, length-take 8 (drop (8 * q) l), length-drop (8 * q) l) in
      omega (
        arith,
        get_or-take ((n + 7) / 8) s q 0 g,
        ap (λ t. get_or t q 0) e,
        byte_packed ((length l + 7) / 8) l q m,
        value_lt (take 8 (drop (8 * q) l)),
        ap (λ i. 2 ^ i) d,
      )

-- ---- both ways

both_ways : (a b : Bool) → (a ≡ true → b ≡ true) → (b ≡ true → a ≡ true) → a ≡ b
both_ways true b f g = sym (f refl)
both_ways false true f g = g refl
both_ways false false f g = refl

-- where all bits of the last byte are used
pub padded_full : (s : List ℕ) (n : ℕ) → Bytes s → (n + 7) / 8 ≤ length s → n % 8 ≡ 0 → padded s n ≡ true
padded_full s n b h e = low_padded s n h (λ z. absurd (z e)) b

-- and where they are not
pub padded_last : (s : List ℕ) (n : ℕ) → Bytes s → (n + 7) / 8 ≤ length s → (n % 8 ≡ 0 → ⊥) → padded s n ≡ eqb (get_or s (n / 8) 0 / 2 ^ (n % 8)) 0
padded_last s n b h z =
    let x = get_or s (n / 8) 0 in
    let p = pow_pos (n % 8) in
    both_ways (padded s n) (eqb (x / 2 ^ (n % 8)) 0)
    (λ e. eq-eqb (x / 2 ^ (n % 8)) 0 (div-eq_of_lt (padded_low s n h z e)))
    (λ e. low_padded s n h (λ y. omega (arith, ap (λ q. q * 2 ^ (n % 8)) (eqb-true (x / 2 ^ (n % 8)) 0 e), lt-div-mul-add {a = x} {b = 2 ^ (n % 8)} p)) b)
