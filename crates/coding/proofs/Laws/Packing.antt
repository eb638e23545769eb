-- Bits and the bytes that hold them: packed and read back they are the same bits, and bytes whose unused bits are 0 are the packed form of their bits.
-- Assumes nothing.
use mathlib.Core.Path.{◌≡◌, refl, sym, ap, ap₂, ◌∙◌}
use mathlib.Core.Bool.{Bool, true, false}
use mathlib.Core.List.{List, [], ◌∷◌, ◌++◌, append_assoc}
use Prim.Native.Nat.{ℕ, zero, suc, ◌+◌, ◌*◌, ◌-◌, ◌/◌, ◌%◌, ◌^◌, ◌≤◌, ◌<◌}
use native.Mathlib.Nat.{pow-suc}
use native.Mathlib.Decide.{dec_lt}
use native.Mathlib.Omega.{arith}
use lib.Dec.{eqb}
use lib.ListN.{length, get_or, take, drop, length-append, length-drop, take-append-drop}
use lib.Seq.{take-append-le, take-append-add, take_all, length-take-le, get_or-drop, take_at, drop_at}
use Rattle.coding.specs.Bits.{bit, value_of, pack_bytes, pack_bits, digits, all_bits}

-- every number is a byte
abbrev pub Bytes : List ℕ → Type 0
Bytes s = (i : ℕ) → i < length s → get_or s i 0 < 256

-- ---- one byte

odd_bit : (b : Bool) (n : ℕ) → eqb ((bit b + 2 * n) % 2) 1 ≡ b
odd_bit true n = let e : (1 + 2 * n) % 2 ≡ 1 = omega arith in rw e refl
odd_bit false n = let e : (0 + 2 * n) % 2 ≡ 0 = omega arith in rw e refl

rest_bit : (b : Bool) (n : ℕ) → (bit b + 2 * n) / 2 ≡ n
rest_bit true n = omega arith
rest_bit false n = omega arith

-- the digits of a list's value are the list, with no digits behind it
digits_value : (k : ℕ) (l : List Bool) → length l ≤ k → take (length l) (digits k (value_of l)) ≡ l
unfolding digits value_of
digits_value k [] h = refl
digits_value zero (b ∷ l) h = absurd (omega arith)
digits_value (suc k) (b ∷ l) h = rw (odd_bit b (value_of l), rest_bit b (value_of l), digits_value k l (omega arith)) refl

pub bit_odd : (n : ℕ) → n < 2 → bit (eqb n 1) ≡ n
bit_odd zero h = refl
bit_odd (suc zero) h = refl
bit_odd (suc (suc n)) h = absurd (omega arith)

value_digits : (k x : ℕ) → x < 2 ^ k → value_of (digits k x) ≡ x
unfolding digits value_of
value_digits zero x h = omega arith
value_digits (suc k) x h = omega (arith, bit_odd (x % 2) (omega arith), value_digits k (x / 2) (omega (arith, pow-suc 2 k)))

pub digits-length : (k x : ℕ) → length (digits k x) ≡ k
unfolding digits
digits-length zero x = refl
digits-length (suc k) x = ap suc (digits-length k (x / 2))

-- no digit is 1
abbrev pub Clear : List Bool → Type 0
Clear l = (i : ℕ) → get_or l i false ≡ false

value_clear : (l : List Bool) → Clear l → value_of l ≡ 0
unfolding value_of
value_clear [] h = refl
value_clear (b ∷ l) h = omega (arith, ap bit (h 0), value_clear l (λ i. h (suc i)))

value_pad : (l pad : List Bool) → Clear pad → value_of (l ++ pad) ≡ value_of l
unfolding value_of
value_pad [] pad h = value_clear pad h
value_pad (b ∷ l) pad h = omega (arith, value_pad l pad h)

-- ---- all bytes

length_bytes : (n : ℕ) (l : List Bool) → length (pack_bytes n l) ≡ n
unfolding pack_bytes
length_bytes zero l = refl
length_bytes (suc n) l = ap suc (length_bytes n (drop 8 l))

pub length-pack_bits : (l : List Bool) → length (pack_bits l) ≡ (length l + 7) / 8
unfolding pack_bits
length-pack_bits l = length_bytes ((length l + 7) / 8) l

pub bits_length : (s : List ℕ) → length (all_bits s) ≡ 8 * length s
unfolding all_bits
bits_length [] = refl
bits_length (x ∷ s) = omega (arith, length-append (digits 8 x) (all_bits s), digits-length 8 x, bits_length s)

pub bits_append : (s t : List ℕ) → all_bits (s ++ t) ≡ all_bits s ++ all_bits t
unfolding all_bits
bits_append [] t = refl
bits_append (x ∷ s) t = rw (bits_append s t) (sym (append_assoc (digits 8 x) (all_bits s) (all_bits t)))

-- ---- packed and read back

-- eight bits, packed into a byte that is read back
byte_back : (l : List Bool) → length l ≡ 8 → digits 8 (value_of l) ≡ l
byte_back l h =
    sym (take_all 8 (digits 8 (value_of l)) (omega (arith, digits-length 8 (value_of l))))
    ∙ ap (λ n. take n (digits 8 (value_of l))) (sym h) ∙ digits_value 8 l (omega arith)

back_step : (l : List Bool) (r : List ℕ) → take (length (drop 8 l)) (all_bits r) ≡ drop 8 l → Dec (length l < 8)
    → take (length l) (digits 8 (value_of (take 8 l)) ++ all_bits r) ≡ l
back_step l r ih (yes h) =
    take-append-le (length l) (digits 8 (value_of (take 8 l))) (all_bits r) (omega (arith, digits-length 8 (value_of (take 8 l))))
    ∙ ap (λ m. take (length l) (digits 8 (value_of m))) (take_all 8 l (omega arith)) ∙ digits_value 8 l (omega arith)
back_step l r ih (no h) =
    let d = digits 8 (value_of (take 8 l)) in
    let e : length l ≡ length (digits 8 (value_of (take 8 l))) + length (drop 8 l) =
    omega (arith, digits-length 8 (value_of (take 8 l)), length-drop 8 l) in
    ap (λ n. take n (d ++ all_bits r)) e ∙ take-append-add d (all_bits r) (length (drop 8 l)) ∙ ap (λ m. d ++ m) ih
    ∙ ap (λ m. m ++ drop 8 l) (byte_back (take 8 l) (length-take-le 8 l (omega arith))) ∙ take-append-drop 8 l

bytes_back : (n : ℕ) (l : List Bool) (t : List ℕ) → length l ≤ 8 * n → take (length l) (all_bits (pack_bytes n l ++ t)) ≡ l
unfolding pack_bytes all_bits
bytes_back zero [] t h = refl
bytes_back zero (b ∷ l) t h = absurd (omega arith)
bytes_back (suc n) l t h =
    back_step l (pack_bytes n (drop 8 l) ++ t) (bytes_back n (drop 8 l) t (omega (arith, length-drop 8 l))) (dec_lt (length l) 8)

-- the bits that bytes start with, whatever stands behind them
pub bits_back : (l : List Bool) (t : List ℕ) → take (length l) (all_bits (pack_bits l ++ t)) ≡ l
unfolding pack_bits
bits_back l t = bytes_back ((length l + 7) / 8) l t (omega arith)

-- ---- read and packed again

take_split : {A : Type 0} (n : ℕ) (a b : List A) → take n (a ++ b) ≡ take n a ++ take (n - length a) b
take_split zero a b = let e : 0 - length a ≡ 0 = omega arith in rw e refl
take_split (suc n) [] b = let e : suc n - 0 ≡ suc n = omega arith in rw e refl
take_split (suc n) (x ∷ a) b = let e : suc n - suc (length a) ≡ n - length a = omega arith in rw (e, take_split n a b) refl

drop_split : {A : Type 0} (n : ℕ) (a b : List A) → drop n (a ++ b) ≡ drop n a ++ drop (n - length a) b
drop_split zero a b = let e : 0 - length a ≡ 0 = omega arith in rw e refl
drop_split (suc n) [] b = let e : suc n - 0 ≡ suc n = omega arith in rw e refl
drop_split (suc n) (x ∷ a) b = let e : suc n - suc (length a) ≡ n - length a = omega arith in rw (e, drop_split n a b) refl

clear_take : (n : ℕ) (l : List Bool) → Clear l → Clear (take n l)
clear_take zero l h i = refl
clear_take (suc n) [] h i = refl
clear_take (suc n) (b ∷ l) h zero = h 0
clear_take (suc n) (b ∷ l) h (suc i) = clear_take n l (λ j. h (suc j)) i

clear_drop : (n : ℕ) (l : List Bool) → Clear l → Clear (drop n l)
clear_drop n l h i = get_or-drop n l i false ∙ h (n + i)

packs : (s : List ℕ) (l pad : List Bool) → Bytes s → all_bits s ≡ l ++ pad → Clear pad → pack_bytes (length s) l ≡ s
unfolding pack_bytes all_bits
packs [] l pad h e c = refl
packs (x ∷ s) l pad h e c =
    let m = 8 - length l in
    let n8 : length (digits 8 x) ≡ 8 = digits-length 8 x in
    let t : digits 8 x ≡ take 8 l ++ take (8 - length l) pad = sym (take_at (digits 8 x) (all_bits s) 8 n8) ∙ ap (take 8) e ∙ take_split 8 l pad in
    let d : all_bits s ≡ drop 8 l ++ drop (8 - length l) pad = sym (drop_at (digits 8 x) (all_bits s) 8 n8) ∙ ap (drop 8) e ∙ drop_split 8 l pad in
    let v : value_of (take 8 l) ≡ x =
    sym (value_pad (take 8 l) (take m pad) (clear_take m pad c)) ∙ sym (ap value_of t) ∙ value_digits 8 x (h 0 (omega arith)) in
    ap₂ (λ (a : ℕ) (b : List ℕ). a ∷ b) v (packs s (drop 8 l) (drop m pad) (λ i g. h (suc i) (omega arith)) d (clear_drop m pad c))

-- bytes whose bits are l, with 0s behind, are the bytes that hold l
pub pack_back : (s : List ℕ) (l pad : List Bool) → Bytes s → length s ≡ (length l + 7) / 8 → all_bits s ≡ l ++ pad → Clear pad → s ≡ pack_bits l
unfolding pack_bits
pack_back s l pad h n e c = sym (packs s l pad h e c) ∙ ap (λ k. pack_bytes k l) n
