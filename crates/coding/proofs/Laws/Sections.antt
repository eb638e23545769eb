-- Sections and lists at the front of bytes: what is stored comes back, whatever stands behind it, and the tests say just whether bytes start with a stored form.
-- Assumes nothing.
use mathlib.Core.Path.{◌≡◌, refl, sym, ap, ap₂, ◌∙◌, subst}
use mathlib.Core.Bool.{Bool, true}
use mathlib.Core.List.{List, [], ◌∷◌, ◌++◌, append_assoc, append-nil}
use Prim.Native.Nat.{ℕ, ◌+◌, ◌*◌, ◌/◌, ◌%◌, ◌≤◌, ◌<◌}
use native.Mathlib.Omega.{arith}
use lib.Dec.{eqb, leb}
use lib.ListN.{length, take, drop, length-append, length-take, length-drop, take-append-drop}
use lib.Seq.{take_at, drop_at, take-length, length-take-le, get_or-take, get_or-drop}
use borrow.Author.Tests.{eqb-true, eq-eqb, leb-true, le-leb}
use Rattle.coding.specs.Bytes.{word, number}
use Rattle.coding.specs.Bits.{pack_bits, all_bits}
use Rattle.coding.specs.Lists.{list_limit, Parts, parts_of, entries_of}
use Rattle.coding.specs.Sections.{byte_section, bit_section, sections_of, packed, bytes_at, after_bytes, bits_at, after_bits, parts_at, list_at, same, starts, starts_bytes, starts_bits, starts_list, is_bit_section, is_list}
use Rattle.coding.specs.Places.{bits_of, agree, Five, after_five}
use Rattle.coding.proofs.Laws.Packing.{Bytes, length-pack_bits, bits_length, bits_back}
use Rattle.coding.proofs.Laws.Lists.{no_bit, and_left, and_right, and_both, entries_parts, agree_is, is_agree, parts_entries, parts_agree}

-- ---- four bytes and a number

pub length-word : (v : ℕ) → length (word v) ≡ 4
unfolding word
length-word v = refl

pub number_word : (v : ℕ) (t : List ℕ) → number (word v ++ t) ≡ v
unfolding number word
number_word v t = omega arith

low_digit : (t m : ℕ) → t < 256 → (t + 256 * m) % 256 ≡ t
low_digit t m h = omega arith

rest_256 : (t m : ℕ) → t < 256 → (t + 256 * m) / 256 ≡ m
rest_256 t m h = omega arith

rest_65536 : (t m : ℕ) → t < 65536 → (t + 65536 * m) / 65536 ≡ m
rest_65536 t m h = omega arith

rest_16777216 : (t m : ℕ) → t < 16777216 → (t + 16777216 * m) / 16777216 ≡ m
rest_16777216 t m h = omega arith

pub word_number : (s : List ℕ) → Bytes s → 4 ≤ length s → word (number s) ≡ take 4 s
unfolding number word
word_number [] b h = absurd (omega arith)
word_number (x ∷ []) b h = absurd (omega arith)
word_number (x ∷ y ∷ []) b h = absurd (omega arith)
word_number (x ∷ y ∷ z ∷ []) b h = absurd (omega arith)
word_number (x ∷ y ∷ z ∷ w ∷ s) b h =
    let v = x + 256 * y + 65536 * z + 16777216 * w in
    let p : x < 256 = b 0 (omega arith) in
    let q : y < 256 = b 1 (omega arith) in
    let r : z < 256 = b 2 (omega arith) in
    let f1 : x + 256 * y + 65536 * z + 16777216 * w ≡ x + 256 * (y + 256 * (z + 256 * w)) = omega arith in
    let f2 : x + 256 * y + 65536 * z + 16777216 * w ≡ (x + 256 * y) + 65536 * (z + 256 * w) = omega arith in
    let f3 : x + 256 * y + 65536 * z + 16777216 * w ≡ (x + 256 * y + 65536 * z) + 16777216 * w = omega arith in
    let e1 : (x + 256 * y + 65536 * z + 16777216 * w) % 256 ≡ x = ap (λ n. n % 256) f1 ∙ low_digit x (y + 256 * (z + 256 * w)) p in
    let e2 : (x + 256 * y + 65536 * z + 16777216 * w) / 256 % 256 ≡ y =
    ap (λ n. n / 256 % 256) f1 ∙ ap (λ n. n % 256) (rest_256 x (y + 256 * (z + 256 * w)) p) ∙ low_digit y (z + 256 * w) q in
    let e3 : (x + 256 * y + 65536 * z + 16777216 * w) / 65536 % 256 ≡ z =
    ap (λ n. n / 65536 % 256) f2 ∙ ap (λ n. n % 256) (rest_65536 (x + 256 * y) (z + 256 * w) (omega arith)) ∙ low_digit z w r in
    let e4 : (x + 256 * y + 65536 * z + 16777216 * w) / 16777216 ≡ w =
    ap (λ n. n / 16777216) f3 ∙ rest_16777216 (x + 256 * y + 65536 * z) w (omega arith) in
    rw (e1, e2, e3, e4) refl

-- ---- the tests

pub same_eq : (s t : List ℕ) → same s t ≡ true → s ≡ t
unfolding same
same_eq [] [] e = refl
same_eq [] (y ∷ t) e = no_bit (sym e)
same_eq (x ∷ s) [] e = no_bit (sym e)
same_eq (x ∷ s) (y ∷ t) e =
    ap₂ (λ (a : ℕ) (l : List ℕ). a ∷ l) (eqb-true x y (and_left (eqb x y) (same s t) e)) (same_eq s t (and_right (eqb x y) (same s t) e))

same_refl : (s : List ℕ) → same s s ≡ true
unfolding same
same_refl [] = refl
same_refl (x ∷ s) = and_both (eqb x x) (same s s) (eq-eqb x x refl) (same_refl s)

pub eq_same : (s t : List ℕ) → s ≡ t → same s t ≡ true
eq_same s t e = subst (λ (x : List ℕ). same s x ≡ true) e (same_refl s)

pub starts_is : (s t : List ℕ) → starts s t ≡ true → s ≡ t ++ drop (length t) s
unfolding starts
starts_is s t e = sym (take-append-drop (length t) s) ∙ ap (λ x. x ++ drop (length t) s) (sym (same_eq t (take (length t) s) e))

pub is_starts : (s t r : List ℕ) → s ≡ t ++ r → starts s t ≡ true
unfolding starts
is_starts s t r e = eq_same t (take (length t) s) (sym (ap (take (length t)) e ∙ take_at t r (length t) refl))

-- ---- a section of bytes

pub length-byte_section : (s : List ℕ) → length (byte_section s) ≡ 4 + length s
unfolding byte_section
length-byte_section s = length-append (word (length s)) s ∙ ap (λ n. n + length s) (length-word (length s))

bytes_number : (s t : List ℕ) → number (byte_section s ++ t) ≡ length s
unfolding byte_section
bytes_number s t = ap number (append_assoc (word (length s)) s t) ∙ number_word (length s) (s ++ t)

bytes_body : (s t : List ℕ) → drop 4 (byte_section s ++ t) ≡ s ++ t
unfolding byte_section
bytes_body s t = ap (drop 4) (append_assoc (word (length s)) s t) ∙ drop_at (word (length s)) (s ++ t) 4 (length-word (length s))

pub bytes_front : (s t : List ℕ) → bytes_at (byte_section s ++ t) ≡ s
unfolding bytes_at
bytes_front s t =
    ap (λ n. take n (drop 4 (byte_section s ++ t))) (bytes_number s t)
    ∙ ap (take (length s)) (bytes_body s t)
    ∙ take_at s t (length s) refl

pub bytes_after : (s t : List ℕ) → after_bytes (byte_section s ++ t) ≡ t
unfolding after_bytes
bytes_after s t =
    ap (λ n. drop (4 + n) (byte_section s ++ t)) (bytes_number s t) ∙ drop_at (byte_section s) t (4 + length s) (length-byte_section s)

-- bytes that start with a section of bytes
pub record WholeBytes (s : List ℕ) : Type 0 where
  pub head : 4 ≤ length s
  pub body : 4 + number s ≤ length s
  pub size : length (byte_section (bytes_at s)) ≡ 4 + number s
  pub is : s ≡ byte_section (bytes_at s) ++ after_bytes s

pub starts_bytes_lem : (s : List ℕ) → starts_bytes s ≡ true → WholeBytes s
unfolding starts_bytes
starts_bytes_lem s e =
    let b = bytes_at s in
    let r = drop (length (byte_section b)) s in
    let q : s ≡ byte_section (bytes_at s) ++ drop (length (byte_section (bytes_at s))) s = starts_is s (byte_section b) e in
    let n : number s ≡ length (bytes_at s) = ap number q ∙ bytes_number b r in
    let l : length s ≡ length (byte_section (bytes_at s)) + length (drop (length (byte_section (bytes_at s))) s) = ap length q ∙ length-append (byte_section b) r in
    record {
      head = omega (arith, length-byte_section b);
      body = omega (arith, length-byte_section b);
      size = omega (arith, length-byte_section b);
      is = q ∙ ap (λ x. byte_section b ++ x) (sym (ap after_bytes q ∙ bytes_after b r));
    }

pub whole_bytes : (s : List ℕ) → Bytes s → 4 ≤ length s → 4 + number s ≤ length s → starts_bytes s ≡ true
unfolding starts_bytes byte_section bytes_at
whole_bytes s b h g =
    let n : length (take (number s) (drop 4 s)) ≡ number s = length-take-le (number s) (drop 4 s) (omega (arith, length-drop 4 s)) in
    is_starts s (word (length (take (number s) (drop 4 s))) ++ take (number s) (drop 4 s)) (drop (number s) (drop 4 s))
    (rw (n, word_number s b h, append_assoc, take-append-drop (number s) (drop 4 s)) (sym (take-append-drop 4 s)))

-- ---- a section of bits

pub length-bit_section : (l : List Bool) → length (bit_section l) ≡ 4 + (length l + 7) / 8
unfolding bit_section
length-bit_section l =
    length-append (word (length l)) (pack_bits l) ∙ ap₂ (λ (a b : ℕ). a + b) (length-word (length l)) (length-pack_bits l)

bits_number : (l : List Bool) (t : List ℕ) → number (bit_section l ++ t) ≡ length l
unfolding bit_section
bits_number l t = ap number (append_assoc (word (length l)) (pack_bits l) t) ∙ number_word (length l) (pack_bits l ++ t)

bits_body : (l : List Bool) (t : List ℕ) → drop 4 (bit_section l ++ t) ≡ pack_bits l ++ t
unfolding bit_section
bits_body l t = ap (drop 4) (append_assoc (word (length l)) (pack_bits l) t) ∙ drop_at (word (length l)) (pack_bits l ++ t) 4 (length-word (length l))

pub bits_front : (l : List Bool) (t : List ℕ) → bits_at (bit_section l ++ t) ≡ l
unfolding bits_at
bits_front l t =
    ap₂ (λ (n : ℕ) (s : List ℕ). take n (all_bits s)) (bits_number l t) (bits_body l t) ∙ bits_back l t

pub bits_after : (l : List Bool) (t : List ℕ) → after_bits (bit_section l ++ t) ≡ t
unfolding after_bits
bits_after l t =
    ap (λ n. drop (4 + (n + 7) / 8) (bit_section l ++ t)) (bits_number l t) ∙ drop_at (bit_section l) t (4 + (length l + 7) / 8) (length-bit_section l)

-- whether the unused bits behind n bits are 0
abbrev pub padded : List ℕ → ℕ → Bool
padded s n = same (pack_bits (bits_of s n)) (take ((n + 7) / 8) s)

is_padded : (s : List ℕ) → take ((number s + 7) / 8) (drop 4 s) ≡ pack_bits (bits_at s) → padded (drop 4 s) (number s) ≡ true
unfolding bits_at
is_padded s e = eq_same (pack_bits (bits_of (drop 4 s) (number s))) (take ((number s + 7) / 8) (drop 4 s)) (sym e)

pub record WholeBits (s : List ℕ) : Type 0 where
  pub head : 4 ≤ length s
  pub body : 4 + (number s + 7) / 8 ≤ length s
  pub size : length (bit_section (bits_at s)) ≡ 4 + (number s + 7) / 8
  pub clear : padded (drop 4 s) (number s) ≡ true
  pub is : s ≡ bit_section (bits_at s) ++ after_bits s

pub starts_bits_lem : (s : List ℕ) → starts_bits s ≡ true → WholeBits s
unfolding starts_bits
starts_bits_lem s e =
    let b = bits_at s in
    let r = drop (length (bit_section b)) s in
    let q : s ≡ bit_section (bits_at s) ++ drop (length (bit_section (bits_at s))) s = starts_is s (bit_section b) e in
    let n : number s ≡ length (bits_at s) = ap number q ∙ bits_number b r in
    let m : (number s + 7) / 8 ≡ (length (bits_at s) + 7) / 8 = ap (λ k. (k + 7) / 8) n in
    let l : length s ≡ length (bit_section (bits_at s)) + length (drop (length (bit_section (bits_at s))) s) = ap length q ∙ length-append (bit_section b) r in
    let d : drop 4 s ≡ pack_bits (bits_at s) ++ drop (length (bit_section (bits_at s))) s = ap (drop 4) q ∙ bits_body b r in
    record {
      head = omega (arith, length-bit_section b);
      body = omega (arith, length-bit_section b);
      size = omega (arith, length-bit_section b);
      clear = is_padded s (ap (take ((number s + 7) / 8)) d ∙ take_at (pack_bits b) r ((number s + 7) / 8) (length-pack_bits b ∙ sym m));
      is = q ∙ ap (λ x. bit_section b ++ x) (sym (ap after_bits q ∙ bits_after b r));
    }

pub whole_bits : (s : List ℕ) → Bytes s → 4 ≤ length s → 4 + (number s + 7) / 8 ≤ length s → padded (drop 4 s) (number s) ≡ true → starts_bits s ≡ true
unfolding starts_bits bit_section bits_at
whole_bits s b h g c =
    let q = (number s + 7) / 8 in
    let n : length (take (number s) (all_bits (drop 4 s))) ≡ number s =
    length-take-le (number s) (all_bits (drop 4 s)) (omega (arith, bits_length (drop 4 s), length-drop 4 s)) in
    is_starts s (word (length (take (number s) (all_bits (drop 4 s)))) ++ pack_bits (take (number s) (all_bits (drop 4 s)))) (drop q (drop 4 s))
    (rw (n, word_number s b h, same_eq (pack_bits (bits_of (drop 4 s) (number s))) (take ((number s + 7) / 8) (drop 4 s)) c, append_assoc, take-append-drop ((number s + 7) / 8) (drop 4 s)) (sym (take-append-drop 4 s)))

-- ---- five sections

-- the five sections of some parts, with whatever behind them
pub record Stand (p : Parts) (t s : List ℕ) : Type 0 where
  pub first : s ≡ byte_section p.first ++ after_bytes s
  pub more : after_bytes s ≡ bit_section p.more ++ after_bits (after_bytes s)
  pub second : after_bits (after_bytes s) ≡ byte_section p.second ++ after_bytes (after_bits (after_bytes s))
  pub again : after_bytes (after_bits (after_bytes s)) ≡ bit_section p.again ++ after_bits (after_bytes (after_bits (after_bytes s)))
  pub third : after_bits (after_bytes (after_bits (after_bytes s))) ≡ byte_section p.third ++ t

regroup : (a b c d e t : List ℕ) → (a ++ (b ++ (c ++ (d ++ e)))) ++ t ≡ a ++ (b ++ (c ++ (d ++ (e ++ t))))
regroup a b c d e t = simp append_assoc

pub length_sections : (p : Parts) → length (sections_of p)
    ≡ length (byte_section p.first)
    + (length (bit_section p.more) + (length (byte_section p.second) + (length (bit_section p.again) + length (byte_section p.third))))
unfolding sections_of
length_sections p = simp length-append

pub stand : (p : Parts) (t s : List ℕ) → s ≡ sections_of p ++ t → Stand p t s
unfolding sections_of
stand p t s e =
    let a = byte_section p.first in
    let b = bit_section p.more in
    let c = byte_section p.second in
    let d = bit_section p.again in
    let f = byte_section p.third in
    let q = e ∙ regroup a b c d f t in
    let q1 : after_bytes s ≡ b ++ (c ++ (d ++ (f ++ t))) = ap after_bytes q ∙ bytes_after p.first (b ++ (c ++ (d ++ (f ++ t)))) in
    let q2 : after_bits (after_bytes s) ≡ c ++ (d ++ (f ++ t)) = ap after_bits q1 ∙ bits_after p.more (c ++ (d ++ (f ++ t))) in
    let q3 : after_bytes (after_bits (after_bytes s)) ≡ d ++ (f ++ t) = ap after_bytes q2 ∙ bytes_after p.second (d ++ (f ++ t)) in
    let q4 : after_bits (after_bytes (after_bits (after_bytes s))) ≡ f ++ t = ap after_bits q3 ∙ bits_after p.again (f ++ t) in
    record {
      first = q ∙ ap (λ x. a ++ x) (sym q1);
      more = q1 ∙ ap (λ x. b ++ x) (sym q2);
      second = q2 ∙ ap (λ x. c ++ x) (sym q3);
      again = q3 ∙ ap (λ x. d ++ x) (sym q4);
      third = q4;
    }

-- what they say
pub stand_parts : (p : Parts) (t s : List ℕ) → Stand p t s → parts_at s ≡ p
unfolding parts_at
stand_parts p t s h = λ i. record {
  first = (ap bytes_at h.first ∙ bytes_front p.first (after_bytes s)) i;
  more = (ap bits_at h.more ∙ bits_front p.more (after_bits (after_bytes s))) i;
  second = (ap bytes_at h.second ∙ bytes_front p.second (after_bytes (after_bits (after_bytes s)))) i;
  again = (ap bits_at h.again ∙ bits_front p.again (after_bits (after_bytes (after_bits (after_bytes s))))) i;
  third = (ap bytes_at h.third ∙ bytes_front p.third t) i;
}

byte_test : (b t s : List ℕ) → s ≡ byte_section b ++ t → starts_bytes s ≡ true
unfolding starts_bytes
byte_test b t s e = is_starts s (byte_section (bytes_at s)) t (e ∙ ap (λ x. byte_section x ++ t) (sym (ap bytes_at e ∙ bytes_front b t)))

bit_test : (b : List Bool) (t s : List ℕ) → s ≡ bit_section b ++ t → starts_bits s ≡ true
unfolding starts_bits
bit_test b t s e = is_starts s (bit_section (bits_at s)) t (e ∙ ap (λ x. bit_section x ++ t) (sym (ap bits_at e ∙ bits_front b t)))

pub stand_five : (p : Parts) (t s : List ℕ) → Stand p t s → Five s
stand_five p t s h = record {
  first = byte_test p.first (after_bytes s) s h.first;
  more = bit_test p.more (after_bits (after_bytes s)) (after_bytes s) h.more;
  second = byte_test p.second (after_bytes (after_bits (after_bytes s))) (after_bits (after_bytes s)) h.second;
  again = bit_test p.again (after_bits (after_bytes (after_bits (after_bytes s)))) (after_bytes (after_bits (after_bytes s))) h.again;
  third = byte_test p.third t (after_bits (after_bytes (after_bits (after_bytes s)))) h.third;
}

-- bytes that start with five sections start with those of the parts that they say
pub five_sections : (s : List ℕ) → Five s → s ≡ sections_of (parts_at s) ++ after_bytes (after_bits (after_bytes (after_bits (after_bytes s))))
unfolding sections_of parts_at
five_sections s h =
    let s1 = after_bytes s in
    let s2 = after_bits s1 in
    let s3 = after_bytes s2 in
    let s4 = after_bits s3 in
    let s5 = after_bytes s4 in
    let a = byte_section (bytes_at s) in
    let b = bit_section (bits_at s1) in
    let c = byte_section (bytes_at s2) in
    let d = bit_section (bits_at s3) in
    let f = byte_section (bytes_at s4) in
    (starts_bytes_lem s h.first).is
    ∙ ap (λ x. a ++ x)
    ((starts_bits_lem s1 h.more).is
    ∙ ap (λ x. b ++ x)
    ((starts_bytes_lem s2 h.second).is
    ∙ ap (λ x. c ++ x) ((starts_bits_lem s3 h.again).is ∙ ap (λ x. d ++ x) (starts_bytes_lem s4 h.third).is)))
    ∙ sym (regroup a b c d f s5)

-- ---- a list

pub list_front : (l t : List ℕ) → list_at (packed l ++ t) ≡ l
unfolding list_at packed
list_front l t = ap entries_of (stand_parts (parts_of l) t (sections_of (parts_of l) ++ t) (stand (parts_of l) t (sections_of (parts_of l) ++ t) refl)) ∙ entries_parts l

pub list_after : (l t : List ℕ) → after_bytes (after_bits (after_bytes (after_bits (after_bytes (packed l ++ t))))) ≡ t
unfolding packed
list_after l t =
    ap after_bytes (stand (parts_of l) t (sections_of (parts_of l) ++ t) refl).third ∙ bytes_after (parts_of l).third t

-- a packed list is that of one list only
pub packed_one : (l m : List ℕ) → packed l ≡ packed m → l ≡ m
packed_one l m e = sym (list_front l []) ∙ ap (λ s. list_at (s ++ [])) e ∙ list_front m []

-- bytes that start with a packed list: five sections, which agree
pub record WholeList (s : List ℕ) : Type 0 where
  pub five : Five s
  pub agrees : agree (parts_at s) ≡ true
  pub parts : parts_at s ≡ parts_of (list_at s)
  pub is : s ≡ packed (list_at s) ++ drop (length (packed (list_at s))) s

pub starts_list_lem : (s : List ℕ) → starts_list s ≡ true → WholeList s
unfolding starts_list packed
starts_list_lem s e =
    let l = list_at s in
    let t = drop (length (sections_of (parts_of l))) s in
    let q : s ≡ sections_of (parts_of (list_at s)) ++ drop (length (sections_of (parts_of (list_at s)))) s = starts_is s (sections_of (parts_of l)) e in
    let h = stand (parts_of l) t s q in
    let p : parts_at s ≡ parts_of (list_at s) = stand_parts (parts_of l) t s h in
    record {
      five = stand_five (parts_of l) t s h;
      agrees = rw p (is_agree (parts_of l) (parts_agree l));
      parts = p;
      is = q;
    }

pub bytes_take : (n : ℕ) (s : List ℕ) → Bytes s → Bytes (take n s)
bytes_take n s b i h =
    let g : i < length s = omega (arith, length-take n s) in
    let k : i < n = omega (arith, length-take n s) in
    rw get_or-take (b i g)

pub bytes_drop : (n : ℕ) (s : List ℕ) → Bytes s → Bytes (drop n s)
bytes_drop n s b i h = rw get_or-drop (b (n + i) (omega (arith, length-drop n s)))

bytes_at_lem : (s : List ℕ) → Bytes s → Bytes (bytes_at s)
unfolding bytes_at
bytes_at_lem s b = bytes_take (number s) (drop 4 s) (bytes_drop 4 s b)

bytes_next : (s : List ℕ) → Bytes s → Bytes (after_bytes s)
unfolding after_bytes
bytes_next s b = bytes_drop (4 + number s) s b

bytes_beyond : (s : List ℕ) → Bytes s → Bytes (after_bits s)
unfolding after_bits
bytes_beyond s b = bytes_drop (4 + (number s + 7) / 8) s b

parts_bytes : (s : List ℕ) → Bytes s → Bytes (parts_at s).first × Bytes (parts_at s).second
unfolding parts_at
parts_bytes s b = (bytes_at_lem s b, bytes_at_lem (after_bits (after_bytes s)) (bytes_beyond (after_bytes s) (bytes_next s b)))

-- five sections of bytes that agree are those of the list that they say
pub five_list : (s : List ℕ) → Bytes s → Five s → agree (parts_at s) ≡ true → packed (list_at s) ≡ sections_of (parts_at s)
unfolding packed list_at
five_list s b h a =
    let p = parts_bytes s b in
    ap sections_of (parts_entries (parts_at s) p.0 p.1 (agree_is (parts_at s) a))

pub whole_list : (s : List ℕ) → Bytes s → Five s → agree (parts_at s) ≡ true → starts_list s ≡ true
unfolding starts_list
whole_list s b h a =
    is_starts s (packed (list_at s)) (after_bytes (after_bits (after_bytes (after_bits (after_bytes s)))))
    (five_sections s h ∙ ap (λ x. x ++ after_bytes (after_bits (after_bytes (after_bits (after_bytes s))))) (sym (five_list s b h a)))

-- ---- nothing behind

-- what starts bytes and is as long as they are is they
pub starts-whole : (s t : List ℕ) → starts s t ≡ true → length t ≡ length s → same t s ≡ true
unfolding starts
starts-whole s t e n = rw (ap (λ k. take k s) n ∙ take-length s) at e

pub whole-starts : (s t : List ℕ) → same t s ≡ true → starts s t ≡ true
whole-starts s t e = is_starts s t [] (sym (append-nil t ∙ same_eq t s e))

-- a packed list is accepted exactly if it is one, of a list that is short enough
pub is_list_lem : (s : List ℕ) → is_list s ≡ true → (s ≡ packed (list_at s)) × (length (list_at s) ≤ list_limit)
unfolding is_list
is_list_lem s e =
    let a = same (packed (list_at s)) s in
    let b = leb (length (list_at s)) list_limit in
    (sym (same_eq (packed (list_at s)) s (and_left a b e)), leb-true (length (list_at s)) list_limit (and_right a b e))

pub list_is : (l : List ℕ) → length l ≤ list_limit → is_list (packed l) ≡ true
unfolding is_list
list_is l h =
    let e : list_at (packed l) ≡ l = ap list_at (sym (append-nil (packed l))) ∙ list_front l [] in
    rw (e, eq_same (packed l) (packed l) refl, le-leb (length l) list_limit h) refl

-- a section of bits is accepted exactly if it is one
pub is_bits : (s : List ℕ) → is_bit_section s ≡ true → s ≡ bit_section (bits_at s)
unfolding is_bit_section
is_bits s e = sym (same_eq (bit_section (bits_at s)) s e)

pub bits_is : (l : List Bool) → is_bit_section (bit_section l) ≡ true
unfolding is_bit_section
bits_is l =
    let e : bits_at (bit_section l) ≡ l = ap bits_at (sym (append-nil (bit_section l))) ∙ bits_front l [] in
    rw e (eq_same (bit_section l) (bit_section l) refl)

pub bits_one : (l m : List Bool) → bit_section l ≡ bit_section m → l ≡ m
bits_one l m e = sym (bits_front l []) ∙ ap (λ s. bits_at (s ++ [])) e ∙ bits_front m []

-- ---- sections read one behind the other

abbrev BytesRead : List ℕ → List ℕ → List ℕ → Type 0
BytesRead s x t = (starts_bytes s ≡ true) × (x ≡ bytes_at s) × (t ≡ after_bytes s)

abbrev BitsRead : List ℕ → List Bool → List ℕ → Type 0
BitsRead s x t = (starts_bits s ≡ true) × (x ≡ bits_at s) × (t ≡ after_bits s)

pub five_read : {s a b d e t f g h : List ℕ} {m n : List Bool}
    → BytesRead s f a → BitsRead a m b → BytesRead b g d → BitsRead d n e → BytesRead e h t
    → Five s × (record { first = f; more = m; second = g; again = n; third = h } ≡ parts_at s) × (t ≡ after_five s)
unfolding parts_at
five_read {s} p q u v w =
    let a = p.2 in
    let b = q.2 ∙ ap after_bits a in
    let d = u.2 ∙ ap after_bytes b in
    let e = v.2 ∙ ap after_bits d in
    let m = q.1 ∙ ap bits_at a in
    let g = u.1 ∙ ap bytes_at b in
    let n = v.1 ∙ ap bits_at d in
    let h = w.1 ∙ ap bytes_at e in (
      record {
        first = p.0;
        more = ap starts_bits (sym a) ∙ q.0;
        second = ap starts_bytes (sym b) ∙ u.0;
        again = ap starts_bits (sym d) ∙ v.0;
        third = ap starts_bytes (sym e) ∙ w.0;
      },
      λ i. record { first = p.1 i; more = m i; second = g i; again = n i; third = h i },
      w.2 ∙ ap after_bytes e,
    )

-- what is behind a list's sections is behind the list
pub behind_list : (s : List ℕ) → starts_list s ≡ true → after_five s ≡ drop (length (packed (list_at s))) s
behind_list s e = ap after_five (starts_list_lem s e).is ∙ list_after (list_at s) (drop (length (packed (list_at s))) s)
