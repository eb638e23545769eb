-- A section written: its count, and its elements laid over the front of a body whose last byte was cleared first. A section in a longer buffer, and a list's five.
-- Assumes nothing.
use mathlib.Core.Path.{◌≡◌, refl, sym, ap, ◌∙◌}
use mathlib.Core.Bool.{Bool, true, false}
use mathlib.Core.List.{List, [], ◌∷◌, ◌++◌, map, map-append, append-nil}
use Prim.Native.Nat.{ℕ, zero, suc, ◌+◌, ◌*◌, ◌-◌, ◌/◌, ◌≤◌, ◌<◌}
use native.Mathlib.Decide.{dec_lt}
use native.Mathlib.Omega.{arith}
use lib.ListN.{length, get_or, take, drop, set, length-drop, length-map, length-set, drop_of_length-le, get_or-replicate, get_or-eq_default}
use lib.Seq.{sets, sets-eq, take_all, take_at, drop_at, get_or-drop, get_or-append-add, get_or-set_same}
use borrow.Rule.Slice.PartMut.{put_mid, mid_of}
use Rattle.coding.specs.Bytes.{word}
use Rattle.coding.specs.Bits.{bit, digits, pack_bits, all_bits}
use Rattle.coding.specs.Lists.{number_limit, parts_of}
use Rattle.coding.specs.Sections.{byte_section, bit_section, sections_of, packed}
use Rattle.coding.specs.Lanes.{view_of, size_of, count_from, items_of, first_part, more_part, second_part, again_part, third_part, Written, WrittenAt}
use Rattle.coding.proofs.Laws.Packing.{Bytes, Clear, pack_back}
use Rattle.coding.proofs.Laws.Sections.{length-word, length-byte_section, length-bit_section}
use Rattle.coding.proofs.Laws.Items.{first_is, more_is, second_is, again_is, third_is, first_long, more_long, second_long, again_long}
use Rattle.coding.proofs.Laws.Lay.{part_at, laid_then}

-- the last byte is 0
abbrev pub LastClear : List ℕ → Type 0
LastClear s = (m : ℕ) → suc m ≡ length s → get_or s m 0 ≡ 0

-- ---- the elements of a body

zero_bits : (i : ℕ) → Dec (i < 8) → get_or (digits 8 0 ++ []) i false ≡ false
unfolding digits
zero_bits i (yes h) = get_or-replicate 8 i false false h
zero_bits i (no h) = get_or-eq_default (digits 8 0 ++ []) false {n = i} (omega arith)

-- the bits of a last byte that is 0
last_bits : (s : List ℕ) (i : ℕ) → LastClear s → 8 * length s ≤ i + 8 → get_or (all_bits s) i false ≡ false
unfolding all_bits digits
last_bits [] i h g = refl
last_bits (x ∷ []) i h g = ap (λ y. get_or (digits 8 y ++ []) i false) (h 0 refl) ∙ zero_bits i (dec_lt i 8)
last_bits (x ∷ y ∷ s) i h g =
    let z : i ≡ suc (suc (suc (suc (suc (suc (suc (suc (i - 8)))))))) = omega arith in
    rw z (last_bits (y ∷ s) (i - 8) (λ m e. h (suc m) (ap suc e)) (omega arith))

bit_one : (a b : Bool) → bit a ≡ bit b → a ≡ b
bit_one true true e = refl
bit_one true false e = absurd (omega arith)
bit_one false true e = absurd (omega arith)
bit_one false false e = refl

bits_one : (l m : List Bool) → map bit l ≡ map bit m → l ≡ m
bits_one [] [] e = refl
bits_one [] (b ∷ m) e = absurd (omega (arith, ap length e))
bits_one (a ∷ l) [] e = absurd (omega (arith, ap length e))
bits_one (a ∷ l) (b ∷ m) e =
    let h : a ≡ b = bit_one a b (ap (λ x. get_or x 0 0) e) in
    let t : l ≡ m = bits_one l m (ap (drop 1) e) in
    cc

map-drop : (n : ℕ) (l : List Bool) → map bit (drop n l) ≡ drop n (map bit l)
map-drop zero l = refl
map-drop (suc n) [] = refl
map-drop (suc n) (b ∷ l) = map-drop n l

-- elements over the front of a body; of bits, its last byte was 0
pub written : (b : Bool) (items old new : List ℕ) (n : ℕ) → n ≡ length items → length old ≡ size_of b n → length new ≡ length old → Bytes new
    → (b ≡ true → LastClear old) → view_of b new ≡ items ++ drop n (view_of b old) → Written b items (word n ++ new)
unfolding bit_section byte_section
written true items old new n e k l y z v = λ marks m.
    let w : n ≡ length marks = e ∙ ap length m ∙ length-map marks bit in
    let pad = drop n (all_bits old) in
    let g : all_bits new ≡ marks ++ drop n (all_bits old) =
    bits_one (all_bits new) (marks ++ pad)
    (v ∙ ap (λ x. x ++ drop n (map bit (all_bits old))) m ∙ ap (λ x. map bit marks ++ x) (sym (map-drop n (all_bits old)))
    ∙ sym (map-append bit marks pad)) in
    let c : Clear (drop n (all_bits old)) = λ i. get_or-drop n (all_bits old) i false ∙ last_bits old (n + i) (z refl) (omega arith) in
    ap (λ x. word n ++ x) (pack_back new marks pad y (omega arith) g c) ∙ ap (λ x. word x ++ pack_bits marks) w
written false items old new n e k l y z v =
    ap (λ x. word n ++ x) (v ∙ ap (λ x. items ++ x) (drop_of_length-le old {i = n} (omega arith)) ∙ append-nil items) ∙ ap (λ x. word x ++ items) e

-- ---- a buffer with room for just the section: its last byte is cleared and its count written, and then its body is lent

module _ (o xs : List ℕ) (n : ℕ) (h : 4 ≤ length o) (e : xs ≡ sets (set o (length o - 1) 0) 0 (word n)) where
  begun : xs ≡ word n ++ drop 4 (set o (length o - 1) 0)
  begun =
      let q : 0 + length (word n) ≡ 4 = omega (arith, length-word n) in
      e ∙ sets-eq (word n) (set o (length o - 1) 0) 0 (omega (arith, length-set o (length o - 1) 0))
      ∙ ap (λ x. word n ++ drop x (set o (length o - 1) 0)) q

  behind : drop 4 xs ≡ drop 4 (set o (length o - 1) 0)
  behind = ap (drop 4) begun ∙ drop_at (word n) (drop 4 (set o (length o - 1) 0)) 4 (length-word n)

  body_is : mid_of 4 (length xs - 4) xs ≡ drop 4 (set o (length o - 1) 0)
  body_is = take_all (length xs - 4) (drop 4 xs) (omega (arith, length-drop 4 xs)) ∙ behind

  pub body_long : length (mid_of 4 (length xs - 4) xs) ≡ length o - 4
  body_long = ap length body_is ∙ length-drop 4 (set o (length o - 1) 0) ∙ ap (λ x. x - 4) (length-set o (length o - 1) 0)

  pub body_clear : LastClear (mid_of 4 (length xs - 4) xs)
  body_clear m g =
      let q : 4 + m ≡ length o - 1 = omega (arith, body_long) in
      ap (λ x. get_or x m 0) body_is ∙ get_or-drop 4 (set o (length o - 1) 0) m 0 ∙ ap (λ x. get_or (set o (length o - 1) 0) x 0) q
      ∙ get_or-set_same o (length o - 1) 0 0 (omega arith)

  -- the body comes back
  pub body_back : (ys : List ℕ) → put_mid 4 (length xs - 4) xs ys ≡ word n ++ ys
  body_back ys =
      let a : take 4 xs ≡ word n = ap (take 4) begun ∙ take_at (word n) (drop 4 (set o (length o - 1) 0)) 4 (length-word n) in
      let b : drop (length xs - 4) (drop 4 xs) ≡ [] = drop_of_length-le (drop 4 xs) {i = length xs - 4} (omega (arith, length-drop 4 xs)) in
      rw (a, b, append-nil ys) refl

  pub section_written : (b : Bool) (items ys : List ℕ) → n ≡ length items → length o ≡ 4 + size_of b n
      → length ys ≡ length (mid_of 4 (length xs - 4) xs) → ((i : ℕ) → get_or (put_mid 4 (length xs - 4) xs ys) i 0 < 256)
      → view_of b ys ≡ items ++ drop n (view_of b (mid_of 4 (length xs - 4) xs)) → Written b items (put_mid 4 (length xs - 4) xs ys)
  section_written b items ys g k l y v =
      let r : Bytes ys = λ i q.
      omega (
        arith,
        y (length (word n) + i),
        ap (λ x. get_or x (length (word n) + i) 0) (body_back ys) ∙ get_or-append-add (word n) ys i 0,
      ) in
      rw (body_back ys)
      (written b items (mid_of 4 (length xs - 4) xs) ys n g (omega (arith, body_long)) l r (λ t. body_clear) v)

-- ---- a section in the part of a longer buffer that was lent from a to e

pub written_at : (b : Bool) (items xs r : List ℕ) (a e : ℕ) → Written b items r → a ≤ e → e ≤ length xs → length r ≡ e - a
    → WrittenAt b items xs a (put_mid a (e - a) xs r)
written_at true items xs r a e w h g k = λ marks m. part_at a e xs r h g k ∙ ap (λ x. sets xs a x) (w marks m)
written_at false items xs r a e w h g k = part_at a e xs r h g k ∙ ap (λ x. sets xs a x) w

-- ---- a list's five sections, each where the one before ended

pub five_laid : (l : List ℕ) → ((i : ℕ) → i < length l → get_or l i 0 < number_limit) → (o p q r s t : List ℕ) (at a b c d : ℕ)
    → WrittenAt false (items_of first_part l) o at p → a ≡ at + (4 + length l)
    → WrittenAt true (items_of more_part l) p a q → b ≡ a + (4 + (length l + 7) / 8)
    → WrittenAt false (items_of second_part l) q b r → c ≡ b + (4 + count_from 256 l)
    → WrittenAt true (items_of again_part l) r c s → d ≡ c + (4 + (count_from 256 l + 7) / 8)
    → WrittenAt false (items_of third_part l) s d t → t ≡ sets o at (packed l)
unfolding packed sections_of
five_laid l h o p q r s t at a b c d w1 e1 w2 e2 w3 e3 w4 e4 w5 =
    let m = parts_of l in
    let s1 = byte_section m.first in
    let s2 = bit_section m.more in
    let s3 = byte_section m.second in
    let s4 = bit_section m.again in
    let s5 = byte_section m.third in
    w5 ∙ ap (λ x. sets s d (byte_section x)) (third_is l h)
    ∙ laid_then r s c d s4 s5 (w4 m.again (again_is l)) (omega (arith, length-bit_section m.again, again_long l))
    ∙ laid_then q r b c s3 (s4 ++ s5) (w3 ∙ ap (λ x. sets q b (byte_section x)) (second_is l))
    (omega (arith, length-byte_section m.second, second_long l))
    ∙ laid_then p q a b s2 (s3 ++ (s4 ++ s5)) (w2 m.more (more_is l)) (omega (arith, length-bit_section m.more, more_long l))
    ∙ laid_then o p at a s1 (s2 ++ (s3 ++ (s4 ++ s5))) (w1 ∙ ap (λ x. sets o at (byte_section x)) (first_is l))
    (omega (arith, length-byte_section m.first, first_long l))
