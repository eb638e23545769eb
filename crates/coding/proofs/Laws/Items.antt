-- What a part has of a number and of a list, and how many elements. The five parts of a list have what `parts_of` says, and make the packed list's length.
-- Assumes nothing.
use mathlib.Core.Path.{◌≡◌, refl, sym, ◌∙◌, ap}
use mathlib.Core.Bool.{Bool, true, false, cond}
use mathlib.Core.List.{List, [], ◌∷◌, ◌++◌, map, append_assoc, append-nil}
use Prim.Native.Nat.{ℕ, zero, suc, ◌+◌, ◌/◌, ◌%◌, ◌<◌, ◌≤◌}
use native.Mathlib.Numerals.{add-one}
use native.Mathlib.Omega.{arith}
use lib.Dec.{leb}
use lib.ListN.{length, get_or, take, drop, length-append, length-map}
use lib.Seq.{take-suc, drop-cons, drop-length}
use borrow.Author.Tests.{le-leb, lt-leb, leb-true, leb-false}
use Rattle.coding.specs.Bits.{bit}
use Rattle.coding.specs.Lists.{number_limit, parts_of, rests, rest_if, is_long, low_byte}
use Rattle.coding.specs.Sections.{byte_section, bit_section, sections_of, packed}
use Rattle.coding.specs.Calls.{any_from}
use Rattle.coding.specs.Lanes.{element_of, only_if, item_of, items_of, first_part, more_part, second_part, again_part, third_part, mark_part, count_from}
use Rattle.coding.specs.declared.lanes.part.Part.{Part}
use Rattle.coding.proofs.Laws.Sections.{length-byte_section, length-bit_section}

-- ---- one number

pub item_one : (p : Part) (v : ℕ) → p.from ≤ v → item_of p v ≡ element_of p.bits p.by v ∷ []
unfolding item_of
item_one p v h = rw (le-leb p.from v h) refl

pub item_none : (p : Part) (v : ℕ) → v < p.from → item_of p v ≡ []
unfolding item_of
item_none p v h = rw (lt-leb p.from v h) refl

pub item_long : (p : Part) (v : ℕ) → length (item_of p v) ≡ bit (leb p.from v)
unfolding item_of
item_long p v = by_test (leb p.from v)
  where
    by_test : (b : Bool) → length (only_if b (element_of p.bits p.by v ∷ [])) ≡ bit b
    by_test true = refl
    by_test false = refl

-- ---- a list

-- a part is its three numbers: how it is known that its weight is not 0 makes no difference
pub items_same : (p q : Part) → p.bits ≡ q.bits → p.from ≡ q.from → p.by ≡ q.by → (l : List ℕ) → items_of p l ≡ items_of q l
unfolding items_of item_of
items_same p q b f y [] = refl
items_same p q b f y (v ∷ l) = rw (b, f, y, items_same p q b f y l) refl

pub items_append : (p : Part) (a b : List ℕ) → items_of p (a ++ b) ≡ items_of p a ++ items_of p b
unfolding items_of
items_append p [] b = refl
items_append p (v ∷ a) b = rw (items_append p a b) (sym (append_assoc (item_of p v) (items_of p a) (items_of p b)))

pub items_long : (p : Part) (l : List ℕ) → length (items_of p l) ≡ count_from p.from l
unfolding items_of count_from
items_long p [] = refl
items_long p (v ∷ l) = omega (arith, length-append (item_of p v) (items_of p l), item_long p v, items_long p l)

-- one number more
pub items_more : (p : Part) (l : List ℕ) (k : ℕ) → k < length l → items_of p (take (k + 1) l) ≡ items_of p (take k l) ++ item_of p (get_or l k 0)
unfolding items_of
items_more p l k h =
    let v = get_or l k 0 in
    rw (add-one k, take-suc l k 0 h) (items_append p (take k l) (v ∷ []) ∙ ap (λ m. items_of p (take k l) ++ m) (append-nil (item_of p v)))

-- a turn of a loop over the numbers, and its end
module _ (l : List ℕ) (k : ℕ) where
  pub items_turn : (p : Part) → k < length l → items_of p (drop k l) ≡ item_of p (get_or l k 0) ++ items_of p (drop (k + 1) l)
  unfolding items_of
  items_turn p h = rw (add-one k, drop-cons l k 0 h) refl

  pub count_turn : (low : ℕ) → k < length l → count_from low (drop k l) ≡ bit (leb low (get_or l k 0)) + count_from low (drop (k + 1) l)
  unfolding count_from
  count_turn low h = rw (add-one k, drop-cons l k 0 h) refl

  pub count_end : (low : ℕ) → length l ≤ k → k ≤ length l → count_from low (drop k l) ≡ 0
  unfolding count_from
  count_end low h g = let e : k ≡ length l = omega arith in rw (e, drop-length l) refl

-- ---- the counts

bit_most : (b : Bool) → bit b ≤ 1
bit_most true = omega arith
bit_most false = omega arith

pub count_most : (low : ℕ) (l : List ℕ) → count_from low l ≤ length l
unfolding count_from
count_most low [] = omega arith
count_most low (v ∷ l) = omega (arith, bit_most (leb low v), count_most low l)

pub count_all : (l : List ℕ) → count_from 0 l ≡ length l
unfolding count_from
count_all [] = refl
count_all (v ∷ l) = rw (le-leb 0 v (omega arith)) (omega (arith, count_all l))

-- whether a number is at least the limit, by their count
pub count_any : (limit : ℕ) (l : List ℕ) → 0 < count_from limit l → any_from limit l ≡ true
unfolding count_from
count_any limit [] h = absurd (omega arith)
count_any limit (v ∷ l) h = by_test (leb limit v) (count_any limit l) h
  where
    by_test : (b : Bool) → (0 < count_from limit l → any_from limit l ≡ true) → 0 < bit b + count_from limit l → cond b true (any_from limit l) ≡ true
    by_test true r g = refl
    by_test false r g = r (omega arith)

pub count_no : (limit : ℕ) (l : List ℕ) → count_from limit l ≡ 0 → any_from limit l ≡ false
unfolding count_from
count_no limit [] h = refl
count_no limit (v ∷ l) h = by_test (leb limit v) (count_no limit l) h
  where
    by_test : (b : Bool) → (count_from limit l ≡ 0 → any_from limit l ≡ false) → bit b + count_from limit l ≡ 0 → cond b true (any_from limit l) ≡ false
    by_test true r g = absurd (omega arith)
    by_test false r g = r (omega arith)

pub count_below : (limit : ℕ) (l : List ℕ) → count_from limit l ≡ 0 → (i : ℕ) → i < length l → get_or l i 0 < limit
unfolding count_from
count_below limit [] h i g = absurd (omega arith)
count_below limit (v ∷ l) h zero g = by_test (leb limit v) refl h
  where
    by_test : (b : Bool) → leb limit v ≡ b → bit b + count_from limit l ≡ 0 → v < limit
    by_test true e w = absurd (omega arith)
    by_test false e w = leb-false limit v e
count_below limit (v ∷ l) h (suc i) g = count_below limit l (omega arith) i (omega arith)

-- ---- the five parts

first_one : (v : ℕ) → item_of first_part v ≡ low_byte v ∷ []
unfolding item_of
first_one v = let e : v / 1 ≡ v = omega arith in rw (le-leb 0 v (omega arith), e) refl

pub first_is : (l : List ℕ) → items_of first_part l ≡ (parts_of l).first
unfolding items_of parts_of
first_is [] = refl
first_is (v ∷ l) = rw (first_one v, first_is l) refl

more_one : (v : ℕ) → item_of more_part v ≡ bit (is_long v) ∷ []
unfolding item_of
more_one v = rw (le-leb 0 v (omega arith)) refl

pub more_is : (l : List ℕ) → items_of more_part l ≡ map bit (parts_of l).more
unfolding items_of parts_of
more_is [] = refl
more_is (v ∷ l) = rw (more_one v, more_is l) refl

pub second_is : (l : List ℕ) → items_of second_part l ≡ (parts_of l).second
unfolding items_of item_of parts_of
second_is [] = refl
second_is (v ∷ l) = by_test (leb 256 v) (second_is l)
  where
    by_test : (b : Bool) → items_of second_part l ≡ map low_byte (rests l) → only_if b (v / 256 % 256 ∷ []) ++ items_of second_part l ≡ map low_byte (rest_if b v (rests l))
    by_test true r = ap (λ m. v / 256 % 256 ∷ m) r
    by_test false r = r

-- a number has a third byte if what is left of it has a second
again_test : (v : ℕ) → leb 65536 v ≡ leb 256 (v / 256)
again_test v = by_test (leb 256 (v / 256)) refl
  where
    by_test : (b : Bool) → leb 256 (v / 256) ≡ b → leb 65536 v ≡ b
    by_test true e = le-leb 65536 v (omega (arith, leb-true 256 (v / 256) e))
    by_test false e = lt-leb 65536 v (omega (arith, leb-false 256 (v / 256) e))

pub again_is : (l : List ℕ) → items_of again_part l ≡ map bit (parts_of l).again
unfolding items_of item_of parts_of
again_is [] = refl
again_is (v ∷ l) = rw (again_test v) (by_test (leb 256 v) (again_is l))
  where
    by_test : (b : Bool) → items_of again_part l ≡ map bit (map is_long (rests l)) → only_if b (bit (leb 256 (v / 256)) ∷ []) ++ items_of again_part l ≡ map bit (map is_long (rest_if b v (rests l)))
    by_test true r = ap (λ m. bit (leb 256 (v / 256)) ∷ m) r
    by_test false r = r

pub third_is : (l : List ℕ) → ((i : ℕ) → i < length l → get_or l i 0 < number_limit) → items_of third_part l ≡ (parts_of l).third
unfolding items_of item_of parts_of
third_is [] h = refl
third_is (v ∷ l) h = by_test (leb 256 v) (leb 65536 v) refl refl (third_is l (λ i g. h (suc i) (omega arith)))
  where
    by_test : (a b : Bool) → leb 256 v ≡ a → leb 65536 v ≡ b → items_of third_part l ≡ rests (rests l)
        → only_if b (v / 65536 % 256 ∷ []) ++ items_of third_part l ≡ rests (rest_if a v (rests l))
    by_test true true e g r =
        let w : v < 16777216 = h 0 (omega arith) in
        let q : v / 65536 % 256 ≡ v / 256 / 256 = omega arith in
        rw (sym (again_test v) ∙ g, q, r) refl
    by_test true false e g r = rw (sym (again_test v) ∙ g, r) refl
    by_test false true e g r = absurd (omega (arith, leb-false 256 v e, leb-true 65536 v g))
    by_test false false e g r = r

-- split marks, written as 0 and 1, are themselves
pub marks_is : (l : List Bool) → items_of mark_part (map bit l) ≡ map bit l
unfolding items_of item_of
marks_is [] = refl
marks_is (true ∷ l) = ap (λ m. 1 ∷ m) (marks_is l)
marks_is (false ∷ l) = ap (λ m. 0 ∷ m) (marks_is l)

-- ---- how long they are, and the list packed

pub first_long : (l : List ℕ) → length (parts_of l).first ≡ length l
unfolding parts_of
first_long l = length-map l low_byte

pub more_long : (l : List ℕ) → length (parts_of l).more ≡ length l
unfolding parts_of
more_long l = length-map l is_long

rests_long : (l : List ℕ) → length (rests l) ≡ count_from 256 l
unfolding count_from
rests_long [] = refl
rests_long (v ∷ l) = by_test (leb 256 v) (rests_long l)
  where
    by_test : (b : Bool) → length (rests l) ≡ count_from 256 l → length (rest_if b v (rests l)) ≡ bit b + count_from 256 l
    by_test true r = omega arith
    by_test false r = omega arith

pub second_long : (l : List ℕ) → length (parts_of l).second ≡ count_from 256 l
unfolding parts_of
second_long l = length-map (rests l) low_byte ∙ rests_long l

pub again_long : (l : List ℕ) → length (parts_of l).again ≡ count_from 256 l
unfolding parts_of
again_long l = length-map (rests l) is_long ∙ rests_long l

pub third_long : (l : List ℕ) → length (parts_of l).third ≡ count_from 65536 l
unfolding parts_of count_from
third_long [] = refl
third_long (v ∷ l) = by_test (leb 256 v) (leb 65536 v) refl refl (third_long l)
  where
    by_test : (a b : Bool) → leb 256 v ≡ a → leb 65536 v ≡ b → length (rests (rests l)) ≡ count_from 65536 l
        → length (rests (rest_if a v (rests l))) ≡ bit b + count_from 65536 l
    by_test true true e g r = rw (sym (again_test v) ∙ g) (omega arith)
    by_test true false e g r = rw (sym (again_test v) ∙ g) (omega arith)
    by_test false true e g r = absurd (omega (arith, leb-false 256 v e, leb-true 65536 v g))
    by_test false false e g r = omega arith

pub length-packed : (l : List ℕ)
    → length (packed l) ≡ 20 + length l + (length l + 7) / 8 + count_from 256 l + (count_from 256 l + 7) / 8 + count_from 65536 l
unfolding packed sections_of
length-packed l =
    let p = parts_of l in
    let s = byte_section p.first in
    let t = bit_section p.more in
    let u = byte_section p.second in
    let v = bit_section p.again in
    let w = byte_section p.third in
    omega (
      arith,
      length-append s (t ++ (u ++ (v ++ w))),
      length-append t (u ++ (v ++ w)),
      length-append u (v ++ w),
      length-append v w,
      length-byte_section p.first,
      length-bit_section p.more,
      length-byte_section p.second,
      length-bit_section p.again,
      length-byte_section p.third,
      first_long l,
      more_long l,
      second_long l,
      again_long l,
      third_long l,
    )
