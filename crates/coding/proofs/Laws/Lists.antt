-- Difference lists and their five parts: joined again they are the list, an entry is found by counting ones, and parts that agree are those of the list that they say.
-- Assumes nothing.
use mathlib.Core.Path.{◌≡◌, refl, sym, ap, ◌∙◌}
use mathlib.Core.Bool.{Bool, true, false, ◌&&◌, ◌||◌, not, cond}
use mathlib.Core.List.{List, [], ◌∷◌, map}
use Prim.Native.Nat.{ℕ, zero, suc, ◌+◌, ◌*◌, ◌/◌, ◌%◌, ◌≤◌, ◌<◌}
use native.Mathlib.Omega.{arith}
use lib.Dec.{eqb}
use lib.ListN.{length, get_or, length-map}
use borrow.Author.Tests.{le-leb, lt-leb, leb-true, leb-false, eqb-true, eq-eqb, ne_eqb}
use Rattle.coding.specs.Bits.{bit, ones, ones_before}
use Rattle.coding.specs.Lists.{low_byte, is_long, rest_if, rests, Parts, parts_of, joined, entries_of, entry_of}
use Rattle.coding.specs.Places.{none_zero, none_idle, agree}
use Rattle.coding.proofs.Laws.Packing.{Bytes}

-- ---- tests

pub no_bit : {A : Type 0} → true ≡ false → A
no_bit e = absurd (omega (arith, ap bit e))

pub not_true : (b : Bool) → (b ≡ true → ⊥) → b ≡ false
not_true true h = absurd (h refl)
not_true false h = refl

-- one test more, behind tests that held or did not
pub held : {p v : Bool} (q : Bool) → p ≡ true → v ≡ q → v ≡ (p && q)
held q e h = rw e h

pub failed : {p v : Bool} (q : Bool) → p ≡ false → v ≡ p → v ≡ (p && q)
failed q e h = rw e (h ∙ e)

-- six tests, grouped the other way
pub in_order : (a b c d e f : Bool) → ((((a && b) && c) && d) && e) && f ≡ a && (b && (c && (d && (e && f))))
in_order true true true true e f = refl
in_order true true true false e f = refl
in_order true true false d e f = refl
in_order true false c d e f = refl
in_order false b c d e f = refl

pub and_left : (a b : Bool) → (a && b) ≡ true → a ≡ true
and_left true b e = refl
and_left false b e = no_bit (sym e)

pub and_right : (a b : Bool) → (a && b) ≡ true → b ≡ true
and_right true b e = e
and_right false b e = no_bit (sym e)

pub and_both : (a b : Bool) → a ≡ true → b ≡ true → (a && b) ≡ true
and_both a b p q = rw (p, q) refl

not_zero : (x : ℕ) → not (eqb x 0) ≡ true → 0 < x
not_zero zero e = no_bit (sym e)
not_zero (suc x) e = omega arith

is_not_zero : (x : ℕ) → 0 < x → not (eqb x 0) ≡ true
is_not_zero x h = rw (ne_eqb x 0 (omega arith)) refl

-- ---- from a list to its parts and back

joined_step : (v : ℕ) (l : List ℕ) (b : Bool) → is_long v ≡ b → joined (map low_byte l) (map is_long l) (rests l) ≡ l
    → joined (low_byte v ∷ map low_byte l) (b ∷ map is_long l) (rest_if b v (rests l)) ≡ v ∷ l
joined_step v l true e ih = let n : v % 256 + 256 * (v / 256) ≡ v = omega arith in rw (n, ih) refl
joined_step v l false e ih = let n : v % 256 ≡ v = omega (arith, leb-false 256 v e) in rw (n, ih) refl

pub joined_parts : (l : List ℕ) → joined (map low_byte l) (map is_long l) (rests l) ≡ l
joined_parts [] = refl
joined_parts (v ∷ l) = joined_step v l (is_long v) refl (joined_parts l)

-- THE LAW of the code: what is packed comes back
pub entries_parts : (l : List ℕ) → entries_of (parts_of l) ≡ l
unfolding entries_of parts_of
entries_parts l = ap (joined (map low_byte l) (map is_long l)) (joined_parts (rests l)) ∙ joined_parts l

-- ---- one entry

pub length-joined : (low : List ℕ) (marks : List Bool) (rest : List ℕ) → length (joined low marks rest) ≡ length low
length-joined [] marks rest = refl
length-joined (x ∷ low) [] rest = ap suc (length-joined low [] rest)
length-joined (x ∷ low) (false ∷ marks) rest = ap suc (length-joined low marks rest)
length-joined (x ∷ low) (true ∷ marks) [] = ap suc (length-joined low marks [])
length-joined (x ∷ low) (true ∷ marks) (r ∷ rest) = ap suc (length-joined low marks rest)

pub joined_at : (low : List ℕ) (marks : List Bool) (rest : List ℕ) (i : ℕ) → length marks ≤ length low
    → get_or (joined low marks rest) i 0 ≡ get_or low i 0 + cond (get_or marks i false) (256 * get_or rest (ones_before marks i) 0) 0
joined_at [] [] rest i h = omega arith
joined_at [] (b ∷ marks) rest i h = absurd (omega arith)
joined_at (x ∷ low) [] rest zero h = omega arith
joined_at (x ∷ low) [] rest (suc i) h = joined_at low [] rest i (omega arith)
joined_at (x ∷ low) (false ∷ marks) rest zero h = omega arith
joined_at (x ∷ low) (false ∷ marks) rest (suc i) h =
    let n : 0 + ones_before marks i ≡ ones_before marks i = omega arith in rw n (joined_at low marks rest i (omega arith))
joined_at (x ∷ low) (true ∷ marks) [] zero h = omega arith
joined_at (x ∷ low) (true ∷ marks) [] (suc i) h = joined_at low marks [] i (omega arith)
joined_at (x ∷ low) (true ∷ marks) (r ∷ rest) zero h = refl
joined_at (x ∷ low) (true ∷ marks) (r ∷ rest) (suc i) h =
    let n : 1 + ones_before marks i ≡ suc (ones_before marks i) = omega arith in rw n (joined_at low marks rest i (omega arith))

-- an entry of the list that parts say, found by counting ones
pub entry_at : (p : Parts) (i : ℕ) → length p.more ≤ length p.first → length p.again ≤ length p.second → get_or (entries_of p) i 0 ≡ entry_of p i
unfolding entries_of
entry_at p i h g =
    let j = ones_before p.more i in
    joined_at p.first p.more (joined p.second p.again p.third) i h
    ∙ ap (λ n. get_or p.first i 0 + cond (get_or p.more i false) (256 * n) 0) (joined_at p.second p.again p.third j g)

pub length_entries : (p : Parts) → length (entries_of p) ≡ length p.first
unfolding entries_of
length_entries p = length-joined p.first p.more (joined p.second p.again p.third)

-- ---- from parts to a list and back

pub record Cut (low : List ℕ) (marks : List Bool) (rest l : List ℕ) : Type 0 where
  pub lows : map low_byte l ≡ low
  pub longs : map is_long l ≡ marks
  pub rest_is : rests l ≡ rest

cut_more : (v x : ℕ) (b : Bool) (low : List ℕ) (marks : List Bool) (rest l : List ℕ) → low_byte v ≡ x → is_long v ≡ b → Cut low marks rest l
    → Cut (x ∷ low) (b ∷ marks) (rest_if b v rest) (v ∷ l)
cut_more v x b low marks rest l p q c = record {
  lows = rw (p, c.lows) refl;
  longs = rw (q, c.longs) refl;
  rest_is = rw (q, c.rest_is) refl;
}

cut_of : (low : List ℕ) (marks : List Bool) (rest : List ℕ) → Bytes low → length marks ≡ length low → length rest ≡ ones marks → none_zero rest ≡ true
    → Cut low marks rest (joined low marks rest)
cut_of [] [] [] b e n z = record { lows = refl; longs = refl; rest_is = refl }
cut_of [] [] (r ∷ rest) b e n z = absurd (omega arith)
cut_of [] (m ∷ marks) rest b e n z = absurd (omega arith)
cut_of (x ∷ low) [] rest b e n z = absurd (omega arith)
cut_of (x ∷ low) (false ∷ marks) rest b e n z =
    cut_more x x false low marks rest (joined low marks rest) (omega (arith, b 0 (omega arith))) (lt-leb 256 x (b 0 (omega arith)))
    (cut_of low marks rest (λ i h. b (suc i) (omega arith)) (omega arith) (omega arith) z)
cut_of (x ∷ low) (true ∷ marks) [] b e n z = absurd (omega arith)
cut_of (x ∷ low) (true ∷ marks) (r ∷ rest) b e n z =
    let v = x + 256 * r in
    let f : x < 256 = b 0 (omega arith) in
    let q : (x + 256 * r) / 256 ≡ r = omega arith in
    let g : 0 < r = not_zero r (and_left (not (eqb r 0)) (none_zero rest) z) in
    let c : Cut (x ∷ low) (true ∷ marks) ((x + 256 * r) / 256 ∷ rest) ((x + 256 * r) ∷ joined low marks rest) =
    cut_more (x + 256 * r) x true low marks rest (joined low marks rest) (omega arith) (le-leb 256 (x + 256 * r) (omega arith))
    (cut_of low marks rest (λ i h. b (suc i) (omega arith)) (omega arith) (omega arith) (and_right (not (eqb r 0)) (none_zero rest) z)) in
    rw q at c

none_zero-joined : (low : List ℕ) (marks : List Bool) (rest : List ℕ) → length rest ≡ ones marks → none_idle low marks ≡ true → none_zero rest ≡ true
    → none_zero (joined low marks rest) ≡ true
none_zero-joined [] marks rest n i z = refl
none_zero-joined (x ∷ low) [] rest n i z =
    and_both (not (eqb x 0)) (none_zero (joined low [] rest)) (and_left (not (eqb x 0)) (none_idle low []) i)
    (none_zero-joined low [] rest n (and_right (not (eqb x 0)) (none_idle low []) i) z)
none_zero-joined (x ∷ low) (false ∷ marks) rest n i z =
    and_both (not (eqb x 0)) (none_zero (joined low marks rest)) (and_left (not (eqb x 0)) (none_idle low marks) i)
    (none_zero-joined low marks rest (omega arith) (and_right (not (eqb x 0)) (none_idle low marks) i) z)
none_zero-joined (x ∷ low) (true ∷ marks) [] n i z = absurd (omega arith)
none_zero-joined (x ∷ low) (true ∷ marks) (r ∷ rest) n i z =
    let g : 0 < r = not_zero r (and_left (not (eqb r 0)) (none_zero rest) z) in
    and_both (not (eqb (x + 256 * r) 0)) (none_zero (joined low marks rest)) (is_not_zero (x + 256 * r) (omega arith))
    (none_zero-joined low marks rest (omega arith) i (and_right (not (eqb r 0)) (none_zero rest) z))

-- what parts that agree meet
pub record Agree (p : Parts) : Type 0 where
  pub more : length p.more ≡ length p.first
  pub second : length p.second ≡ ones p.more
  pub again : length p.again ≡ length p.second
  pub third : length p.third ≡ ones p.again
  pub idle : none_idle p.second p.again ≡ true
  pub zeros : none_zero p.third ≡ true

pub agree_is : (p : Parts) → agree p ≡ true → Agree p
unfolding agree
agree_is p e =
    let a = eqb (length p.more) (length p.first) in
    let b = eqb (length p.second) (ones p.more) in
    let c = eqb (length p.again) (length p.second) in
    let d = eqb (length p.third) (ones p.again) in
    let f = none_idle p.second p.again in
    let g = none_zero p.third in
    let e1 = and_right a (b && (c && (d && (f && g)))) e in
    let e2 = and_right b (c && (d && (f && g))) e1 in
    let e3 = and_right c (d && (f && g)) e2 in
    let e4 = and_right d (f && g) e3 in
    record {
      more = eqb-true _ _ (and_left a (b && (c && (d && (f && g)))) e);
      second = eqb-true _ _ (and_left b (c && (d && (f && g))) e1);
      again = eqb-true _ _ (and_left c (d && (f && g)) e2);
      third = eqb-true _ _ (and_left d (f && g) e3);
      idle = and_left f g e4;
      zeros = and_right f g e4;
    }

pub is_agree : (p : Parts) → Agree p → agree p ≡ true
unfolding agree
is_agree p h =
    rw (
      eq-eqb (length p.more) (length p.first) h.more,
      eq-eqb (length p.second) (ones p.more) h.second,
      eq-eqb (length p.again) (length p.second) h.again,
      eq-eqb (length p.third) (ones p.again) h.third,
      h.idle,
      h.zeros,
    ) refl

-- parts that agree, of bytes, are those of the list that they say
pub parts_entries : (p : Parts) → Bytes p.first → Bytes p.second → Agree p → parts_of (entries_of p) ≡ p
unfolding parts_of entries_of
parts_entries p b1 b2 h =
    let r = joined p.second p.again p.third in
    let c2 : Cut p.second p.again p.third (joined p.second p.again p.third) = cut_of p.second p.again p.third b2 h.again h.third h.zeros in
    let c1 : Cut p.first p.more (joined p.second p.again p.third) (joined p.first p.more (joined p.second p.again p.third)) =
    cut_of p.first p.more r b1 h.more (length-joined p.second p.again p.third ∙ h.second)
    (none_zero-joined p.second p.again p.third h.third h.idle h.zeros) in
    λ i. record {
      first = c1.lows i;
      more = c1.longs i;
      second = (ap (map low_byte) c1.rest_is ∙ c2.lows) i;
      again = (ap (map is_long) c1.rest_is ∙ c2.longs) i;
      third = (ap rests c1.rest_is ∙ c2.rest_is) i;
    }

-- ---- the parts of a list agree

length_rest : (v : ℕ) (l : List ℕ) (b : Bool) → length (rest_if b v l) ≡ bit b + length l
length_rest v l true = omega arith
length_rest v l false = omega arith

pub length-rests : (l : List ℕ) → length (rests l) ≡ ones (map is_long l)
length-rests [] = refl
length-rests (v ∷ l) = omega (arith, length_rest v (rests l) (is_long v), length-rests l)

rest_positive : (v : ℕ) (l : List ℕ) (b : Bool) → is_long v ≡ b → none_zero l ≡ true → none_zero (rest_if b v l) ≡ true
rest_positive v l true e h = and_both (not (eqb (v / 256) 0)) (none_zero l) (is_not_zero (v / 256) (omega (arith, leb-true 256 v e))) h
rest_positive v l false e h = h

rests_positive : (l : List ℕ) → none_zero (rests l) ≡ true
rests_positive [] = refl
rests_positive (v ∷ l) = rest_positive v (rests l) (is_long v) refl (rests_positive l)

idle_one : (v : ℕ) (b : Bool) → is_long v ≡ b → 0 < v → (b || not (eqb (v % 256) 0)) ≡ true
idle_one v true e h = refl
idle_one v false e h = is_not_zero (v % 256) (omega (arith, leb-false 256 v e))

none_idle_parts : (l : List ℕ) → none_zero l ≡ true → none_idle (map low_byte l) (map is_long l) ≡ true
none_idle_parts [] h = refl
none_idle_parts (v ∷ l) h =
    and_both (is_long v || not (eqb (v % 256) 0)) (none_idle (map low_byte l) (map is_long l))
    (idle_one v (is_long v) refl (not_zero v (and_left (not (eqb v 0)) (none_zero l) h)))
    (none_idle_parts l (and_right (not (eqb v 0)) (none_zero l) h))

pub parts_agree : (l : List ℕ) → Agree (parts_of l)
unfolding parts_of
parts_agree l = record {
  more = length-map l is_long ∙ sym (length-map l low_byte);
  second = length-map (rests l) low_byte ∙ length-rests l;
  again = length-map (rests l) is_long ∙ sym (length-map (rests l) low_byte);
  third = length-rests (rests l);
  idle = none_idle_parts (rests l) (rests_positive l);
  zeros = rests_positive (rests l);
}
