-- Laws of lanes: a load and then another is both, and room for both; an element put; loads counted; lanes that are full make the whole.
-- Assumes nothing.
use mathlib.Core.Path.{◌≡◌, refl, sym, ◌∙◌, ap}
use mathlib.Core.Bool.{Bool, true, false}
use mathlib.Core.List.{List, [], ◌∷◌, ◌++◌, append_assoc, append-nil}
use Prim.Native.Nat.{ℕ, zero, suc, ◌+◌, ◌*◌, ◌-◌, ◌<◌, ◌≤◌}
use native.Mathlib.Nat.{add-zero, add-suc, suc-mul}
use native.Mathlib.Numerals.{add-one}
use native.Mathlib.Decide.{dec_lt}
use native.Mathlib.Omega.{arith}
use lib.Dec.{eqb}
use lib.ListN.{length, get_or, take, drop, set, length-append, length-set, length-drop, take-append-drop}
use lib.Seq.{take-suc-set, take-set-le, take-add, drop-set-lt, drop-set-add, get_or-set_same, get_or-set_other}
use borrow.Author.Tests.{eq-eqb, ne_eqb}
use Rattle.coding.specs.Lanes.{view_of, only_if, then, only, lane_of, Room, Put, HasRoom, Puts, Countable, Counted, upto, total, Started}
use Rattle.coding.specs.declared.lanes.Lanes.{Lanes}

-- ---- loads

pub only_at : (d : ℕ) (l : List ℕ) → only d l d ≡ l
only_at d l = rw (eq-eqb d d refl) refl

pub only_not : (d e : ℕ) (l : List ℕ) → (e ≡ d → ⊥) → only d l e ≡ []
only_not d e l h = rw (ne_eqb e d h) refl

pub only_none : (d e : ℕ) → only d [] e ≡ []
only_none d e = by_test (eqb e d)
  where
    by_test : (b : Bool) → only_if b [] ≡ []
    by_test true = refl
    by_test false = refl

pub only-append : (d : ℕ) (a b : List ℕ) (e : ℕ) → only d (a ++ b) e ≡ then (only d a) (only d b) e
only-append d a b e = by_test (eqb e d)
  where
    by_test : (x : Bool) → only_if x (a ++ b) ≡ only_if x a ++ only_if x b
    by_test true = refl
    by_test false = refl

-- ---- a load is put, and room for it

module _ {st cur out : List ℕ} where
  -- nothing was put
  pub put_none : {E : ℕ → List ℕ} → ((e : ℕ) → E e ≡ []) → Put st cur out cur out E
  put_none {E} n = record {
    curs = refl;
    outs = refl;
    counts = λ e h. omega (arith, ap length (n e));
    lanes = λ e h. rw (n e) (sym (append-nil (lane_of st cur out e)));
    rest = refl;
  }

  -- the same load, said in another way
  pub put_same : {cur' out' : List ℕ} {A B : ℕ → List ℕ} → ((e : ℕ) → A e ≡ B e) → Put st cur out cur' out' A → Put st cur out cur' out' B
  put_same s p = record {
    curs = p.curs;
    outs = p.outs;
    counts = λ e h. p.counts e h ∙ ap (λ l. get_or cur e 0 + length l) (s e);
    lanes = λ e h. p.lanes e h ∙ ap (λ l. lane_of st cur out e ++ l) (s e);
    rest = p.rest;
  }

  pub put_then : {cur' out' cur'' out'' : List ℕ} {A B : ℕ → List ℕ} → Put st cur out cur' out' A → Put st cur' out' cur'' out'' B → Put st cur out cur'' out'' (then A B)
  put_then {cur'} {out'} {A = A} {B = B} p q = record {
    curs = q.curs ∙ p.curs;
    outs = q.outs ∙ p.outs;
    counts = λ e h. omega (arith, q.counts e (omega arith), p.counts e h, length-append (A e) (B e));
    lanes = λ e h.
        q.lanes e (omega arith) ∙ ap (λ l. l ++ B e) (p.lanes e h) ∙ append_assoc (lane_of st cur out e) (A e) (B e);
    rest = rw p.curs at q.rest ∙ p.rest;
  }

  pub room_same : {A B : ℕ → List ℕ} → ((e : ℕ) → A e ≡ B e) → Room st cur out A → Room st cur out B
  room_same s r = record { starts = r.starts; room = λ e h. omega (arith, r.room e h, ap length (s e)); fits = r.fits }

  pub room_left : (A B : ℕ → List ℕ) → Room st cur out (then A B) → Room st cur out A
  room_left A B r = record { starts = r.starts; room = λ e h. omega (arith, r.room e h, length-append (A e) (B e)); fits = r.fits }

  pub room_right : {cur' out' : List ℕ} (A B : ℕ → List ℕ) → Room st cur out (then A B) → Put st cur out cur' out' A → Room st cur' out' B
  room_right A B r p = record {
    starts = omega (arith, r.starts, p.curs);
    room = λ e h.
        let g : e < length cur = omega (arith, p.curs) in
        omega (arith, r.room e g, p.counts e g, length-append (A e) (B e));
    fits = rw p.curs (omega (arith, r.fits, p.outs));
  }

  -- lanes start one behind the other
  rising_by : {E : ℕ → List ℕ} → Room st cur out E → (a t : ℕ) → a + t ≤ length cur → get_or st a 0 ≤ get_or st (a + t) 0
  rising_by r a zero h = rw add-zero (omega arith)
  rising_by r a (suc t) h = rw add-suc (omega (arith, r.room (a + t) (omega arith), rising_by r a t (omega arith)))

  pub rising : {E : ℕ → List ℕ} → Room st cur out E → (a b : ℕ) → a ≤ b → b ≤ length cur → get_or st a 0 ≤ get_or st b 0
  rising r a b h g =
      let e : a + (b - a) ≡ b = omega arith in
      rw e at (rising_by r a (b - a) (omega arith))

-- ---- the same of lanes

pub puts_none : {b : Bool} {l : Lanes} {E : ℕ → List ℕ} → ((e : ℕ) → E e ≡ []) → Puts b l l E
puts_none n = record { starts = refl; cur = refl; out = refl; load = put_none n }

pub puts_same : {b : Bool} {old new : Lanes} {A B : ℕ → List ℕ} → ((e : ℕ) → A e ≡ B e) → Puts b old new A → Puts b old new B
puts_same s p = record { starts = p.starts; cur = p.cur; out = p.out; load = put_same s p.load }

pub puts_then : {b : Bool} {old mid new : Lanes} {A B : ℕ → List ℕ} → Puts b old mid A → Puts b mid new B → Puts b old new (then A B)
puts_then {b} {old} {mid} {new} {B = B} p q = record {
  starts = q.starts ∙ p.starts;
  cur = q.cur ∙ p.cur;
  out = q.out ∙ p.out;
  load = put_then p.load (rw p.starts at q.load);
}

pub lanes_right : {b : Bool} {old new : Lanes} (A B : ℕ → List ℕ) → HasRoom b old (then A B) → Puts b old new A → HasRoom b new B
lanes_right {b} {old} {new} A B r p = rw p.starts (room_right A B r p.load)

-- ---- loads counted

pub counted_none : {cur : List ℕ} {E : ℕ → List ℕ} → ((e : ℕ) → E e ≡ []) → Counted cur cur E
counted_none n = record { curs = refl; counts = λ e h. omega (arith, ap length (n e)) }

pub counted_same : {cur cur' : List ℕ} {A B : ℕ → List ℕ} → ((e : ℕ) → length (A e) ≡ length (B e)) → Counted cur cur' A → Counted cur cur' B
counted_same s p = record { curs = p.curs; counts = λ e h. omega (arith, p.counts e h, s e) }

pub counted_then : {cur cur' cur'' : List ℕ} {A B : ℕ → List ℕ} → Counted cur cur' A → Counted cur' cur'' B → Counted cur cur'' (then A B)
counted_then {A = A} {B = B} p q = record {
  curs = q.curs ∙ p.curs;
  counts = λ e h. omega (arith, q.counts e (omega arith), p.counts e h, length-append (A e) (B e));
}

pub countable_same : {cur : List ℕ} {A B : ℕ → List ℕ} → ((e : ℕ) → length (A e) ≡ length (B e)) → Countable cur A → Countable cur B
countable_same s r = record { most = λ e h. omega (arith, r.most e h, s e) }

pub countable_left : {cur : List ℕ} (A B : ℕ → List ℕ) → Countable cur (then A B) → Countable cur A
countable_left A B r = record { most = λ e h. omega (arith, r.most e h, length-append (A e) (B e)) }

pub countable_right : {cur cur' : List ℕ} (A B : ℕ → List ℕ) → Countable cur (then A B) → Counted cur cur' A → Countable cur' B
countable_right {cur} A B r p = record {
  most = λ e h.
      let g : e < length cur = omega (arith, p.curs) in
      omega (arith, r.most e g, p.counts e g, length-append (A e) (B e));
}

-- a load of n elements counted at lane d
module _ (cur : List ℕ) (d n : ℕ) (l : List ℕ) (h : d < length cur) (k : length l ≡ n) where
  counted_at : (e : ℕ) → e < length cur → Dec (e < d) → Dec (d < e) → get_or (set cur d (get_or cur d 0 + n)) e 0 ≡ get_or cur e 0 + length (only d l e)
  counted_at e g (yes x) m = rw (only_not d e l (omega arith), get_or-set_other cur d e (get_or cur d 0 + n) 0 (omega arith)) (omega arith)
  counted_at e g (no x) (yes m) = rw (only_not d e l (omega arith), get_or-set_other cur d e (get_or cur d 0 + n) 0 (omega arith)) (omega arith)
  counted_at e g (no x) (no m) =
      let s : e ≡ d = omega arith in
      rw (s, only_at d l, get_or-set_same cur d (get_or cur d 0 + n) 0 h) (omega (arith, k))

  pub counted_one : Counted cur (set cur d (get_or cur d 0 + n)) (only d l)
  counted_one = record { curs = length-set cur d (get_or cur d 0 + n); counts = λ e g. counted_at e g (dec_lt e d) (dec_lt d e) }

total_by : (l : List ℕ) (a t : ℕ) → total l a ≤ total l (a + t)
total_by l a zero = let e : a + zero ≡ a = omega arith in rw e (omega arith)
total_by l a (suc t) = let e : a + suc t ≡ suc (a + t) = omega arith in rw e (omega (arith, total_by l a t))

pub total_most : (l : List ℕ) (a b : ℕ) → a ≤ b → total l a ≤ total l b
total_most l a b h = let e : a + (b - a) ≡ b = omega arith in rw e at (total_by l a (b - a))

-- ---- one element put to lane d

module _ (st cur out : List ℕ) (d v : ℕ) (h : d < length cur) (r : Room st cur out (only d (v ∷ []))) where
  abbrev at : ℕ
  at = get_or st d 0 + get_or cur d 0

  -- the place is in the lane
  pub at_in : get_or st d 0 + get_or cur d 0 < get_or st (suc d) 0
  at_in = omega (arith, r.room d h, ap length (only_at d (v ∷ [])))

  pub at_most : get_or st (suc d) 0 ≤ length out
  at_most = omega (arith, rising r (suc d) (length cur) h (omega arith), r.fits)

  room_of : (e : ℕ) → e < length cur → get_or st e 0 + get_or cur e 0 ≤ get_or st (suc e) 0
  room_of e g = omega (arith, r.room e g)

  lane_at : (e : ℕ) → e < length cur → Dec (e < d) → Dec (d < e) → lane_of st (set cur d (get_or cur d 0 + 1)) (set out at v) e ≡ lane_of st cur out e ++ only d (v ∷ []) e
  lane_at e g (yes l) m =
      let s : at ≡ get_or st e 0 + (at - get_or st e 0) = omega (arith, room_of e g, rising r (suc e) d l (omega arith)) in
      let n : get_or cur e 0 ≤ at - get_or st e 0 = omega (arith, room_of e g, rising r (suc e) d l (omega arith)) in
      rw (only_not d e (v ∷ []) (omega arith), get_or-set_other cur d e (get_or cur d 0 + 1) 0 (omega arith))
      (ap (λ p. take (get_or cur e 0) (drop (get_or st e 0) (set out p v))) s
      ∙ ap (take (get_or cur e 0)) (drop-set-add (get_or st e 0) out (at - get_or st e 0) v)
      ∙ take-set-le (get_or cur e 0) (drop (get_or st e 0) out) (at - get_or st e 0) v n
      ∙ sym (append-nil (lane_of st cur out e)))
  lane_at e g (no l) (yes m) =
      rw (only_not d e (v ∷ []) (omega arith), get_or-set_other cur d e (get_or cur d 0 + 1) 0 (omega arith))
      (ap (take (get_or cur e 0)) (drop-set-lt (get_or st e 0) out at v (omega (arith, at_in, rising r (suc d) e m (omega arith))))
      ∙ sym (append-nil (lane_of st cur out e)))
  lane_at e g (no l) (no m) =
      let s : e ≡ d = omega arith in
      let n : get_or cur d 0 < length (drop (get_or st d 0) out) = omega (arith, at_in, at_most, length-drop (get_or st d 0) out) in
      rw (s, only_at d (v ∷ []), get_or-set_same cur d (get_or cur d 0 + 1) 0 h, add-one)
      (ap (take (suc (get_or cur d 0))) (drop-set-add (get_or st d 0) out (get_or cur d 0) v)
      ∙ take-suc-set (drop (get_or st d 0) out) (get_or cur d 0) v n)

  pub put_one : Put st cur out (set cur d (get_or cur d 0 + 1)) (set out (get_or st d 0 + get_or cur d 0) v) (only d (v ∷ []))
  put_one = record {
    curs = length-set cur d (get_or cur d 0 + 1);
    outs = length-set out at v;
    counts = (counted_one cur d 1 (v ∷ []) h refl).counts;
    lanes = λ e g. lane_at e g (dec_lt e d) (dec_lt d e);
    rest =
        drop-set-lt (get_or st (length cur) 0) out at v (omega (arith, at_in, rising r (suc d) (length cur) h (omega arith)));
  }

-- the place of the next element of a lane that has room for it is before the next lane
pub lane_in : (b : Bool) (l : Lanes) (d v : ℕ) → d < length l.cur.now → HasRoom b l (only d (v ∷ []))
    → get_or l.starts.now d 0 + get_or l.cur.now d 0 < get_or l.starts.now (suc d) 0
lane_in b l d v h r = at_in l.starts.now l.cur.now (view_of b l.out.now) d v h r

-- the place of the next element of lane d is in the buffer
pub place_in : (b : Bool) (l : Lanes) (d v : ℕ) → d < length l.cur.now → HasRoom b l (only d (v ∷ []))
    → get_or l.starts.now d 0 + get_or l.cur.now d 0 < length (view_of b l.out.now)
place_in b l d v h r =
    let out = view_of b l.out.now in
    omega (arith, at_in l.starts.now l.cur.now out d v h r, at_most l.starts.now l.cur.now out d v h r)

-- ---- full lanes

-- nothing is written yet
abbrev pub Fresh : List ℕ → Type 0
Fresh cur = (e : ℕ) → e < length cur → get_or cur e 0 ≡ 0

module _ (E : ℕ → List ℕ) where
  pub upto_most : (m : ℕ) → ((e : ℕ) → length (E e) ≤ m) → (n : ℕ) → length (upto E n) ≤ n * m
  upto_most m h zero = omega arith
  upto_most m h (suc n) = omega (arith, length-append (upto E n) (E n), upto_most m h n, h n, suc-mul n m)

  module _ (counts : List ℕ) (c : (e : ℕ) → e < length counts → get_or counts e 0 ≡ length (E e)) where
    pub total-upto : (n : ℕ) → n ≤ length counts → total counts n ≡ length (upto E n)
    total-upto zero h = refl
    total-upto (suc n) h = omega (arith, total-upto n (omega arith), c n h, length-append (upto E n) (E n))

    module _ (st cur out : List ℕ) (s : Started counts st) (k : length cur ≡ length counts) (z : Fresh cur) where
      start_at : (n : ℕ) → n ≤ length counts → get_or st n 0 ≡ length (upto E n)
      start_at n h = s.sums n h ∙ total-upto n h

      pub room_start : length (upto E (length counts)) ≤ length out → Room st cur out E
      room_start h = record {
        starts = omega (arith, s.count, k);
        room = λ e g. omega (arith, z e g, start_at e (omega arith), start_at (suc e) (omega arith), length-append (upto E e) (E e));
        fits = rw k (omega (arith, start_at (length counts) (omega arith)));
      }

      module _ (cur' out' : List ℕ) (p : Put st cur out cur' out' E) where
        lane_full : (e : ℕ) → e < length counts → take (length (E e)) (drop (length (upto E e)) out') ≡ E e
        lane_full e h =
            let g : e < length cur = omega arith in
            let a : get_or cur' e 0 ≡ length (E e) = omega (arith, p.counts e g, z e g) in
            let b : get_or st e 0 ≡ length (upto E e) = start_at e (omega arith) in
            let w : take (get_or cur' e 0) (drop (get_or st e 0) out') ≡ take (get_or cur e 0) (drop (get_or st e 0) out) ++ E e = p.lanes e g in
            let v : take (get_or cur' e 0) (drop (get_or st e 0) out') ≡ E e = rw (z e g) at w in
            rw (a, b) at v

        front : (n : ℕ) → n ≤ length counts → take (length (upto E n)) out' ≡ upto E n
        front zero h = refl
        front (suc n) h =
            rw (length-append (upto E n) (E n), take-add (length (upto E n)) (length (E n)) out', front n (omega arith), lane_full n h) refl

        pub full : out' ≡ upto E (length counts) ++ drop (length (upto E (length counts))) out
        full =
            let n = length counts in
            let r : drop (length (upto E n)) out' ≡ drop (length (upto E n)) out = rw (k, start_at n (omega arith)) at p.rest in
            sym (take-append-drop (length (upto E n)) out') ∙ rw (front n (omega arith), r) refl
