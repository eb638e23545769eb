-- `coding::look_up` meets its contract: bytes are a packed list just if one starts them, nothing is behind it, and it is short enough.
use mathlib.Core.Path.{◌≡◌, refl, sym, ap, ◌∙◌}
use mathlib.Core.Bool.{Bool, true, false, not}
use mathlib.Core.List.{List, [], ◌∷◌}
use Prim.Native.Nat.{ℕ, ◌-◌, ◌≤◌, ◌<◌}
use native.Mathlib.Omega.{arith}
use borrow.Author.Tests.{le-leb, lt-leb, eqb-true, eqb-false}
use lib.Dec.{leb}
use lib.ListN.{length, get_or, drop, length-drop, length-append}
use Rattle.coding.specs.Lists.{list_limit}
use Rattle.coding.specs.Calls.{refuse, first_of, entry_answer, look_up_refusal, LooksUp}
use Rattle.coding.specs.Sections.{packed, list_at, same, starts_list, is_list}
use Rattle.coding.proofs.Laws.Lists.{no_bit, and_left, and_both}
use Rattle.coding.proofs.Laws.Sections.{starts-whole, whole-starts, starts_list_lem, is_list_lem}
use Rattle.coding.proofs.look_up.Goals as goal
use Rattle.coding.proofs.look_up.Goals.{In-Some, Else-n-gt-LIST_LIMIT, then-not-is_empty-via-then-not-is_empty, then-not-is_empty-via-else-not-is_empty+then-n-gt-LIST_LIMIT}

-- ---- a list, and nothing behind it

list_starts : (s : List ℕ) → is_list s ≡ true → starts_list s ≡ true
unfolding is_list starts_list
list_starts s e = whole-starts s (packed (list_at s)) (and_left (same (packed (list_at s)) s) (leb (length (list_at s)) list_limit) e)

starts_is : (s : List ℕ) → starts_list s ≡ true → length (packed (list_at s)) ≡ length s → length (list_at s) ≤ list_limit → is_list s ≡ true
unfolding is_list starts_list
starts_is s e n h =
    and_both (same (packed (list_at s)) s) (leb (length (list_at s)) list_limit)
    (starts-whole s (packed (list_at s)) e n) (le-leb (length (list_at s)) list_limit h)

-- ---- the answers

refused : (b l : Bool) (v : ℕ) → (b ≡ true → ⊥)
    → record { refusal = 3; number = 0 } ≡ entry_answer (first_of (refuse 3 (not b) ∷ refuse 8 l ∷ [])) v
refused true l v h = absurd (h refl)
refused false l v h = refl

no_list : (s : List ℕ) (i : ℕ) → (is_list s ≡ true → ⊥) → LooksUp s i (record { refusal = 3; number = 0 })
unfolding look_up_refusal
no_list s i h = record { answer = refused (is_list s) (leb (length (list_at s)) i) (get_or (list_at s) i 0) h }

no_entry : (s : List ℕ) (i : ℕ) → is_list s ≡ true → length (list_at s) ≤ i → LooksUp s i (record { refusal = 8; number = 0 })
unfolding look_up_refusal
no_entry s i e h = record { answer = rw (e, le-leb (length (list_at s)) i h) refl }

an_entry : (s : List ℕ) (i r : ℕ) → is_list s ≡ true → i < length (list_at s) → r ≡ get_or (list_at s) i 0 → LooksUp s i (record { refusal = 0; number = r })
unfolding look_up_refusal
an_entry s i r e h q = record { answer = rw (e, lt-leb (length (list_at s)) i h, q) refl }

-- ---- the function

pub returns-in_default : goal.returns-in_default
returns-in_default c = no_list c.args.s.now c.args.i (λ e. no_bit (sym (list_starts c.args.s.now e) ∙ c.in_default.ensures))

-- what is behind the list is as long as the bytes less the list
behind : (c : In-Some) → length c.in-Some.rest.now ≡ length c.args.s.now - length (packed (list_at c.args.s.now))
behind c = ap length c.in-Some.ensures.2 ∙ length-drop (length (packed (list_at c.args.s.now))) c.args.s.now

pub returns-then-not-is_empty : goal.returns-then-not-is_empty
returns-then-not-is_empty c =
    let s = c.args.s.now in
    let p = (goal.at.returns-then-not-is_empty c).In-Some in
    no_list s c.args.i (λ e. elim c.then-not-is_empty.branch [
      | then-not-is_empty-via-then-not-is_empty w ↦
          eqb-false _ _ (sym c.is_empty.ensures ∙ w.if-not-is_empty.true) (omega (arith, behind p, ap length (is_list_lem s e).0))
      | then-not-is_empty-via-else-not-is_empty+then-n-gt-LIST_LIMIT w ↦
          omega (arith, c.len-n.ensures, ap length c.in-Some.ensures.1, (is_list_lem s e).1, w.if-n-gt-LIST_LIMIT.true)
    ])

-- a list that is short enough, and nothing behind it
list : (c : Else-n-gt-LIST_LIMIT) → is_list c.args.s.now ≡ true
list c =
    let s = c.args.s.now in
    let l = packed (list_at s) in
    let p = c.in-Some.ensures in
    let e = eqb-true _ _ (sym c.is_empty.ensures ∙ c.if-not-is_empty.false) in
    starts_is s p.0
    (omega (arith, e, ap length p.2, length-drop (length l) s, ap length (starts_list_lem s p.0).is, length-append l (drop (length l) s)))
    (omega (arith, c.len-n.ensures, ap length p.1, c.if-n-gt-LIST_LIMIT.false))

pub returns-then-n-i : goal.returns-then-n-i
returns-then-n-i c =
    no_entry c.args.s.now c.args.i (list (goal.at.returns-then-n-i c).Else-n-gt-LIST_LIMIT)
    (omega (arith, c.len-n.ensures, ap length c.in-Some.ensures.1, c.if-n-i.true))

pub returns : goal.returns
returns c =
    an_entry c.args.s.now c.args.i c.entry.result (list (goal.at.returns c).Else-n-gt-LIST_LIMIT)
    (omega (arith, c.len-n.ensures, ap length c.in-Some.ensures.1, c.if-n-i.false))
    (c.entry.ensures.0 ∙ ap (λ l. get_or l c.args.i 0) c.in-Some.ensures.1)
