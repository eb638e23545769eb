-- An answer is told by what C gets of it, so a promise that is said of that has one answer of the code.
-- Assumes nothing.
use mathlib.Core.Path.{◌≡◌, refl, sym, ap, ap₂, ◌∙◌}
use mathlib.Core.Bool.{Bool, true, false, not}
use mathlib.Core.List.{List, [], ◌∷◌}
use Prim.Native.Nat.{ℕ, zero, suc}
use native.Mathlib.Omega.{arith}
use lib.Dec.{leb}
use lib.ListN.{length}
use Rattle.std.proofs.Common.{Result, Ok, Err}
use Rattle.coding.specs.Answers.{number_of, room_of, as_amount, as_entry}
use Rattle.coding.specs.Calls.{Packs, LooksUp, CountsOnes, refuse, first_of, entry_answer, look_up_refusal}
use Rattle.coding.specs.Sections.{list_at, is_list}
use Rattle.coding.specs.declared.Amount.{Amount}
use Rattle.coding.specs.declared.Entry.{Entry}
use Rattle.coding.specs.declared.refusal.Refusal.{Refusal}
use Rattle.coding.specs.declared.refusal.Refusal.TheVariants.{Size, Range, Form, Window, Band, Room, Text, Entry as NoEntry}
use Rattle.coding.proofs.Laws.Calls.{one_pack, one_look_up, one_count}

-- the refusal of a number, and of a room needed
pub refusal_at : ℕ → ℕ → Refusal
refusal_at zero n = NoEntry
refusal_at (suc zero) n = Size
refusal_at (suc (suc zero)) n = Range
refusal_at (suc (suc (suc zero))) n = Form
refusal_at (suc (suc (suc (suc zero)))) n = Window
refusal_at (suc (suc (suc (suc (suc zero))))) n = Band
refusal_at (suc (suc (suc (suc (suc (suc zero)))))) n = Room n
refusal_at (suc (suc (suc (suc (suc (suc (suc zero))))))) n = Text
refusal_at (suc (suc (suc (suc (suc (suc (suc (suc k)))))))) n = NoEntry

back : (e : Refusal) → refusal_at (number_of e) (room_of e) ≡ e
unfolding refusal_at
back Size = refl
back Range = refl
back Form = refl
back Window = refl
back Band = refl
back (Room n) = refl
back Text = refl
back NoEntry = refl

pub back_without : (e : Refusal) → (number_of e ≡ 6 → ⊥) → refusal_at (number_of e) 0 ≡ e
unfolding refusal_at
back_without Size h = refl
back_without Range h = refl
back_without Form h = refl
back_without Window h = refl
back_without Band h = refl
back_without (Room n) h = absurd (h refl)
back_without Text h = refl
back_without NoEntry h = refl

pub a_number : (e : Refusal) → number_of e ≡ 0 → ⊥
a_number Size h = absurd (omega arith)
a_number Range h = absurd (omega arith)
a_number Form h = absurd (omega arith)
a_number Window h = absurd (omega arith)
a_number Band h = absurd (omega arith)
a_number (Room n) h = absurd (omega arith)
a_number Text h = absurd (omega arith)
a_number NoEntry h = absurd (omega arith)

pub one_amount : (r s : Result ℕ Refusal) → as_amount r ≡ as_amount s → r ≡ s
one_amount (Ok n) (Ok m) e = ap Ok (ap (λ (a : Amount). a.amount) e)
one_amount (Ok n) (Err y) e = absurd (a_number y (sym (ap (λ (a : Amount). a.refusal) e)))
one_amount (Err x) (Ok m) e = absurd (a_number x (ap (λ (a : Amount). a.refusal) e))
one_amount (Err x) (Err y) e =
    ap Err (sym (back x) ∙ ap₂ refusal_at (ap (λ (a : Amount). a.refusal) e) (ap (λ (a : Amount). a.amount) e) ∙ back y)

pub one_entry : (r s : Result ℕ Refusal) → as_entry r ≡ as_entry s → ((as_entry r).refusal ≡ 6 → ⊥) → r ≡ s
one_entry (Ok n) (Ok m) e h = ap Ok (ap (λ (a : Entry). a.number) e)
one_entry (Ok n) (Err y) e h = absurd (a_number y (sym (ap (λ (a : Entry). a.refusal) e)))
one_entry (Err x) (Ok m) e h = absurd (a_number x (ap (λ (a : Entry). a.refusal) e))
one_entry (Err x) (Err y) e h =
    let n = ap (λ (a : Entry). a.refusal) e in
    ap Err (sym (back_without x h) ∙ ap (λ k. refusal_at k 0) n ∙ back_without y (λ g. h (n ∙ g)))

-- a look-up is never refused for room
no_room : {s : List ℕ} {i : ℕ} {r : Entry} → LooksUp s i r → r.refusal ≡ 6 → ⊥
unfolding look_up_refusal
no_room {s} {i} p e = neither (is_list s) (leb (length (list_at s)) i) _ (sym (ap (λ (a : Entry). a.refusal) p.answer) ∙ e)
  where
    neither : (b l : Bool) (v : ℕ) → (entry_answer (first_of (refuse 3 (not b) ∷ refuse 8 l ∷ [])) v).refusal ≡ 6 → ⊥
    neither true true v e = absurd (omega arith)
    neither true false v e = absurd (omega arith)
    neither false l v e = absurd (omega arith)

-- ---- the calls

pub one_pack_answer : {l old new new' : List ℕ} (r s : Result ℕ Refusal) → Packs l old (as_amount r) new → Packs l old (as_amount s) new'
    → (r ≡ s) × (new ≡ new')
one_pack_answer r s p q = let e = one_pack p q in (one_amount r s e.0, e.1)

pub one_look_up_answer : {l : List ℕ} {i : ℕ} (r s : Result ℕ Refusal) → LooksUp l i (as_entry r) → LooksUp l i (as_entry s) → r ≡ s
one_look_up_answer r s p q = one_entry r s (one_look_up p q) (no_room p)

pub one_count_answer : {l : List ℕ} {z : ℕ} (r s : Result ℕ Refusal) → CountsOnes l z (as_amount r) → CountsOnes l z (as_amount s) → r ≡ s
one_count_answer r s p q = one_amount r s (one_count p q)
