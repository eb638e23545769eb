-- The three public calls: which refusal they give, what they return, and what the lent buffer holds afterwards, for every input.
-- Assumes nothing.
use Rattle.std.specs.Prelude.{◌≡◌, Bool, true, false, not, cond, List, [], ◌∷◌, ℕ, zero, suc, leb, ltb, length, get_or}
use Rattle.std.proofs.lemmas.List.Edits.{sets}
use Rattle.coding.specs.Bits.{ones_before}
use Rattle.coding.specs.Lists.{list_limit, number_limit}
use Rattle.coding.specs.Sections.{packed, list_at, bits_at, is_list, is_bit_section}
use Rattle.coding.specs.declared.Amount.{Amount}
use Rattle.coding.specs.declared.Entry.{Entry}

-- ---- what every call shares

-- a row of the table of refusals: a number, and whether it applies
pub record Refusal : Type 0 where
  pub no : ℕ
  pub applies : Bool

abbrev pub refuse : ℕ → Bool → Refusal
refuse n b = record { no = n; applies = b }

-- the first that applies, in the order given; 0 where none does
abbrev pub first_of : List Refusal → ℕ
first_of [] = 0
first_of (r ∷ l) = cond r.applies r.no (first_of l)

-- an amount of a call that writes nothing: beside a refusal, 0
abbrev pub amount_of : ℕ → ℕ → Amount
amount_of zero a = record { refusal = 0; amount = a }
amount_of (suc n) a = record { refusal = suc n; amount = 0 }

-- a call that writes `answer` into a buffer: 6 comes last, with the room needed; a refused call writes nothing
abbrev pub written_of : ℕ → ℕ → ℕ → Amount
written_of zero need room = cond (ltb room need) (record { refusal = 6; amount = need }) (record { refusal = 0; amount = need })
written_of (suc n) need room = record { refusal = suc n; amount = 0 }

abbrev pub buffer_of {ℓ} : {A : Type ℓ} → ℕ → List A → List A → List A
buffer_of zero answer old = cond (ltb (length old) (length answer)) old (sets old 0 answer)
buffer_of (suc n) answer old = old

-- ---- pack a list: 1, 2, 6

-- whether a number is at least the limit
abbrev pub any_from : ℕ → List ℕ → Bool
any_from limit [] = false
any_from limit (v ∷ l) = cond (leb limit v) true (any_from limit l)

unfoldable pub pack_refusal : List ℕ → ℕ
pack_refusal l = first_of (refuse 1 (ltb list_limit (length l)) ∷ refuse 2 (any_from number_limit l) ∷ [])

pub record Packs (l old : List ℕ) (r : Amount) (new : List ℕ) : Type 0 where
  pub answer : r ≡ written_of (pack_refusal l) (length (packed l)) (length old)
  pub buffer : new ≡ buffer_of (pack_refusal l) (packed l) old

-- ---- look up an entry: 3, 8

unfoldable pub look_up_refusal : List ℕ → ℕ → ℕ
look_up_refusal s i = first_of (refuse 3 (not (is_list s)) ∷ refuse 8 (leb (length (list_at s)) i) ∷ [])

abbrev pub entry_answer : ℕ → ℕ → Entry
entry_answer zero v = record { refusal = 0; number = v }
entry_answer (suc n) v = record { refusal = suc n; number = 0 }

pub record LooksUp (s : List ℕ) (i : ℕ) (r : Entry) : Type 0 where
  pub answer : r ≡ entry_answer (look_up_refusal s i) (get_or (list_at s) i 0)

-- ---- count the ones before a place: 3

unfoldable pub ones_refusal : List ℕ → ℕ
ones_refusal s = first_of (refuse 3 (not (is_bit_section s)) ∷ [])

pub record CountsOnes (s : List ℕ) (z : ℕ) (r : Amount) : Type 0 where
  pub answer : r ≡ amount_of (ones_refusal s) (ones_before (bits_at s) z)
