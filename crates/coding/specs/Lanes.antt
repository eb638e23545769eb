-- A section that is written one entry at a time, in lanes side by side: lane e starts at place st e, and cur e elements of it are written.
-- A load says what is written to each lane. An element is a byte, or a bit as 0 or 1.
-- Assumes nothing.
use Rattle.std.specs.Prelude.{◌≡◌, Bool, true, false, List, [], ◌∷◌, ◌++◌, map, ℕ, zero, suc, ◌+◌, ◌≤◌, ◌<◌, ◌/◌, ◌%◌, ◌^◌, eqb, leb, length, get_or, take, drop}
use Rattle.std.proofs.lemmas.List.Edits.{sets}
use Rattle.std.proofs.Common.{lit<}
use Rattle.coding.specs.Bits.{bit, all_bits}
use Rattle.coding.specs.Lists.{number_limit}
use Rattle.coding.specs.Sections.{byte_section, bit_section, packed}
use Rattle.coding.specs.declared.lanes.part.Part.{Part}
use Rattle.coding.specs.declared.lanes.Lanes.{Lanes}

-- the elements that bytes hold: their bits, or themselves
abbrev pub view_of : Bool → List ℕ → List ℕ
view_of true s = map bit (all_bits s)
view_of false s = s

-- what a part has of a number: if it is at least `from`, its byte of weight `by`, or whether it is at least `by`
abbrev pub element_of : Bool → ℕ → ℕ → ℕ
element_of true by v = bit (leb by v)
element_of false by v = v / by % 256

abbrev pub only_if : Bool → List ℕ → List ℕ
only_if true l = l
only_if false l = []

unfoldable pub item_of : Part → ℕ → List ℕ
item_of p v = only_if (leb p.from v) (element_of p.bits p.by v ∷ [])

-- what it has of a list
unfoldable pub items_of : Part → List ℕ → List ℕ
items_of p [] = []
items_of p (v ∷ l) = item_of p v ++ items_of p l

-- the five parts of a list, and split marks written as 0 and 1
abbrev pub first_part : Part
first_part = record { bits = false; from = 0; by = 1; by_positive = lit< tt }

abbrev pub more_part : Part
more_part = record { bits = true; from = 0; by = 256; by_positive = lit< tt }

abbrev pub second_part : Part
second_part = record { bits = false; from = 256; by = 256; by_positive = lit< tt }

abbrev pub again_part : Part
again_part = record { bits = true; from = 256; by = 65536; by_positive = lit< tt }

abbrev pub third_part : Part
third_part = record { bits = false; from = 65536; by = 65536; by_positive = lit< tt }

abbrev pub mark_part : Part
mark_part = record { bits = true; from = 0; by = 1; by_positive = lit< tt }

-- bytes that hold a section of these elements, after its count
abbrev pub Written : Bool → List ℕ → List ℕ → Type 0
Written true l s = (marks : List Bool) → l ≡ map bit marks → s ≡ bit_section marks
Written false l s = s ≡ byte_section l

-- the same, laid in a longer buffer from a place on
abbrev pub WrittenAt : Bool → List ℕ → List ℕ → ℕ → List ℕ → Type 0
WrittenAt true l old at new = (marks : List Bool) → l ≡ map bit marks → new ≡ sets old at (bit_section marks)
WrittenAt false l old at new = new ≡ sets old at (byte_section l)

-- how many bytes n elements take
abbrev pub size_of : Bool → ℕ → ℕ
size_of true n = (n + 7) / 8
size_of false n = n

-- how many numbers are at least `low`
unfoldable pub count_from : ℕ → List ℕ → ℕ
count_from low [] = 0
count_from low (v ∷ l) = bit (leb low v) + count_from low l

-- the counts of a list's first, second and third bytes, and room for the list
pub record Counts (l : List ℕ) (n n2 n3 room : ℕ) : Type 0 where
  pub all : n ≡ length l
  pub two : n2 ≡ count_from 256 l
  pub three : n3 ≡ count_from 65536 l
  pub range : (i : ℕ) → i < length l → get_or l i 0 < number_limit
  pub fits : length (packed l) ≤ room

-- ---- loads

-- one load and then another
abbrev pub then : (ℕ → List ℕ) → (ℕ → List ℕ) → ℕ → List ℕ
then A B e = A e ++ B e

-- l to lane d alone
abbrev pub only : ℕ → List ℕ → ℕ → List ℕ
only d l e = only_if (eqb e d) l

-- what is written of lane e
abbrev pub lane_of : List ℕ → List ℕ → List ℕ → ℕ → List ℕ
lane_of st cur out e = take (get_or cur e 0) (drop (get_or st e 0) out)

-- each lane has room for a load before the next lane starts, and the last lane ends within the buffer
pub record Room (st cur out : List ℕ) (E : ℕ → List ℕ) : Type 0 where
  pub starts : length cur < length st
  pub room : (e : ℕ) → e < length cur → get_or st e 0 + (get_or cur e 0 + length (E e)) ≤ get_or st (suc e) 0
  pub fits : get_or st (length cur) 0 ≤ length out

-- the load E was put: each lane has it behind what it had, and nothing changed behind the lanes
pub record Put (st cur out cur' out' : List ℕ) (E : ℕ → List ℕ) : Type 0 where
  pub curs : length cur' ≡ length cur
  pub outs : length out' ≡ length out
  pub counts : (e : ℕ) → e < length cur → get_or cur' e 0 ≡ get_or cur e 0 + length (E e)
  pub lanes : (e : ℕ) → e < length cur → lane_of st cur' out' e ≡ lane_of st cur out e ++ E e
  pub rest : drop (get_or st (length cur) 0) out' ≡ drop (get_or st (length cur) 0) out

-- lanes of bytes or of bits have room for a load
abbrev pub HasRoom : Bool → Lanes → (ℕ → List ℕ) → Type 0
HasRoom bits l E = Room l.starts.now l.cur.now (view_of bits l.out.now) E

-- lanes of bytes or of bits were put a load, and are the same lanes: they start where they did, in the same buffers
pub record Puts (bits : Bool) (old new : Lanes) (E : ℕ → List ℕ) : Type 0 where
  pub starts : new.starts ≡ old.starts
  pub cur : new.cur.ghost_name ≡ old.cur.ghost_name
  pub out : new.out.ghost_name ≡ old.out.ghost_name
  pub load : Put old.starts.now old.cur.now (view_of bits old.out.now) new.cur.now (view_of bits new.out.now) E

-- a load was counted, and what is asked for that
pub record Countable (cur : List ℕ) (E : ℕ → List ℕ) : Type 0 where
  pub most : (e : ℕ) → e < length cur → get_or cur e 0 + length (E e) < 2 ^ 32

pub record Counted (cur cur' : List ℕ) (E : ℕ → List ℕ) : Type 0 where
  pub curs : length cur' ≡ length cur
  pub counts : (e : ℕ) → e < length cur → get_or cur' e 0 ≡ get_or cur e 0 + length (E e)

-- ---- full lanes

-- the first n lanes of a load, one behind the other
abbrev pub upto : (ℕ → List ℕ) → ℕ → List ℕ
upto E zero = []
upto E (suc n) = upto E n ++ E n

-- the sum of the first n numbers
abbrev pub total : List ℕ → ℕ → ℕ
total l zero = 0
total l (suc n) = total l n + get_or l n 0

-- where the lanes start that have these counts
pub record Started (counts st : List ℕ) : Type 0 where
  pub count : length st ≡ suc (length counts)
  pub sums : (e : ℕ) → e ≤ length counts → get_or st e 0 ≡ total counts e
