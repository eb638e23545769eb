-- A file opened, and what the test of it has found.
-- Assumes nothing.
use Rattle.std.specs.Prelude.{◌≡◌, Bool, true, false, ◌&&◌, List, ℕ, suc, ◌+◌, ◌*◌, ◌/◌, ◌%◌, ◌<◌, eqb, leb, length, get_or, drop, Option, Some, None}
use Rattle.coding.specs.Bytes.{number}
use Rattle.coding.specs.Bits.{ones}
use Rattle.coding.specs.Sections.{bit_section, bits_at, packed, list_at, starts_bits, starts_list}
use Rattle.squares.specs.Pair.{pair_of}
use Rattle.squares.specs.declared.Pair.{Pair}
use Rattle.survey.specs.Level.{is_level}
use Rattle.survey.specs.Raster.{Raster, in_limits}
use Rattle.survey.specs.Sides.{most_entries, depth_for}
use Rattle.survey.specs.Square.{none, span, bounds_at}
use Rattle.survey.specs.Order.{Lists}
use Rattle.survey.specs.Standing.{Sized, start_of}
use Rattle.survey.specs.Reading.{rows_in, columns_in, greatest_in, least_in, lists_in}
use Rattle.grid.specs.Claims.{Fit}

-- the heading is one of a survey within the limits
unfoldable pub is_headed : List ℕ → Bool
is_headed f =
    leb 20 (length f)
    && (eqb (number f) 4
    && (in_limits (rows_in f) && (in_limits (columns_in f) && (is_level (greatest_in f) && is_level (least_in f)))))

-- the sections of a file with such a heading: T from 20 to a, Lmax from a to b, Lmin from b to the end
pub record Parted (f : List ℕ) (a b : ℕ) : Type 0 where
  pub headed : is_headed f ≡ true
  pub marks : starts_bits (drop 20 f) ≡ true
  pub marks_end : a ≡ 20 + length (bit_section (bits_at (drop 20 f)))
  pub max : starts_list (drop a f) ≡ true
  pub max_end : b ≡ a + length (packed (list_at (drop a f)))
  pub min : starts_list (drop b f) ≡ true
  pub min_end : length f ≡ b + length (packed (list_at (drop b f)))

-- where T ends, and where Lmax does
abbrev pub end_of_marks : List ℕ → ℕ
end_of_marks f = 20 + length (bit_section (bits_at (drop 20 f)))

abbrev pub end_of_max : List ℕ → ℕ
end_of_max f = end_of_marks f + length (packed (list_at (drop (end_of_marks f) f)))

-- a file with such a heading and sections
abbrev pub IsParted : List ℕ → Type 0
IsParted f = Parted f (end_of_marks f) (end_of_max f)

-- these are its lists
pub record AreLists (f : List ℕ) (split : List Bool) (max min : List ℕ) : Type 0 where
  pub split_is : split ≡ (lists_in f).split_marks
  pub max_is : max ≡ (lists_in f).lmax
  pub min_is : min ≡ (lists_in f).lmin

-- the depth of its side
abbrev pub depth_in : List ℕ → ℕ
depth_in f = depth_for (rows_in f) (columns_in f)

-- the file opened
pub record Opened (f : List ℕ) (rows columns depth : ℕ) (bounds : Pair) (split : List Bool) (max min : List ℕ) : Type 0 where
  pub bytes : (i : ℕ) → i < length f → get_or f i 0 < 256
  pub parted : IsParted f
  pub rows_are : rows ≡ rows_in f
  pub columns_are : columns ≡ columns_in f
  pub depth_is : depth ≡ depth_in f
  pub greatest_is : bounds.hi ≡ greatest_in f
  pub least_is : bounds.lo ≡ least_in f
  pub lists : AreLists f split max min

-- what the test found at a square is so: it fits, and this is its pair, or it does not fit
abbrev pub Looked : Raster → Lists → ℕ → ℕ → ℕ → ℕ → ℕ → ℕ → Option Pair → Type 0
Looked A L k z g l r c None = Fit A L k z g l r c → ⊥
Looked A L k z g l r c (Some p) = Fit A L k z g l r c × (p ≡ pair_of (bounds_at A k r c))

-- the whole square of depth h + 1 has greatest g and least l, and its quarters fit
pub record Whole (A : Raster) (L : Lists) (h g l : ℕ) : Type 0 where
  pub lengths : Sized L h
  pub pair_is : bounds_at A (1 + h) 0 0 ≡ span g l
  pub parts : (i : ℕ) → i < 4 → Fit A L h i g l (i / 2) (i % 2)

-- whether the lists have the lengths of four squares and the h levels below them
unfoldable pub is_sized : Lists → ℕ → Bool
is_sized L h =
    eqb (length L.split_marks) (start_of L.split_marks h 0)
    && (eqb (length L.lmax) (start_of L.split_marks (1 + h) 0) && eqb (length L.lmin) (ones L.split_marks))

-- whether they are no longer than those of a tree of depth h + 1 can be
unfoldable pub is_short : ℕ → ℕ → ℕ → ℕ → Bool
is_short h split max min = leb split (most_entries h) && (leb max (most_entries (1 + h)) && leb min (most_entries h))

-- what is found of a square without real cells at place z
abbrev pub Bare : Lists → ℕ → ℕ → Option Pair → Type 0
Bare L k z None = get_or L.lmax z 0 ≡ 0 → (k ≡ 0 → ⊥) × (get_or L.split_marks z false ≡ true)
Bare L k z (Some p) = (get_or L.lmax z 0 ≡ 0) × ((k ≡ 0 → ⊥) → get_or L.split_marks z false ≡ false) × (p ≡ pair_of none)

-- the quarters, of depth k, fit of the square in this row and column of which the first stands at `first`
abbrev pub Quarters : Raster → Lists → ℕ → ℕ → Pair → ℕ → ℕ → Type 0
Quarters A L k first own r c = (i : ℕ) → i < 4 → Fit A L k (first + i) own.hi own.lo (2 * r + i / 2) (2 * c + i % 2)

-- what is found of the square, from its quarters: they fit and make its pair, or not
abbrev pub Quartered : Raster → Lists → ℕ → ℕ → Pair → ℕ → ℕ → Option Pair → Type 0
Quartered A L k first own r c None = Quarters A L k first own r c → pair_of (bounds_at A (suc k) r c) ≡ own → ⊥
Quartered A L k first own r c (Some p) = Quarters A L k first own r c × (pair_of (bounds_at A (suc k) r c) ≡ own) × (p ≡ own)

-- whether the whole square of depth h + 1 is found to fit
pub record Wholly (A : Raster) (L : Lists) (h g l : ℕ) (ok : Bool) : Type 0 where
  pub fits : ok ≡ true → Whole A L h g l
  pub unfit : ok ≡ false → Whole A L h g l → ⊥
