-- The soundings of paper 01 that are marked P, as one table about the definitions; one proof covers it, by computing both columns.
-- Assumes nothing.
use mathlib.Core.Path.{◌≡◌, refl}
use mathlib.Core.List.{List, [], ◌∷◌, map}
use Prim.Native.Nat.{ℕ}
use lib.IntN.{ℤ, pos, negsuc}
use lib.ListN.{length}
use Rattle.coding.specs.Bytes.{word, number}
use Rattle.coding.specs.Bits.{bit, value_of, pack_bytes, pack_bits, digits, all_bits}
use Rattle.coding.specs.Lists.{parts_of, entries_of}
use Rattle.coding.specs.Sections.{byte_section, bit_section, sections_of, packed, bytes_at, after_bytes, bits_at, after_bits, parts_at, list_at, same}
use Rattle.coding.specs.Calls.{written_of}
use Rattle.survey.specs.Level.{raised}
use Rattle.survey.specs.Raster.{Raster, raster_of, is_survey}
use Rattle.survey.specs.Sides.{depth_for}
use Rattle.survey.specs.Square.{bounds_of}
use Rattle.survey.specs.Tree.{lists_of}
use Rattle.survey.specs.File.{greatest_of, least_of, heading, list_sections, file_of}
use Rattle.survey.specs.Reading.{lists_in, level_in, survey_in, is_file}
use Rattle.survey.specs.Window.{Window, window}
use Rattle.survey.specs.Key.{listed_in}
use Rattle.survey.specs.Summary.{sum_in, mean_of}
use Rattle.survey.specs.Change.{threshold_of, patched}
use Rattle.survey.specs.Calls.{build_refusal, patch_refusal, test_refusal}

-- what is computed, and what the paper says
pub record Sounding : Type 0 where
  pub got : List ℕ
  pub want : List ℕ

◌is◌ : List ℕ → List ℕ → Sounding
got is want = record { got = got; want = want }

infix 20 ◌is◌
-- ---- the rasters

pair : ℤ → ℤ → Raster
pair a b = raster_of (a ∷ b ∷ []) 1 2

two : List ℤ
two = pos 3 ∷ pos 1 ∷ pos 2 ∷ pos 5 ∷ []

grid_c : List ℤ
grid_c = pos 5 ∷ pos 5 ∷ pos 7 ∷ pos 5 ∷ pos 5 ∷ pos 7 ∷ pos 5 ∷ pos 5 ∷ pos 9 ∷ []

C : Raster
C = raster_of grid_c 3 3

all : Window
all = window 0 0 3 3

corner : Window
corner = window 0 0 1 1

-- ---- what is asked of them

-- the answer of build into 100 bytes: the refusal's number, and the length
built : List ℤ → ℕ → ℕ → List ℕ
built s rows columns =
    let r = written_of (build_refusal s rows columns) (length (file_of (raster_of s rows columns))) 100 in
    r.refusal ∷ r.amount ∷ []

marks : Raster → List ℕ
marks A = map bit (lists_of A).split_marks

-- grid C with its corner patched to 6
six : Raster
six = patched C corner (pos 6 ∷ [])

-- ---- the table

pub table : List Sounding
table =
    -- 1×1, -7; 0×1
    (built (negsuc 6 ∷ []) 1 1 is 0 ∷ 64 ∷ [])
    ∷ (built [] 0 1 is 1 ∷ 0 ∷ [])
    -- 2×2, 3 1 / 2 5
    ∷ (marks (raster_of two 2 2) is [])
    ∷ ((lists_of (raster_of two 2 2)).lmax is 2 ∷ 4 ∷ 3 ∷ 0 ∷ [])
    ∷ ((lists_of (raster_of two 2 2)).lmin is [])
    ∷ (built two 2 2 is 0 ∷ 69 ∷ [])
    -- grid C
    ∷ (marks C is 0 ∷ 0 ∷ 0 ∷ 0 ∷ [])
    ∷ ((lists_of C).lmax is 4 ∷ 2 ∷ 4 ∷ 0 ∷ [])
    ∷ (built grid_c 3 3 is 0 ∷ 70 ∷ [])
    ∷ (listed_in C all (raised (pos 7)) (raised (pos 9)) is 2 ∷ 5 ∷ 8 ∷ [])
    -- grid C, its corner patched to 6, and back to 5
    ∷ (marks six is 1 ∷ 0 ∷ 0 ∷ 0 ∷ [])
    ∷ ((lists_of six).lmax is 3 ∷ 2 ∷ 4 ∷ 0 ∷ 0 ∷ 1 ∷ 1 ∷ 1 ∷ [])
    ∷ ((lists_of six).lmin is 0 ∷ [])
    ∷ (length (file_of six) ∷ [] is 76 ∷ [])
    ∷ (file_of (patched six corner (pos 5 ∷ [])) is file_of C)
    ∷ (length (file_of (patched six corner (pos 5 ∷ []))) ∷ [] is 70 ∷ [])
    -- grid C, thresholds 7, 5 and 10
    ∷ (greatest_of (threshold_of (raised (pos 7)) C) ∷ least_of (threshold_of (raised (pos 7)) C) ∷ [] is raised (pos 1) ∷ raised (pos 0) ∷ [])
    ∷ (marks (threshold_of (raised (pos 7)) C) is 0 ∷ 0 ∷ 0 ∷ 0 ∷ [])
    ∷ ((lists_of (threshold_of (raised (pos 7)) C)).lmax is 1 ∷ 0 ∷ 1 ∷ 0 ∷ [])
    ∷ (length (file_of (threshold_of (raised (pos 5)) C)) ∷ least_of (threshold_of (raised (pos 5)) C) ∷ [] is 64 ∷ raised (pos 1) ∷ [])
    ∷ (length (file_of (threshold_of (raised (pos 10)) C)) ∷ greatest_of (threshold_of (raised (pos 10)) C) ∷ [] is 64 ∷ raised (pos 0) ∷ [])
    -- 1×2, 0 and 256; 0 and 65,536
    ∷ ((parts_of (lists_of (pair (pos 0) (pos 256))).lmax).first is 0 ∷ 0 ∷ 0 ∷ 0 ∷ [])
    ∷ (map bit (parts_of (lists_of (pair (pos 0) (pos 256))).lmax).more is 1 ∷ 0 ∷ 0 ∷ 0 ∷ [])
    ∷ ((parts_of (lists_of (pair (pos 0) (pos 256))).lmax).second is 1 ∷ [])
    ∷ (built (pos 0 ∷ pos 256 ∷ []) 1 2 is 0 ∷ 71 ∷ [])
    ∷ (built (pos 0 ∷ pos 65536 ∷ []) 1 2 is 0 ∷ 72 ∷ [])
    -- the mean of -1 and 0: the sum is -1, the count 2
    ∷ (raised (sum_in (pair (negsuc 0) (pos 0)) (window 0 0 1 2)) ∷ [] is raised (negsuc 0) ∷ [])
    ∷ (raised (mean_of (sum_in (pair (negsuc 0) (pos 0)) (window 0 0 1 2)) 2) ∷ [] is raised (pos 0) ∷ [])
    ∷ []

pub soundings : map (λ (s : Sounding). s.got) table ≡ map (λ (s : Sounding). s.want) table
unfolding table ◌is◌ pair two grid_c C all corner built marks six word number value_of pack_bytes pack_bits digits all_bits parts_of entries_of byte_section bit_section sections_of packed bytes_at after_bytes bits_at after_bits parts_at list_at same is_survey depth_for bounds_of lists_of heading list_sections file_of lists_in level_in survey_in is_file listed_in sum_in mean_of build_refusal patch_refusal test_refusal
soundings = refl
