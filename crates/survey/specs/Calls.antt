-- The calls on grids: which refusal they give, what they return, and what a lent buffer holds afterwards, for every input.
-- Assumes nothing.
use Rattle.std.specs.Prelude.{◌≡◌, Bool, true, ◌&&◌, not, List, [], ◌∷◌, ℕ, zero, suc, ◌*◌, eqb, ltb, ℤ, pos, length}
use Rattle.coding.specs.declared.Amount.{Amount}
use Rattle.coding.specs.Calls.{refuse, first_of, written_of, buffer_of}
use Rattle.survey.specs.Level.{raised, lowered, is_level}
use Rattle.survey.specs.Raster.{Raster, raster_of, is_real, in_limits}
use Rattle.survey.specs.Square.{greatest_or, least_or}
use Rattle.survey.specs.File.{file_of, greatest_of, least_of}
use Rattle.survey.specs.Reading.{survey_in, is_file}
use Rattle.survey.specs.Window.{Window, is_window, levels_in}
use Rattle.survey.specs.Key.{listed_in}
use Rattle.survey.specs.Summary.{count_in, sum_in, bounds_in, mean_of}
use Rattle.survey.specs.Change.{threshold_of, patched}
use Rattle.survey.specs.declared.Heading.{Heading}
use Rattle.survey.specs.declared.Level.{Level}
use Rattle.survey.specs.declared.Totals.{Totals}

-- whether every lent level is one
abbrev pub all_levels : List ℤ → Bool
all_levels [] = true
all_levels (z ∷ s) = is_level (raised z) && all_levels s

-- ---- build: 1, 2, 6

unfoldable pub build_refusal : List ℤ → ℕ → ℕ → ℕ
build_refusal s rows columns =
    first_of
    (refuse 1 (not (in_limits rows && (in_limits columns && eqb (length s) (rows * columns)))) ∷ refuse 2 (not (all_levels s)) ∷ [])

pub record Builds (s : List ℤ) (rows columns : ℕ) (old : List ℕ) (r : Amount) (new : List ℕ) : Type 0 where
  pub answer : r ≡ written_of (build_refusal s rows columns) (length (file_of (raster_of s rows columns))) (length old)
  pub buffer : new ≡ buffer_of (build_refusal s rows columns) (file_of (raster_of s rows columns)) old

-- ---- test: 3

-- every call on a file refuses first what is no stored form
abbrev pub no_file : List ℕ → Bool
no_file f = not (is_file f)

abbrev pub heading_of : ℕ → Raster → Heading
heading_of zero A = record {
  refusal = 0;
  rows = A.rows;
  columns = A.columns;
  greatest = lowered (greatest_of A);
  least = lowered (least_of A);
}
heading_of (suc n) A = record { refusal = suc n; rows = 0; columns = 0; greatest = pos 0; least = pos 0 }

unfoldable pub test_refusal : List ℕ → ℕ
test_refusal f = first_of (refuse 3 (no_file f) ∷ [])

pub record Tests (f : List ℕ) (r : Heading) : Type 0 where
  pub answer : r ≡ heading_of (test_refusal f) (survey_in f)

-- ---- cell: 3, 4

unfoldable pub cell_refusal : List ℕ → ℕ → ℕ → ℕ
cell_refusal f y x = first_of (refuse 3 (no_file f) ∷ refuse 4 (not (is_real (survey_in f) y x)) ∷ [])

abbrev pub level_of : ℕ → ℕ → Level
level_of zero v = record { refusal = 0; level = lowered v }
level_of (suc n) v = record { refusal = suc n; level = pos 0 }

pub record ReadsCell (f : List ℕ) (y x : ℕ) (r : Level) : Type 0 where
  pub answer : r ≡ level_of (cell_refusal f y x) ((survey_in f).level y x)

-- ---- window read: 3, 4, 6

unfoldable pub window_refusal : List ℕ → Window → ℕ
window_refusal f w = first_of (refuse 3 (no_file f) ∷ refuse 4 (not (is_window (survey_in f) w)) ∷ [])

pub record ReadsWindow (f : List ℕ) (w : Window) (old : List ℤ) (r : Amount) (new : List ℤ) : Type 0 where
  pub answer : r ≡ written_of (window_refusal f w) (length (levels_in (survey_in f) w)) (length old)
  pub buffer : new ≡ buffer_of (window_refusal f w) (levels_in (survey_in f) w) old

-- ---- list: 3, 4, 5, 6

unfoldable pub list_refusal : List ℕ → Window → ℤ → ℤ → ℕ
list_refusal f w lo hi =
    first_of
    (refuse 3 (no_file f) ∷ refuse 4 (not (is_window (survey_in f) w)) ∷ refuse 5 (ltb (raised hi) (raised lo)) ∷ [])

pub record ListsCells (f : List ℕ) (w : Window) (lo hi : ℤ) (old : List ℕ) (r : Amount) (new : List ℕ) : Type 0 where
  pub answer : r ≡ written_of (list_refusal f w lo hi) (length (listed_in (survey_in f) w (raised lo) (raised hi))) (length old)
  pub buffer : new ≡ buffer_of (list_refusal f w lo hi) (listed_in (survey_in f) w (raised lo) (raised hi)) old

-- ---- summary: 3, 4

abbrev pub totals_of : ℕ → Raster → Window → Totals
totals_of zero A w = record {
  refusal = 0;
  count = count_in w;
  sum = sum_in A w;
  greatest = lowered (greatest_or 0 (bounds_in A w));
  least = lowered (least_or 0 (bounds_in A w));
  mean = mean_of (sum_in A w) (count_in w);
}
totals_of (suc n) A w = record { refusal = suc n; count = 0; sum = pos 0; greatest = pos 0; least = pos 0; mean = pos 0 }

pub record Summarizes (f : List ℕ) (w : Window) (r : Totals) : Type 0 where
  pub answer : r ≡ totals_of (window_refusal f w) (survey_in f) w

-- ---- threshold: 3, 6

pub record Thresholds (f : List ℕ) (t : ℤ) (old : List ℕ) (r : Amount) (new : List ℕ) : Type 0 where
  pub answer : r ≡ written_of (test_refusal f) (length (file_of (threshold_of (raised t) (survey_in f)))) (length old)
  pub buffer : new ≡ buffer_of (test_refusal f) (file_of (threshold_of (raised t) (survey_in f))) old

-- ---- patch: 3, 4, 1, 2, 6

unfoldable pub patch_refusal : List ℕ → Window → List ℤ → ℕ
patch_refusal f w s =
    first_of
    (refuse 3 (no_file f)
    ∷ refuse 4 (not (is_window (survey_in f) w))
    ∷ refuse 1 (not (eqb (length s) (count_in w)))
    ∷ refuse 2 (not (all_levels s))
    ∷ [])

pub record Patches (f : List ℕ) (w : Window) (s : List ℤ) (old : List ℕ) (r : Amount) (new : List ℕ) : Type 0 where
  pub answer : r ≡ written_of (patch_refusal f w s) (length (file_of (patched (survey_in f) w s))) (length old)
  pub buffer : new ≡ buffer_of (patch_refusal f w s) (file_of (patched (survey_in f) w s)) old
