-- A file is accepted exactly if it is the stored form of some survey within the limits, and then of one survey only; and every level that went in comes out.
-- Assumes nothing.
use mathlib.Core.Path.{◌≡◌, refl, sym, ap, ap₂, ◌∙◌}
use mathlib.Core.Bool.{Bool, true, ◌&&◌}
use mathlib.Core.List.{List, ◌++◌}
use Prim.Native.Nat.{ℕ, zero, suc, ◌-◌, ◌≤◌, ◌<◌}
use native.Mathlib.Omega.{arith}
use lib.Dec.{leb, ltb}
use borrow.Author.Tests.{le-leb, lt-ltb}
use Rattle.coding.specs.Sections.{same}
use Rattle.coding.proofs.Laws.Lists.{and_left, and_right, and_both}
use Rattle.coding.proofs.Laws.Sections.{same_eq, eq_same}
use Rattle.survey.specs.Level.{is_level}
use Rattle.survey.specs.Raster.{Raster, side_limit, in_limits, every_to, is_survey}
use Rattle.survey.specs.Sides.{depth_for, depth_of}
use Rattle.survey.specs.Square.{Square, square, quarter, around, bounds_of, greatest_or, least_or, is_uneven}
use Rattle.survey.specs.Order.{Shape, kids_if, form}
use Rattle.survey.specs.Tree.{squares, lists_from, lists_of}
use Rattle.survey.specs.File.{heading, list_sections, file_of}
use Rattle.survey.specs.Reading.{survey_in, is_file}
use Rattle.survey.proofs.Laws.Squares.{bounds_same, real_same}
use Rattle.survey.proofs.Laws.Reading.{Survey, is_survey_lem, SameSurvey, one_survey, rows_back, columns_back, level_back}

-- ---- the stored form goes by the real cells alone

module _ (A B : Raster) (h : SameSurvey A B) where
  bounds_eq : (s : Square) → bounds_of A s ≡ bounds_of B s
  unfolding bounds_of
  bounds_eq s =
      bounds_same A B s.depth s.row s.column (record { rows = h.rows; columns = h.columns; level = λ y x p q e. h.level y x e })

  squares_eq : squares A ≡ squares B
  squares_eq = λ i. record {
    mark = λ s. is_uneven (bounds_eq s i);
    kid = quarter;
    dmax = λ s. greatest_or 0 (bounds_eq (around s) i) - greatest_or (greatest_or 0 (bounds_eq (around s) i)) (bounds_eq s i);
    dmin = λ s. least_or (least_or 0 (bounds_eq (around s) i)) (bounds_eq s i) - least_or 0 (bounds_eq (around s) i);
  }

  lists_from_lem : (D : ℕ) → lists_from A D ≡ lists_from B D
  lists_from_lem zero = refl
  lists_from_lem (suc k) = ap (λ (S : Shape Square). form S k (kids_if S (S.mark (square (suc k) 0 0)) (square (suc k) 0 0))) squares_eq

  depth_eq : depth_of A ≡ depth_of B
  depth_eq = ap₂ depth_for h.rows h.columns

  lists_eq : lists_of A ≡ lists_of B
  unfolding lists_of
  lists_eq = lists_from_lem (depth_of A) ∙ ap (lists_from B) depth_eq

  whole_eq : bounds_of A (square (depth_of A) 0 0) ≡ bounds_of B (square (depth_of B) 0 0)
  whole_eq = bounds_eq (square (depth_of A) 0 0) ∙ ap (λ (d : ℕ). bounds_of B (square d 0 0)) depth_eq

  pub file_same : file_of A ≡ file_of B
  unfolding file_of
  file_same = λ i.
      heading (h.rows i) (h.columns i) (greatest_or 0 (whole_eq i)) (least_or 0 (whole_eq i)) ++ list_sections (lists_eq i)

-- ---- surveys within the limits

every_of : (n : ℕ) (f : ℕ → Bool) → ((i : ℕ) → i < n → f i ≡ true) → every_to n f ≡ true
every_of zero f h = refl
every_of (suc n) f h = and_both (every_to n f) (f n) (every_of n f (λ i g. h i (omega arith))) (h n (omega arith))

limits_of : (n : ℕ) → 1 ≤ n → n ≤ side_limit → in_limits n ≡ true
limits_of n h g = and_both (leb 1 n) (leb n side_limit) (le-leb 1 n h) (le-leb n side_limit g)

pub survey_is : (A : Raster) → Survey A → is_survey A ≡ true
unfolding is_survey
survey_is A s =
    let f = every_to A.rows (λ y. every_to A.columns (λ x. is_level (A.level y x))) in
    and_both (in_limits A.rows) (in_limits A.columns && f) (limits_of A.rows s.some_rows s.most_rows)
    (and_both (in_limits A.columns) f (limits_of A.columns s.some_columns s.most_columns)
    (every_of A.rows (λ y. every_to A.columns (λ x. is_level (A.level y x)))
    (λ y h. every_of A.columns (λ x. is_level (A.level y x))
    (λ x g. s.level y x (and_both (ltb y A.rows) (ltb x A.columns) (lt-ltb y A.rows h) (lt-ltb x A.columns g))))))

-- ---- the laws

-- what a stored form says is the survey
pub survey_back : (A : Raster) → Survey A → SameSurvey (survey_in (file_of A)) A
unfolding survey_in
survey_back A s = record {
  rows = rows_back A;
  columns = columns_back A;
  level = λ y x e. level_back A s y x (sym (real_same (survey_in (file_of A)) A y x (rows_back A) (columns_back A)) ∙ e);
}

pub survey_of : (A : Raster) → Survey A → Survey (survey_in (file_of A))
survey_of A s =
    let b = survey_back A s in
    record {
      some_rows = rw b.rows s.some_rows;
      most_rows = rw b.rows s.most_rows;
      some_columns = rw b.columns s.some_columns;
      most_columns = rw b.columns s.most_columns;
      level = λ y x e. ap is_level (b.level y x e) ∙ s.level y x (sym (real_same (survey_in (file_of A)) A y x b.rows b.columns) ∙ e);
    }

-- f is the stored form of a survey within the limits
pub record Stored (f : List ℕ) : Type 0 where
  pub survey : Raster
  pub within : Survey survey
  pub stored : f ≡ file_of survey

-- of an accepted file, the survey that it says
pub file_survey : (f : List ℕ) → is_file f ≡ true → Survey (survey_in f)
unfolding is_file
file_survey f e = is_survey_lem (survey_in f) (and_left (is_survey (survey_in f)) (same (file_of (survey_in f)) f) e)

pub file_stored : (f : List ℕ) → is_file f ≡ true → file_of (survey_in f) ≡ f
unfolding is_file
file_stored f e = same_eq (file_of (survey_in f)) f (and_right (is_survey (survey_in f)) (same (file_of (survey_in f)) f) e)

-- THE LAW: accepted exactly if it is one
pub accepted : (f : List ℕ) → is_file f ≡ true → Stored f
accepted f e = record { survey = survey_in f; within = file_survey f e; stored = sym (file_stored f e) }

pub stored_accepted : (f : List ℕ) → Stored f → is_file f ≡ true
unfolding is_file
stored_accepted f t =
    let A = t.survey in
    let e : survey_in f ≡ survey_in (file_of t.survey) = ap survey_in t.stored in
    and_both (is_survey (survey_in f)) (same (file_of (survey_in f)) f) (ap is_survey e ∙ survey_is (survey_in (file_of A)) (survey_of A t.within))
    (eq_same (file_of (survey_in f)) f (ap file_of e ∙ file_same (survey_in (file_of A)) A (survey_back A t.within) ∙ sym t.stored))

-- and then of one survey only
pub accepted_one : (f : List ℕ) (s t : Stored f) → SameSurvey s.survey t.survey
accepted_one f s t = one_survey s.survey t.survey s.within t.within (sym s.stored ∙ t.stored)
