-- What a file opened says of its survey: rows and columns, which are within the limits, and what stands in its lists.
-- Assumes nothing.
use mathlib.Core.Path.{◌≡◌, ap, ◌∙◌}
use mathlib.Core.Bool.{Bool, true, false}
use mathlib.Core.List.{List}
use Prim.Native.Nat.{ℕ, ◌*◌, ◌^◌, ◌≤◌, ◌<◌}
use native.Mathlib.Nat.{mul-le-mul_left}
use native.Mathlib.Omega.{arith}
use lib.ListN.{get_or}
use lib.Pow.{pow_pos}
use lib.Dec.{leb}
use borrow.Author.Tests.{leb-true}
use Rattle.coding.specs.Bits.{ones_before}
use Rattle.coding.proofs.Laws.Lists.{and_left, and_right}
use Rattle.squares.specs.declared.Pair.{Pair}
use Rattle.survey.specs.Raster.{in_limits, side_limit}
use Rattle.survey.specs.Reading.{rows_in, columns_in, lists_in, survey_in}
use Rattle.grid.specs.Test.{IsParted, Opened}
use Rattle.grid.proofs.Laws.Sound.{is_headed_lem}

limits : (n : ℕ) → in_limits n ≡ true → (1 ≤ n) × (n ≤ side_limit)
limits n e = (leb-true 1 n (and_left (leb 1 n) (leb n side_limit) e), leb-true n side_limit (and_right (leb 1 n) (leb n side_limit) e))

module _ (f : List ℕ) where
  pub rows_are : {n : ℕ} → n ≡ rows_in f → n ≡ (survey_in f).rows
  unfolding survey_in
  rows_are e = e

  pub columns_are : {n : ℕ} → n ≡ columns_in f → n ≡ (survey_in f).columns
  unfolding survey_in
  columns_are e = e

  pub rows_within : IsParted f → (1 ≤ (survey_in f).rows) × ((survey_in f).rows ≤ side_limit)
  unfolding survey_in
  rows_within p = limits (rows_in f) (is_headed_lem f p.headed).rows

  pub columns_within : IsParted f → (1 ≤ (survey_in f).columns) × ((survey_in f).columns ≤ side_limit)
  unfolding survey_in
  columns_within p = limits (columns_in f) (is_headed_lem f p.headed).columns

-- ---- what is read of the file, where the grid was opened

module _ {f : List ℕ} {rows columns depth : ℕ} {bounds : Pair} {split : List Bool} {max min : List ℕ} (o : Opened f rows columns depth bounds split max min) where
  pub drop_is : (z : ℕ) {n : ℕ} → n ≡ get_or max z 0 → n ≡ get_or (lists_in f).lmax z 0
  drop_is z e = e ∙ ap (λ (l : List ℕ). get_or l z 0) o.lists.max_is

  pub rise_is : (z : ℕ) {n : ℕ} → n ≡ get_or min z 0 → n ≡ get_or (lists_in f).lmin z 0
  rise_is z e = e ∙ ap (λ (l : List ℕ). get_or l z 0) o.lists.min_is

  pub mark_is : (z : ℕ) {b : Bool} → b ≡ get_or split z false → b ≡ get_or (lists_in f).split_marks z false
  mark_is z e = e ∙ ap (λ (l : List Bool). get_or l z false) o.lists.split_is

  pub marks_are : split ≡ (lists_in f).split_marks
  marks_are = o.lists.split_is

  pub ones_are : (z : ℕ) {n : ℕ} → n ≡ ones_before split z → n ≡ ones_before (lists_in f).split_marks z
  ones_are z e = e ∙ ap (λ (l : List Bool). ones_before l z) marks_are

  -- a test of the code, in rows or columns of the survey
  pub row_in : (r k side : ℕ) → side ≡ 2 ^ k → r * side < rows → r * 2 ^ k < (survey_in f).rows
  row_in r k side e h = omega (arith, rows_are f o.rows_are, ap (λ (s : ℕ). r * s) e)

  pub row_past : (r k side : ℕ) → side ≡ 2 ^ k → rows ≤ r * side → (survey_in f).rows ≤ r * 2 ^ k
  row_past r k side e h = omega (arith, rows_are f o.rows_are, ap (λ (s : ℕ). r * s) e)

  pub column_in : (c k side : ℕ) → side ≡ 2 ^ k → c * side < columns → c * 2 ^ k < (survey_in f).columns
  column_in c k side e h = omega (arith, columns_are f o.columns_are, ap (λ (s : ℕ). c * s) e)

  pub column_past : (c k side : ℕ) → side ≡ 2 ^ k → columns ≤ c * side → (survey_in f).columns ≤ c * 2 ^ k
  column_past c k side e h = omega (arith, columns_are f o.columns_are, ap (λ (s : ℕ). c * s) e)

  -- a row or column of squares of which one has a real cell
  pub row_low : (r k : ℕ) → r * 2 ^ k < (survey_in f).rows → r < side_limit
  row_low r k h = omega (arith, (rows_within f o.parted).1, mul-le-mul_left r (pow_pos k))

  pub column_low : (c k : ℕ) → c * 2 ^ k < (survey_in f).columns → c < side_limit
  column_low c k h = omega (arith, (columns_within f o.parted).1, mul-le-mul_left c (pow_pos k))

  -- its lists
  pub lists_are : record { split_marks = split; lmax = max; lmin = min } ≡ lists_in f
  lists_are =
      let l = o.lists in
      λ i. record { split_marks = l.split_is i; lmax = l.max_is i; lmin = l.min_is i }
