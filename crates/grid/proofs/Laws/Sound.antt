-- The file test as a whole: a file is the stored form of some survey exactly if its heading and sections are whole and its squares fit.
-- Assumes nothing.
use mathlib.Core.Path.{◌≡◌, refl, sym, ap, ap₂, ◌∙◌, subst}
use mathlib.Core.Bool.{Bool, true, false, ◌&&◌, not}
use mathlib.Core.List.{List, [], ◌∷◌, ◌++◌, append_assoc, append-nil}
use Prim.Native.Nat.{ℕ, zero, suc, ◌+◌, ◌-◌, ◌≤◌, ◌<◌}
use native.Mathlib.Numerals.{one-add}
use native.Mathlib.Omega.{arith}
use lib.Dec.{eqb, leb, ltb}
use lib.ListN.{length, take, drop, length-append, length-drop, take-append-drop}
use lib.Seq.{drop-drop, drop_at, drop-length}
use borrow.Author.Tests.{eqb-true, eq-eqb, leb-true, le-leb, ltb-true, lt-ltb}
use Rattle.coding.specs.Bytes.{word, number}
use Rattle.coding.specs.Bits.{pack_bytes, pack_bits}
use Rattle.coding.specs.Lists.{parts_of}
use Rattle.coding.specs.Sections.{byte_section, bit_section, packed, sections_of, bits_at, after_bits, list_at, starts_bits, starts_list}
use Rattle.coding.proofs.Laws.Packing.{Bytes}
use Rattle.coding.proofs.Laws.Lists.{no_bit, and_left, and_right, and_both}
use Rattle.coding.proofs.Laws.Items.{length-packed}
use Rattle.coding.proofs.Laws.Sections.{number_word, word_number, is_starts, starts_bits_lem, starts_list_lem, bits_front, bits_after, list_front, list_after, length-bit_section, bytes_drop}
use Rattle.survey.specs.Level.{turned, is_level, lowest_level, highest_level}
use Rattle.survey.specs.Raster.{Raster, is_real, in_limits, side_limit}
use Rattle.survey.specs.Sides.{depth_for, depth_of, most_entries}
use Rattle.survey.specs.Square.{Bounds, none, span, bounds_if, bounds_at, bounds_of, greatest_or, least_or, is_uneven}
use Rattle.survey.specs.Order.{Lists, no_lists}
use Rattle.survey.specs.Tree.{lists_from, lists_of}
use Rattle.survey.specs.File.{greatest_of, least_of, heading, list_sections, file_of}
use Rattle.survey.specs.Reading.{rows_in, columns_in, greatest_in, least_in, after_list, lists_in, way_to, level_from, level_in, survey_in, is_file}
use Rattle.survey.proofs.Laws.Reading.{Survey, sections_back, lists_back, greatest_read, least_read, in_whole, whole_inside, bounds_levels}
use Rattle.survey.proofs.Laws.Cells.{alike_bounds}
use Rattle.survey.proofs.Laws.Sides.{side_covers, block_zero}
use Rattle.survey.proofs.Laws.Lengths.{Short, lists_short, lists_even}
use Rattle.survey.proofs.Laws.Squares.{Inside, Proper, proper, some_bounds}
use Rattle.survey.proofs.Laws.Accepting.{stored_accepted, file_survey, file_stored}
use Rattle.grid.specs.Test.{is_headed, Parted, IsParted, AreLists, end_of_marks, end_of_max, Whole, Wholly, is_short}
use Rattle.grid.proofs.Laws.Claims.{lists_tested, tested_lists}

-- ---- the heading

pub record Headed (f : List ℕ) : Type 0 where
  pub long : 20 ≤ length f
  pub four : number f ≡ 4
  pub rows : in_limits (rows_in f) ≡ true
  pub columns : in_limits (columns_in f) ≡ true
  pub greatest : is_level (greatest_in f) ≡ true
  pub least : is_level (least_in f) ≡ true

pub is_headed_lem : (f : List ℕ) → is_headed f ≡ true → Headed f
unfolding is_headed
is_headed_lem f e =
    let a = leb 20 (length f) in
    let b = eqb (number f) 4 in
    let c = in_limits (rows_in f) in
    let d = in_limits (columns_in f) in
    let g = is_level (greatest_in f) in
    let l = is_level (least_in f) in
    let e1 = and_right a (b && (c && (d && (g && l)))) e in
    let e2 = and_right b (c && (d && (g && l))) e1 in
    let e3 = and_right c (d && (g && l)) e2 in
    let e4 = and_right d (g && l) e3 in
    record {
      long = leb-true 20 (length f) (and_left a (b && (c && (d && (g && l)))) e);
      four = eqb-true (number f) 4 (and_left b (c && (d && (g && l))) e1);
      rows = and_left c (d && (g && l)) e2;
      columns = and_left d (g && l) e3;
      greatest = and_left g l e4;
      least = and_right g l e4;
    }

pub headed_is : (f : List ℕ) → Headed f → is_headed f ≡ true
unfolding is_headed
headed_is f h = rw (le-leb 20 (length f) h.long, eq-eqb (number f) 4 h.four, h.rows, h.columns, h.greatest, h.least) refl

-- the bytes of a heading, from the numbers that they say
heading-word : (f : List ℕ) → Bytes f → (n : ℕ) → n + 4 ≤ length f → word (number (drop n f)) ≡ take 4 (drop n f)
heading-word f b n h = word_number (drop n f) (bytes_drop n f b) (omega (arith, length-drop n f))

pub number_fits : (s : List ℕ) → Bytes s → 4 ≤ length s → number s < 4294967296
unfolding number
number_fits s b h =
    omega (arith, b 0 (omega arith), b 1 (omega arith), b 2 (omega arith), b 3 (omega arith))

turned_twice : (v : ℕ) → v < 4294967296 → turned (turned v) ≡ v
turned_twice v h = omega arith

five_words : (a b c d e r : List ℕ) → (a ++ (b ++ (c ++ (d ++ e)))) ++ r ≡ a ++ (b ++ (c ++ (d ++ (e ++ r))))
five_words a b c d e r = simp append_assoc

cut : (f : List ℕ) (n m : ℕ) → n + 4 ≡ m → take 4 (drop n f) ++ drop m f ≡ drop n f
cut f n m e = ap (λ r. take 4 (drop n f) ++ r) (ap (λ k. drop k f) (sym e) ∙ sym (drop-drop 4 n f)) ∙ take-append-drop 4 (drop n f)

-- a file is its heading and what stands behind it
pub headed_file : (f : List ℕ) → Bytes f → Headed f → f ≡ heading (rows_in f) (columns_in f) (greatest_in f) (least_in f) ++ drop 20 f
unfolding heading
headed_file f b h =
    let w : (n : ℕ) → n + 4 ≤ 20 → word (number (drop n f)) ≡ take 4 (drop n f) = λ n g. heading-word f b n (omega (arith, h.long)) in
    let t : (n : ℕ) → n + 4 ≤ 20 → turned (turned (number (drop n f))) ≡ number (drop n f) = λ n g.
    turned_twice (number (drop n f)) (number_fits (drop n f) (bytes_drop n f b) (omega (arith, length-drop n f, h.long))) in
    let a0 : word 4 ≡ take 4 f = ap word (sym h.four) ∙ w 0 (omega arith) in
    let a4 : word (rows_in f) ≡ take 4 (drop 4 f) = w 4 (omega arith) in
    let a8 : word (columns_in f) ≡ take 4 (drop 8 f) = w 8 (omega arith) in
    let a12 : word (turned (greatest_in f)) ≡ take 4 (drop 12 f) = ap word (t 12 (omega arith)) ∙ w 12 (omega arith) in
    let a16 : word (turned (least_in f)) ≡ take 4 (drop 16 f) = ap word (t 16 (omega arith)) ∙ w 16 (omega arith) in
    let r = drop 20 f in
    sym (five_words (word 4) (word (rows_in f)) (word (columns_in f)) (word (turned (greatest_in f))) (word (turned (least_in f))) r
    ∙ ap₂ (λ (x y : List ℕ). x ++ y) a0
    (ap₂ (λ (x y : List ℕ). x ++ y) a4
    (ap₂ (λ (x y : List ℕ). x ++ y) a8
    (ap₂ (λ (x y : List ℕ). x ++ y) a12 (ap (λ x. x ++ r) a16 ∙ cut f 16 20 refl) ∙ cut f 12 16 refl) ∙ cut f 8 12 refl) ∙ cut f 4 8 refl)
    ∙ cut f 0 4 refl)

-- ---- the sections

-- three sections one behind the other, with nothing behind them
module _ (f : List ℕ) (L : Lists) (e : drop 20 f ≡ list_sections L) where
  rest : drop 20 f ≡ bit_section L.split_marks ++ (packed L.lmax ++ packed L.lmin)
  unfolding list_sections
  rest = e

  marks_are : bits_at (drop 20 f) ≡ L.split_marks
  marks_are = ap bits_at rest ∙ bits_front L.split_marks (packed L.lmax ++ packed L.lmin)

  after_marks : drop (end_of_marks f) f ≡ packed L.lmax ++ packed L.lmin
  after_marks =
      sym (drop-drop (length (bit_section (bits_at (drop 20 f)))) 20 f) ∙ ap (drop (length (bit_section (bits_at (drop 20 f))))) rest
      ∙ drop_at (bit_section L.split_marks) (packed L.lmax ++ packed L.lmin) (length (bit_section (bits_at (drop 20 f)))) (sym (ap (λ l. length (bit_section l)) marks_are))

  max_is : list_at (drop (end_of_marks f) f) ≡ L.lmax
  max_is = ap list_at after_marks ∙ list_front L.lmax (packed L.lmin)

  after_max : drop (end_of_max f) f ≡ packed L.lmin
  after_max =
      sym (drop-drop (length (packed (list_at (drop (end_of_marks f) f)))) (end_of_marks f) f) ∙ ap (drop (length (packed (list_at (drop (end_of_marks f) f))))) after_marks
      ∙ drop_at (packed L.lmax) (packed L.lmin) (length (packed (list_at (drop (end_of_marks f) f)))) (sym (ap (λ l. length (packed l)) max_is))

  min_is : list_at (drop (end_of_max f) f) ≡ L.lmin
  min_is = ap list_at (after_max ∙ sym (append-nil (packed L.lmin))) ∙ list_front L.lmin []

  pub sections_parted : is_headed f ≡ true → Parted f (end_of_marks f) (end_of_max f)
  unfolding starts_bits starts_list
  sections_parted h =
      let long = (is_headed_lem f h).long in
      record {
        headed = h;
        marks = is_starts (drop 20 f) (bit_section (bits_at (drop 20 f))) (packed L.lmax ++ packed L.lmin) (rest ∙ ap (λ l. bit_section l ++ (packed L.lmax ++ packed L.lmin)) (sym marks_are));
        marks_end = refl;
        max = is_starts (drop (end_of_marks f) f) (packed (list_at (drop (end_of_marks f) f))) (packed L.lmin) (after_marks ∙ ap (λ l. packed l ++ packed L.lmin) (sym max_is));
        max_end = refl;
        min = is_starts (drop (end_of_max f) f) (packed (list_at (drop (end_of_max f) f))) [] (after_max ∙ ap packed (sym min_is) ∙ sym (append-nil (packed (list_at (drop (end_of_max f) f)))));
        min_end =
            omega (
              arith,
              length-drop 20 f,
              ap length rest,
              length-append (bit_section L.split_marks) (packed L.lmax ++ packed L.lmin),
              length-append (packed L.lmax) (packed L.lmin),
              ap (λ (l : List Bool). length (bit_section l)) marks_are,
              ap (λ (l : List ℕ). length (packed l)) max_is,
              ap (λ (l : List ℕ). length (packed l)) min_is,
            );
      }

-- and back: the lists of a file with such sections, and that they are all that stands behind the heading
module _ (f : List ℕ) (a b : ℕ) (p : Parted f a b) where
  long : 20 ≤ length f
  long = (is_headed_lem f p.headed).long

  marks_first : drop 20 f ≡ bit_section (bits_at (drop 20 f)) ++ drop a f
  unfolding after_bits
  marks_first =
      let w = starts_bits_lem (drop 20 f) p.marks in
      let n = length (bit_section (bits_at (drop 20 f))) in
      let e : after_bits (drop 20 f) ≡ drop a f =
      ap (λ (k : ℕ). drop k (drop 20 f)) (sym w.size) ∙ drop-drop n 20 f ∙ ap (λ (k : ℕ). drop k f) (sym p.marks_end) in
      w.is ∙ ap (λ x. bit_section (bits_at (drop 20 f)) ++ x) e

  max_first : drop a f ≡ packed (list_at (drop a f)) ++ drop b f
  max_first =
      let w = starts_list_lem (drop a f) p.max in
      w.is ∙ ap (λ x. packed (list_at (drop a f)) ++ x) (drop-drop (length (packed (list_at (drop a f)))) a f ∙ ap (λ (k : ℕ). drop k f) (sym p.max_end))

  min_only : drop b f ≡ packed (list_at (drop b f))
  min_only =
      let w = starts_list_lem (drop b f) p.min in
      let n = length (packed (list_at (drop b f))) in
      let e : drop (length (packed (list_at (drop b f)))) (drop b f) ≡ [] =
      drop-drop n b f ∙ ap (λ (k : ℕ). drop k f) (sym p.min_end) ∙ drop-length f in
      w.is ∙ ap (λ x. packed (list_at (drop b f)) ++ x) e ∙ append-nil (packed (list_at (drop b f)))

  after_first : after_bits (drop 20 f) ≡ drop a f
  after_first = ap after_bits marks_first ∙ bits_after (bits_at (drop 20 f)) (drop a f)

  after_second : after_list (drop a f) ≡ drop b f
  after_second = ap after_list max_first ∙ list_after (list_at (drop a f)) (drop b f)

  pub parted_lists : lists_in f ≡ record { split_marks = bits_at (drop 20 f); lmax = list_at (drop a f); lmin = list_at (drop b f) }
  unfolding lists_in
  parted_lists = λ i. record {
    split_marks = bits_at (drop 20 f);
    lmax = list_at (after_first i);
    lmin = list_at ((ap after_list after_first ∙ after_second) i);
  }

  pub parted_sections : drop 20 f ≡ list_sections (lists_in f)
  unfolding list_sections
  parted_sections =
      marks_first ∙ ap (λ x. bit_section (bits_at (drop 20 f)) ++ x) (max_first ∙ ap (λ x. packed (list_at (drop a f)) ++ x) min_only)
      ∙ sym (ap list_sections parted_lists)

  -- the file of a raster with this heading and these lists is the file
  pub parted_file : Bytes f → (A : Raster) → A.rows ≡ rows_in f → A.columns ≡ columns_in f → greatest_of A ≡ greatest_in f → least_of A ≡ least_in f
      → lists_of A ≡ lists_in f → file_of A ≡ f
  unfolding file_of
  parted_file y A r c g l e =
      (λ i. heading (r i) (c i) (g i) (l i) ++ list_sections (e i)) ∙ ap (λ x. heading (rows_in f) (columns_in f) (greatest_in f) (least_in f) ++ x) (sym parted_sections)
      ∙ sym (headed_file f y (is_headed_lem f p.headed))

-- ---- what an accepted file is

limits_of : (n : ℕ) → 1 ≤ n → n ≤ side_limit → in_limits n ≡ true
limits_of n h g = and_both (leb 1 n) (leb n side_limit) (le-leb 1 n h) (le-leb n side_limit g)

level_within : (q : Bounds) (v : ℕ) → Inside (span v v) q → Inside q (span highest_level lowest_level) → Proper q → (is_level (greatest_or 0 q) ≡ true) × (is_level (least_or 0 q) ≡ true)
level_within none v i j p = absurd i
level_within (span g l) v i j p = (
  and_both (leb lowest_level g) (leb g highest_level) (le-leb lowest_level g (omega arith)) (le-leb g highest_level (omega arith)),
  and_both (leb lowest_level l) (leb l highest_level) (le-leb lowest_level l (omega arith)) (le-leb l highest_level (omega arith)),
)

level_between : (g l v : ℕ) → is_level g ≡ true → is_level l ≡ true → Inside (span v v) (span g l) → is_level v ≡ true
level_between g l v p q i =
    let m = leb-true g highest_level (and_right (leb lowest_level g) (leb g highest_level) p) in
    let n = leb-true lowest_level l (and_left (leb lowest_level l) (leb l highest_level) q) in
    and_both (leb lowest_level v) (leb v highest_level) (le-leb lowest_level v (omega arith)) (le-leb v highest_level (omega arith))

long_file : (A : Raster) → 20 ≤ length (file_of A)
unfolding file_of heading word
long_file A = omega arith

four_file : (A : Raster) → number (file_of A) ≡ 4
unfolding file_of heading word
four_file A = number_word 4 _

even_length : (A : Raster) → lists_of A ≡ no_lists → length (file_of A) ≡ 64
unfolding file_of heading list_sections word packed sections_of parts_of byte_section bit_section pack_bits pack_bytes
even_length A e = rw e refl

module _ (f : List ℕ) (e : is_file f ≡ true) where
  abbrev B : Raster
  B = survey_in f

  within : Survey (survey_in f)
  within = file_survey f e

  is_stored : file_of (survey_in f) ≡ f
  is_stored = file_stored f e

  -- its first cell is real, so the whole square has bounds, which the heading has
  first_real : is_real (survey_in f) 0 0 ≡ true
  first_real =
      and_both (ltb 0 B.rows) (ltb 0 B.columns) (lt-ltb 0 B.rows within.some_rows) (lt-ltb 0 B.columns within.some_columns)

  abbrev D : ℕ
  D = depth_of B

  first_inside : Inside (span ((survey_in f).level 0 0) ((survey_in f).level 0 0)) (bounds_at (survey_in f) (depth_of (survey_in f)) 0 0)
  first_inside =
      let w = in_whole B within 0 0 first_real in
      whole_inside B (lists_in f) 0 0 first_real (depth_of B) w.0 w.1

  pub greatest_is : greatest_in f ≡ greatest_of (survey_in f)
  greatest_is = ap greatest_in (sym is_stored) ∙ greatest_read B within

  pub least_is : least_in f ≡ least_of (survey_in f)
  least_is = ap least_in (sym is_stored) ∙ least_read B within

  pub file_bounds : bounds_at (survey_in f) (depth_of (survey_in f)) 0 0 ≡ span (greatest_in f) (least_in f)
  unfolding bounds_of
  file_bounds =
      some_bounds (B.level 0 0) 0 0 (bounds_at B (depth_of B) 0 0) first_inside ∙ ap₂ (λ (g l : ℕ). span g l) (sym greatest_is) (sym least_is)

  pub file_lists : lists_in f ≡ lists_from (survey_in f) (depth_of (survey_in f))
  unfolding lists_of
  file_lists = ap lists_in (sym is_stored) ∙ lists_back B

  pub file_headed : is_headed f ≡ true
  unfolding survey_in bounds_of
  file_headed =
      let q = bounds_at B (depth_of B) 0 0 in
      let w = level_within q (B.level 0 0) first_inside (bounds_levels B within (depth_of B) 0 0) (proper B (depth_of B) 0 0) in
      headed_is f
      (record {
        long = subst (λ (x : List ℕ). 20 ≤ length x) is_stored (long_file B);
        four = sym (ap number is_stored) ∙ four_file B;
        rows = limits_of (rows_in f) within.some_rows within.most_rows;
        columns = limits_of (columns_in f) within.some_columns within.most_columns;
        greatest = ap is_level greatest_is ∙ w.0;
        least = ap is_level least_is ∙ w.1;
      })

  pub file_parted : Parted f (end_of_marks f) (end_of_max f)
  file_parted = sections_parted f (lists_of B) (ap (drop 20) (sym is_stored) ∙ sections_back B) file_headed

  -- a survey whose whole square is a single cell is even
  single : (D : ℕ) → D ≡ 0 → bounds_at (survey_in f) D 0 0 ≡ span (greatest_in f) (least_in f) → greatest_in f ≡ least_in f
  single zero d b = one_level (is_real B 0 0) first_real b
    where
      one_level : (r : Bool) → r ≡ true → bounds_if r ((survey_in f).level 0 0) ≡ span (greatest_in f) (least_in f) → greatest_in f ≡ least_in f
      one_level true h p = cc
      one_level false h p = no_bit (sym h)
  single (suc D) d b = absurd (omega arith)

  pub file_deep : (greatest_in f ≡ least_in f → ⊥) → depth_of (survey_in f) ≡ 0 → ⊥
  file_deep n d = n (single (depth_of B) d file_bounds)

  -- of an uneven survey: the whole square fits, and the lists are short
  pub file_whole : (h : ℕ) → depth_of (survey_in f) ≡ suc h → (greatest_in f ≡ least_in f → ⊥) → Whole (survey_in f) (lists_in f) h (greatest_in f) (least_in f)
  file_whole h d n =
      let b : bounds_at (survey_in f) (suc h) 0 0 ≡ span (greatest_in f) (least_in f) = subst (λ (k : ℕ). bounds_at B k 0 0 ≡ span (greatest_in f) (least_in f)) d file_bounds in
      let l : lists_in f ≡ lists_from (survey_in f) (suc h) = subst (λ (k : ℕ). lists_in f ≡ lists_from B k) d file_lists in
      let t = lists_tested B (lists_in f) h (greatest_in f) (least_in f) n b l in
      record { lengths = t.lengths; pair_is = rw one-add t.pair_is; parts = t.parts }

  pub file_short : (h : ℕ) → depth_of (survey_in f) ≡ suc h → Short (lists_in f) h
  file_short h d = subst (λ (L : Lists). Short L h) (sym (subst (λ (k : ℕ). lists_in f ≡ lists_from B k) d file_lists)) (lists_short B h)

  -- of an even survey: nothing is stored but the heading and eleven counts
  pub file_even : greatest_in f ≡ least_in f → length f ≡ 64
  unfolding bounds_of lists_of
  file_even g =
      let s : is_uneven (bounds_at (survey_in f) (depth_of (survey_in f)) 0 0) ≡ false = ap is_uneven file_bounds ∙ ap not (eq-eqb (greatest_in f) (least_in f) g) in
      let l : lists_of (survey_in f) ≡ no_lists = lists_even B (depth_of B) s in
      sym (ap length is_stored) ∙ even_length B l

-- ---- a file with a heading and sections that says a survey is its stored form

module _ (f : List ℕ) (a b : ℕ) (p : Parted f a b) (bytes : Bytes f) where
  abbrev H : Headed f
  H = is_headed_lem f p.headed

  most : (n : ℕ) → in_limits n ≡ true → (1 ≤ n) × (n ≤ side_limit)
  most n e = (leb-true 1 n (and_left (leb 1 n) (leb n side_limit) e), leb-true n side_limit (and_right (leb 1 n) (leb n side_limit) e))

  abbrev depth : ℕ
  depth = depth_for (rows_in f) (columns_in f)

  -- the raster that it says is within the limits, if its bounds are those of the heading
  survey_by : bounds_at (survey_in f) (depth_for (rows_in f) (columns_in f)) 0 0 ≡ span (greatest_in f) (least_in f) → Survey (survey_in f)
  unfolding survey_in
  survey_by e =
      let r = most (rows_in f) H.rows in
      let c = most (columns_in f) H.columns in
      let k = side_covers (rows_in f) (columns_in f) r.1 c.1 in
      record {
        some_rows = r.0;
        most_rows = r.1;
        some_columns = c.0;
        most_columns = c.1;
        level = λ y x q.
            let m : y < rows_in f = ltb-true y (rows_in f) (and_left (ltb y (rows_in f)) (ltb x (columns_in f)) q) in
            let n : x < columns_in f = ltb-true x (columns_in f) (and_right (ltb y (rows_in f)) (ltb x (columns_in f)) q) in
            let i : Inside (span (level_in f y x) (level_in f y x)) (bounds_at (survey_in f) (depth_for (rows_in f) (columns_in f)) 0 0) =
            whole_inside (survey_in f) (lists_in f) y x q depth (block_zero depth y (omega arith)) (block_zero depth x (omega arith)) in
            level_between (greatest_in f) (least_in f) (level_in f y x) H.greatest H.least
            (subst (λ (t : Bounds). Inside (span (level_in f y x) (level_in f y x)) t) e i);
      }

  -- with its bounds and its lists it is the file's
  file_by : bounds_at (survey_in f) (depth_for (rows_in f) (columns_in f)) 0 0 ≡ span (greatest_in f) (least_in f)
      → lists_from (survey_in f) (depth_for (rows_in f) (columns_in f)) ≡ lists_in f → is_file f ≡ true
  unfolding survey_in bounds_of lists_of
  file_by e l =
      stored_accepted f
      (record {
        survey = survey_in f;
        within = survey_by e;
        stored = sym (parted_file f a b p bytes (survey_in f) refl refl (ap (greatest_or 0) e) (ap (least_or 0) e) l);
      })

  pub whole_file : (h : ℕ) → depth_for (rows_in f) (columns_in f) ≡ suc h → (greatest_in f ≡ least_in f → ⊥)
      → Whole (survey_in f) (lists_in f) h (greatest_in f) (least_in f) → is_file f ≡ true
  whole_file h d n w =
      let q : bounds_at (survey_in f) (suc h) 0 0 ≡ span (greatest_in f) (least_in f) = rw one-add at w.pair_is in
      file_by (subst (λ (k : ℕ). bounds_at (survey_in f) k 0 0 ≡ span (greatest_in f) (least_in f)) (sym d) q)
      (subst (λ (k : ℕ). lists_from (survey_in f) k ≡ lists_in f) (sym d)
      (sym (tested_lists (survey_in f) (lists_in f) h (greatest_in f) (least_in f) n (record { lengths = w.lengths; pair_is = q; parts = w.parts }))))

  -- an even survey: all its levels are the heading's
  even_levels : greatest_in f ≡ least_in f → (y x : ℕ) → level_in f y x ≡ greatest_in f
  unfolding level_in
  even_levels g y x = from depth (not (eqb (greatest_in f) (least_in f))) (ap not (eq-eqb (greatest_in f) (least_in f) g))
    where
      from : (D : ℕ) (s : Bool) → s ≡ false → level_from (lists_in f) (way_to y x) D s (greatest_in f) ≡ greatest_in f
      from zero s h = refl
      from (suc k) s h = rw h refl

  empty : {A : Type 0} (l : List A) → length l ≡ 0 → l ≡ []
  empty [] e = refl
  empty (x ∷ l) e = absurd (omega arith)

  empty_lists : length f ≡ 64 → lists_in f ≡ no_lists
  empty_lists n =
      let split_marks = bits_at (drop 20 f) in
      let X = list_at (drop a f) in
      let Y = list_at (drop b f) in
      let x : length X ≡ 0 = omega (arith, p.marks_end, p.max_end, p.min_end, length-bit_section split_marks, length-packed X, length-packed Y) in
      let y : length Y ≡ 0 = omega (arith, p.marks_end, p.max_end, p.min_end, length-bit_section split_marks, length-packed X, length-packed Y) in
      let t : length split_marks ≡ 0 = omega (arith, p.marks_end, p.max_end, p.min_end, length-bit_section split_marks, length-packed X, length-packed Y) in
      parted_lists f a b p ∙ (λ i. record { split_marks = empty split_marks t i; lmax = empty X x i; lmin = empty Y y i })

  pub even_file : greatest_in f ≡ least_in f → length f ≡ 64 → is_file f ≡ true
  unfolding survey_in bounds_of
  even_file g n =
      let r = most (rows_in f) H.rows in
      let c = most (columns_in f) H.columns in
      let q : bounds_at (survey_in f) (depth_for (rows_in f) (columns_in f)) 0 0 ≡ span (greatest_in f) (greatest_in f) =
      alike_bounds (survey_in f) depth 0 0 (greatest_in f) (omega (arith, r.0)) (omega (arith, c.0)) (λ y x _ _ _. even_levels g y x) in
      let e : bounds_at (survey_in f) (depth_for (rows_in f) (columns_in f)) 0 0 ≡ span (greatest_in f) (least_in f) = q ∙ ap (λ (l : ℕ). span (greatest_in f) l) g in
      file_by e (lists_even (survey_in f) depth (ap is_uneven e ∙ ap not (eq-eqb (greatest_in f) (least_in f) g)) ∙ sym (empty_lists n))

-- ---- what the test says, from what it finds

pub refused : (f : List ℕ) → (is_file f ≡ true → ⊥) → false ≡ is_file f
refused f h = case (is_file f) h
  where
    case : (b : Bool) → (b ≡ true → ⊥) → false ≡ b
    case true g = absurd (g refl)
    case false g = refl

-- a heading says the depth of the side, a greatest and a least that are not the same
pub record Uneven (f : List ℕ) (depth top low : ℕ) : Type 0 where
  pub side : depth ≡ depth_for (rows_in f) (columns_in f)
  pub greatest : top ≡ greatest_in f
  pub least : low ≡ least_in f
  pub apart : top ≡ low → ⊥

module _ {f : List ℕ} {depth top low : ℕ} (u : Uneven f depth top low) where
  uneven : greatest_in f ≡ least_in f → ⊥
  uneven e = u.apart (u.greatest ∙ e ∙ sym u.least)

  depth_is : (h : ℕ) → depth ≡ h → depth_of (survey_in f) ≡ h
  unfolding survey_in
  depth_is h e = sym u.side ∙ e

  pub refused_flat : depth ≡ 0 → false ≡ is_file f
  refused_flat z = refused f (λ e. file_deep f e uneven (depth_is 0 z))

  pub refused_long : {marks max min : ℕ} → 0 < depth → length (lists_in f).split_marks ≡ marks → length (lists_in f).lmax ≡ max → length (lists_in f).lmin ≡ min
      → is_short (depth - 1) marks max min ≡ false → false ≡ is_file f
  unfolding is_short
  refused_long {marks} {max} {min} z t x y s =
      refused f (λ e.
      let k : depth ≡ suc (depth - 1) = omega arith in
      let w = file_short f e (depth - 1) (depth_is (suc (depth - 1)) k) in
      let m : 1 + (depth - 1) ≡ suc (depth - 1) = omega arith in
      no_bit
      (sym
      (and_both (leb marks (most_entries (depth - 1))) (leb max (most_entries (1 + (depth - 1))) && leb min (most_entries (depth - 1)))
      (le-leb marks (most_entries (depth - 1)) (omega (arith, w.t_short)))
      (and_both (leb max (most_entries (1 + (depth - 1)))) (leb min (most_entries (depth - 1)))
      (le-leb max (most_entries (1 + (depth - 1))) (omega (arith, w.max_short, ap most_entries m)))
      (le-leb min (most_entries (depth - 1)) (omega (arith, w.min_short)))))
      ∙ s))

  pub found_whole : {a b : ℕ} {ok : Bool} → 0 < depth → Parted f a b → Bytes f → Wholly (survey_in f) (lists_in f) (depth - 1) top low ok → ok ≡ is_file f
  found_whole {a} {b} {ok} z p y w =
      let k : depth ≡ suc (depth - 1) = omega arith in
      let v : Wholly (survey_in f) (lists_in f) (depth - 1) top (least_in f) ok = subst (λ (t : ℕ). Wholly (survey_in f) (lists_in f) (depth - 1) top t ok) u.least w in
      case ok (subst (λ (t : ℕ). Wholly (survey_in f) (lists_in f) (depth - 1) t (least_in f) ok) u.greatest v) k
    where
      case : (ok : Bool) → Wholly (survey_in f) (lists_in f) (depth - 1) (greatest_in f) (least_in f) ok → depth ≡ suc (depth - 1) → ok ≡ is_file f
      case true w k = sym (whole_file f a b p y (depth - 1) (sym u.side ∙ k) uneven (w.fits refl))
      case false w k = refused f (λ e. w.unfit refl (file_whole f e (depth - 1) (depth_is (suc (depth - 1)) k) uneven))

-- ---- the sections that are read one behind the other

module _ (f : List ℕ) where
  -- they part the file, if nothing is behind them
  pub read_parted : is_headed f ≡ true → starts_bits (drop 20 f) ≡ true → {s t : List ℕ} → s ≡ after_bits (drop 20 f) → starts_list s ≡ true
      → t ≡ drop (length (packed (list_at s))) s → starts_list t ≡ true → length (drop (length (packed (list_at t))) t) ≡ 0 → IsParted f
  unfolding after_bits
  read_parted h m {s} {t} p x q n z =
      let w = starts_bits_lem (drop 20 f) m in
      let e : s ≡ drop (end_of_marks f) f =
      p ∙ ap (λ (k : ℕ). drop k (drop 20 f)) (sym w.size) ∙ drop-drop (length (bit_section (bits_at (drop 20 f)))) 20 f in
      let g : t ≡ drop (end_of_max f) f =
      q ∙ ap (λ (r : List ℕ). drop (length (packed (list_at r))) r) e ∙ drop-drop (length (packed (list_at (drop (end_of_marks f) f)))) (end_of_marks f) f in
      let l = packed (list_at (drop (end_of_max f) f)) in
      let k : starts_list (drop (end_of_max f) f) ≡ true = ap starts_list (sym g) ∙ n in
      record {
        headed = h;
        marks = m;
        marks_end = refl;
        max = ap starts_list (sym e) ∙ x;
        max_end = refl;
        min = k;
        min_end =
            omega (
              arith,
              ap (λ (r : List ℕ). length (drop (length (packed (list_at r))) r)) (sym g),
              z,
              ap length (starts_list_lem (drop (end_of_max f) f) k).is,
              length-append l (drop (length l) (drop (end_of_max f) f)),
              length-drop (end_of_max f) f,
              length-packed (list_at (drop (end_of_max f) f)),
            );
      }

  -- and those that part it are read
  pub after_marks_is : IsParted f → {s : List ℕ} → s ≡ after_bits (drop 20 f) → s ≡ drop (end_of_marks f) f
  unfolding after_bits
  after_marks_is p e =
      let w = starts_bits_lem (drop 20 f) p.marks in
      e ∙ ap (λ (k : ℕ). drop k (drop 20 f)) (sym w.size) ∙ drop-drop (length (bit_section (bits_at (drop 20 f)))) 20 f

  pub after_max_is : {s t : List ℕ} → s ≡ drop (end_of_marks f) f → t ≡ drop (length (packed (list_at s))) s → t ≡ drop (end_of_max f) f
  after_max_is e q =
      q ∙ ap (λ (r : List ℕ). drop (length (packed (list_at r))) r) e ∙ drop-drop (length (packed (list_at (drop (end_of_marks f) f)))) (end_of_marks f) f

  pub nothing_left : IsParted f → {t r : List ℕ} → t ≡ drop (end_of_max f) f → r ≡ drop (length (packed (list_at t))) t → length r ≡ 0
  nothing_left p e q =
      let l = packed (list_at (drop (end_of_max f) f)) in
      ap length (q ∙ ap (λ (r : List ℕ). drop (length (packed (list_at r))) r) e)
      ∙ omega (arith, length-drop (length l) (drop (end_of_max f) f), length-drop (end_of_max f) f, p.min_end)

  -- what is read is the file's lists
  pub are_lists : IsParted f → {split : List Bool} {s t max min : List ℕ} → split ≡ bits_at (drop 20 f) → s ≡ drop (end_of_marks f) f → max ≡ list_at s
      → t ≡ drop (end_of_max f) f → min ≡ list_at t → AreLists f split max min
  are_lists p a e x g n =
      let l = parted_lists f (end_of_marks f) (end_of_max f) p in
      record {
        split_is = a ∙ sym (ap (λ (L : Lists). L.split_marks) l);
        max_is = x ∙ ap list_at e ∙ sym (ap (λ (L : Lists). L.lmax) l);
        min_is = n ∙ ap list_at g ∙ sym (ap (λ (L : Lists). L.lmin) l);
      }

-- of an even survey
pub found_even : {f : List ℕ} {a b top low : ℕ} → Parted f a b → Bytes f → top ≡ greatest_in f → low ≡ least_in f → top ≡ low → eqb (length f) 64 ≡ is_file f
found_even {f} {a} {b} p y g l e = case (eqb (length f) 64) refl
  where
    same-levels : greatest_in f ≡ least_in f
    same-levels = sym g ∙ e ∙ l

    case : (b : Bool) → eqb (length f) 64 ≡ b → b ≡ is_file f
    case true n = sym (even_file f a b p y same-levels (eqb-true (length f) 64 n))
    case false n = refused f (λ q. no_bit (sym (eq-eqb (length f) 64 (file_even f q same-levels)) ∙ n))
