-- `grid::Grid::look` and `quarters` meet their contracts: each way out is one law of `Laws.Looked`, and the quarters of a split square are looked at
-- where counting ones leads.
use mathlib.Core.Path.{◌≡◌, refl, sym, ap, ◌∙◌}
use mathlib.Core.Bool.{true, false, ◌&&◌}
use mathlib.Core.List.{List}
use lib.Dec.{eqb}
use borrow.Author.Tests.{eqb-true, eq-eqb}
use Rattle.coding.proofs.Laws.Lists.{no_bit, and_left, and_right}
use Rattle.squares.specs.declared.Pair.{Pair}
use Rattle.grid.specs.declared.check.square.Square.{Square}
use Prim.Native.Nat.{ℕ, suc, ◌+◌, ◌*◌, ◌-◌, ◌/◌, ◌%◌, ◌^◌, ◌<◌}
use native.Mathlib.Omega.{arith}
use lib.ListN.{get_or}
use Rattle.coding.specs.Bits.{ones_before}
use Rattle.survey.specs.declared.sides.Side.{Side}
use Rattle.survey.specs.Reading.{lists_in, survey_in}
use Rattle.survey.specs.Square.{bounds_at}
use Rattle.survey.proofs.Laws.Cells.{none_rows, none_columns}
use Rattle.squares.specs.Pair.{pair_of}
use Rattle.std.specs.Prelude.{None}
use Rattle.grid.specs.Claims.{Fit}
use Rattle.grid.specs.Test.{Quarters, Quartered}
use Rattle.grid.proofs.Laws.Places.{drop_is, rise_is, mark_is, ones_are, row_in, row_past, column_in, column_past, row_low, column_low}
use Rattle.grid.proofs.Laws.Looked.{looked_none, looked_fault, looked_level, looked_close, looked_split, says-quarter, above_is, fit_move, four}
use Rattle.grid.proofs.Grid.+look.Goals as goal
use Rattle.grid.proofs.Grid.+look.Goals.{look-After-of_depth-side, look-Else-self-s-2, look-After-entry-rise, quarters-After-eq, look-then-self-s-via-then-self-s, look-then-self-s-via-else-self-s+then-self-s-2, look-then-s-eq0-via-then-s-eq0, look-then-s-eq0-via-else-s-eq0+then-not-get}

-- whether two pairs are the same is asked by their fields
same_pair : {p q : Pair} → eqb p.hi q.hi && eqb p.lo q.lo ≡ true → p ≡ q
same_pair {p} {q} e =
    let g = eqb-true p.hi q.hi (and_left (eqb p.hi q.hi) (eqb p.lo q.lo) e) in
    let l = eqb-true p.lo q.lo (and_right (eqb p.hi q.hi) (eqb p.lo q.lo) e) in
    λ i. record { hi = g i; lo = l i }

pair_same : {p q : Pair} → p ≡ q → eqb p.hi q.hi && eqb p.lo q.lo ≡ true
pair_same {p} {q} e = rw (eq-eqb p.hi q.hi (ap (λ (r : Pair). r.hi) e), eq-eqb p.lo q.lo (ap (λ (r : Pair). r.lo) e)) refl

-- ---- look

side_is : (t : ℕ) (c : look-After-of_depth-side t) → c.of_depth-side.result.side ≡ 2 ^ c.args.s.depth
side_is t c = ap (λ (s : Side). s.side) c.of_depth-side.ensures

drop : (t : ℕ) (c : look-After-of_depth-side t) → c.entry-drop.result ≡ get_or (lists_in c.args.self.now.file.now).lmax c.args.s.place 0
drop t c = drop_is c.args.self.now.opened c.args.s.place c.entry-drop.ensures.0

pub look-returns-then-self-s : goal.look-returns-then-self-s
look-returns-then-self-s t c =
    let p = (goal.at.look-returns-then-self-s t c).After-of_depth-side in
    let A = survey_in c.args.self.now.file.now in
    let L = lists_in c.args.self.now.file.now in
    let s = c.args.s in
    let d = c.of_depth-side.result.side in
    elim c.then-self-s.branch [
      | look-then-self-s-via-then-self-s w ↦
          looked_none A L s.depth s.place c.args.parent.hi c.args.parent.lo s.row s.column c.bare.result
          (none_rows A s.depth s.row s.column (row_past c.args.self.now.opened s.row s.depth d (side_is t p) w.if-self-s.true)) c.bare.ensures
      | look-then-self-s-via-else-self-s+then-self-s-2 w ↦
          looked_none A L s.depth s.place c.args.parent.hi c.args.parent.lo s.row s.column c.bare.result
          (none_columns A s.depth s.row s.column (column_past c.args.self.now.opened s.column s.depth d (side_is t p) w.if-self-s-2.true)) c.bare.ensures
    ]

-- a square with a real cell
in_rows : (t : ℕ) (c : look-Else-self-s-2 t) → c.args.s.row * 2 ^ c.args.s.depth < (survey_in c.args.self.now.file.now).rows
in_rows t c =
    row_in c.args.self.now.opened c.args.s.row c.args.s.depth c.of_depth-side.result.side (ap (λ (s : Side). s.side) c.of_depth-side.ensures) c.if-self-s.false

in_columns : (t : ℕ) (c : look-Else-self-s-2 t) → c.args.s.column * 2 ^ c.args.s.depth < (survey_in c.args.self.now.file.now).columns
in_columns t c =
    column_in c.args.self.now.opened c.args.s.column c.args.s.depth c.of_depth-side.result.side (ap (λ (s : Side). s.side) c.of_depth-side.ensures)
    c.if-self-s-2.false

pub look-returns-then-parent-drop : goal.look-returns-then-parent-drop
look-returns-then-parent-drop t c =
    let e = (goal.at.look-returns-then-parent-drop t c).Else-self-s-2 in
    let d = drop t (goal.at.look-returns-then-parent-drop t c).After-of_depth-side in
    looked_fault (survey_in c.args.self.now.file.now) (lists_in c.args.self.now.file.now) (in_rows t e) (in_columns t e) (λ p q. omega (arith, d, c.if-parent-drop.true))

pub look-returns-then-v-parent : goal.look-returns-then-v-parent
look-returns-then-v-parent t c =
    let e = (goal.at.look-returns-then-v-parent t c).Else-self-s-2 in
    let d = drop t (goal.at.look-returns-then-v-parent t c).After-of_depth-side in
    looked_fault (survey_in c.args.self.now.file.now) (lists_in c.args.self.now.file.now) (in_rows t e) (in_columns t e) (λ p q. omega (arith, d, c.if-v-parent.true))

pub look-returns-then-s-eq0 : goal.look-returns-then-s-eq0
look-returns-then-s-eq0 t c =
    let e = (goal.at.look-returns-then-s-eq0 t c).Else-self-s-2 in
    let d = drop t (goal.at.look-returns-then-s-eq0 t c).After-of_depth-side in
    let even : (c.args.s.depth ≡ 0 → ⊥) → get_or (lists_in c.args.self.now.file.now).split_marks c.args.s.place false ≡ false =
    λ n. elim c.then-s-eq0.branch [
      | look-then-s-eq0-via-then-s-eq0 w ↦ absurd (n w.if-s-eq0.true)
      | look-then-s-eq0-via-else-s-eq0+then-not-get w ↦
          sym (mark_is c.args.self.now.opened c.args.s.place w.get.ensures) ∙ w.if-not-get.true
    ] in
    looked_level (survey_in c.args.self.now.file.now) (lists_in c.args.self.now.file.now) (ap (λ (n : ℕ). c.args.parent.hi - n) d) (in_rows t e) (in_columns t e) c.requires
    even (omega (arith, d, c.if-parent-drop.false)) (omega (arith, d, c.if-v-parent.false))

-- ---- a split square

marked : (t : ℕ) (c : look-After-entry-rise t) → get_or (lists_in c.args.self.now.file.now).split_marks c.args.s.place false ≡ true
marked t c = sym (mark_is c.args.self.now.opened c.args.s.place c.get.ensures) ∙ c.if-not-get.false

ones_is : (t : ℕ) (c : look-After-entry-rise t) → c.ones_before-ones.result ≡ ones_before (lists_in c.args.self.now.file.now).split_marks c.args.s.place
ones_is t c = ones_are c.args.self.now.opened c.args.s.place c.ones_before-ones.ensures.0

rise : (t : ℕ) (c : look-After-entry-rise t)
    → c.entry-rise.result ≡ get_or (lists_in c.args.self.now.file.now).lmin (ones_before (lists_in c.args.self.now.file.now).split_marks c.args.s.place) 0
rise t c =
    rise_is c.args.self.now.opened c.ones_before-ones.result c.entry-rise.ensures.0
    ∙ ap (λ (n : ℕ). get_or (lists_in c.args.self.now.file.now).lmin n 0) (ones_is t c)

pub look-returns-then-v-parent-2 : goal.look-returns-then-v-parent-2
look-returns-then-v-parent-2 t c =
    let u = (goal.at.look-returns-then-v-parent-2 t c).After-entry-rise in
    let d = drop t (goal.at.look-returns-then-v-parent-2 t c).After-of_depth-side in
    looked_close (survey_in c.args.self.now.file.now) (lists_in c.args.self.now.file.now) c.if-s-eq0.false (marked t u) (omega (arith, d, rise t u, c.if-v-parent-2.true))

pub look-quarters-requires : goal.look-quarters-requires
look-quarters-requires t c =
    let e = (goal.at.look-quarters-requires t c).Else-self-s-2 in
    let u = (goal.at.look-quarters-requires t c).After-entry-rise in
    let d = drop t (goal.at.look-quarters-requires t c).After-of_depth-side in
    let s = c.args.s in (
      omega (arith, c.decreases),
      (
        (
          omega (arith, c.if-s-eq0.false),
          row_low c.args.self.now.opened s.row s.depth (in_rows t e),
          column_low c.args.self.now.opened s.column s.depth (in_columns t e),
          omega (arith, c.ones_before-ones.ensures.1),
        ),
        λ i b.
            says-quarter (survey_in c.args.self.now.file.now) (lists_in c.args.self.now.file.now) s.depth s.place c.args.parent.hi s.row s.column i b c.if-s-eq0.false (marked t u)
            (ones_is t u) (ap (λ (n : ℕ). c.args.parent.hi - n) d) refl refl refl c.requires,
      ),
    )

pub look-returns : goal.look-returns
look-returns t c =
    let u = (goal.at.look-returns t c).After-entry-rise in
    let d = drop t (goal.at.look-returns t c).After-of_depth-side in
    let s = c.args.s in
    looked_split (survey_in c.args.self.now.file.now) (lists_in c.args.self.now.file.now) s.depth s.place c.args.parent.hi c.args.parent.lo s.row s.column c.quarters.result
    c.if-s-eq0.false (marked t u) (omega (arith, d, c.if-parent-drop.false)) (ap (λ (n : ℕ). c.args.parent.hi - n) d) (ap (λ (n : ℕ). c.args.parent.lo + n) (rise t u))
    (omega (arith, c.if-v-parent-2.false)) (ap (λ (n : ℕ). 4 * (n + 1)) (ones_is t u)) c.quarters.ensures

-- ---- quarters

-- one quarter that does not fit is enough
one_short : (f : List ℕ) (s : Square) (first : ℕ) (own : Pair) (i : ℕ) {d z y x : ℕ} → i < 4 → d ≡ s.depth - 1 → z ≡ first + i → y ≡ 2 * s.row + i / 2 → x ≡ 2 * s.column + i % 2
    → (Fit (survey_in f) (lists_in f) d z own.hi own.lo y x → ⊥) → Quartered (survey_in f) (lists_in f) (s.depth - 1) first own s.row s.column None
one_short f s first own i h p q u v n g e = n (fit_move (survey_in f) (lists_in f) (sym p) (sym q) (sym u) (sym v) (g i h))

pub quarters-returns-in_err-a : goal.quarters-returns-in_err-a
quarters-returns-in_err-a t c =
    let q = c.quarter.ensures in
    rw c.from_residual.ensures (one_short c.args.self.now.file.now c.args.s c.args.first c.args.own 0 (omega arith) q.depth q.place q.row q.column c.in_err-a.ensures)

pub quarters-returns-in_err-b : goal.quarters-returns-in_err-b
quarters-returns-in_err-b t c =
    let q = c.quarter-2.ensures in
    rw c.from_residual-in_err-b.ensures (one_short c.args.self.now.file.now c.args.s c.args.first c.args.own 1 (omega arith) q.depth q.place q.row q.column c.in_err-b.ensures)

pub quarters-returns-in_err-c : goal.quarters-returns-in_err-c
quarters-returns-in_err-c t c =
    let q = c.quarter-3.ensures in
    rw c.from_residual-in_err-c.ensures (one_short c.args.self.now.file.now c.args.s c.args.first c.args.own 2 (omega arith) q.depth q.place q.row q.column c.in_err-c.ensures)

pub quarters-returns-in_err-d : goal.quarters-returns-in_err-d
quarters-returns-in_err-d t c =
    let q = c.quarter-4.ensures in
    rw c.from_residual-in_err-d.ensures (one_short c.args.self.now.file.now c.args.s c.args.first c.args.own 3 (omega arith) q.depth q.place q.row q.column c.in_err-d.ensures)

-- the four fit, and make the pair above
all : (t : ℕ) (c : quarters-After-eq t) → Quarters (survey_in c.args.self.now.file.now) (lists_in c.args.self.now.file.now) (c.args.s.depth - 1) c.args.first c.args.own c.args.s.row c.args.s.column
all t c =
    let A = survey_in c.args.self.now.file.now in
    let L = lists_in c.args.self.now.file.now in
    let p = c.quarter.ensures in
    let q = c.quarter-2.ensures in
    let u = c.quarter-3.ensures in
    let v = c.quarter-4.ensures in
    four A L c.args.first c.args.s.row c.args.s.column (fit_move A L p.depth p.place p.row p.column c.in_ok-a.ensures.0) (fit_move A L q.depth q.place q.row q.column c.in_ok-b.ensures.0)
    (fit_move A L u.depth u.place u.row u.column c.in_ok-c.ensures.0) (fit_move A L v.depth v.place v.row v.column c.in_ok-d.ensures.0)

made : (t : ℕ) (c : quarters-After-eq t) → c.above.result ≡ pair_of (bounds_at (survey_in c.args.self.now.file.now) (suc (c.args.s.depth - 1)) c.args.s.row c.args.s.column)
made t c =
    let A = survey_in c.args.self.now.file.now in
    let p = c.quarter.ensures in
    let q = c.quarter-2.ensures in
    let u = c.quarter-3.ensures in
    let v = c.quarter-4.ensures in
    c.above.ensures
    ∙ above_is A (lists_in c.args.self.now.file.now) (c.args.s.depth - 1) c.args.s.row c.args.s.column c.args.first c.args.own _ (omega arith) (all t c)
    (c.in_ok-a.ensures.1 ∙ (λ i. pair_of (bounds_at A (p.depth i) (p.row i) (p.column i))))
    (c.in_ok-b.ensures.1 ∙ (λ i. pair_of (bounds_at A (q.depth i) (q.row i) (q.column i))))
    (c.in_ok-c.ensures.1 ∙ (λ i. pair_of (bounds_at A (u.depth i) (u.row i) (u.column i))))
    (c.in_ok-d.ensures.1 ∙ (λ i. pair_of (bounds_at A (v.depth i) (v.row i) (v.column i))))

pub quarters-returns-then-eq : goal.quarters-returns-then-eq
quarters-returns-then-eq t c =
    let p = (goal.at.quarters-returns-then-eq t c).After-eq in
    (all t p, sym (made t p) ∙ same_pair (sym c.if-eq.ensures), refl)

pub quarters-returns : goal.quarters-returns
quarters-returns t c =
    let p = (goal.at.quarters-returns t c).After-eq in
    λ f e. no_bit (sym (pair_same (made t p ∙ e)) ∙ sym c.if-eq.ensures)
