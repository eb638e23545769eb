-- `coding::pack` meets its contract: each of the two refusals, too little room, and the list written.
use mathlib.Core.Path.{◌≡◌, refl}
use mathlib.Core.List.{List}
use Prim.Native.Nat.{ℕ, suc, ◌+◌, ◌≤◌, ◌<◌}
use native.Mathlib.Omega.{arith}
use lib.ListN.{length}
use lib.Seq.{sets}
use borrow.Author.Tests.{lt-ltb, le-ltb}
use Rattle.coding.specs.Lists.{list_limit, number_limit}
use Rattle.coding.specs.Sections.{packed}
use Rattle.coding.specs.Lanes.{count_from}
use Rattle.coding.specs.Calls.{pack_refusal, Packs}
use Rattle.coding.proofs.Laws.Items.{count_any, count_no, count_below, length-packed}
use Rattle.coding.proofs.pack.Goals as goal
use Rattle.coding.proofs.pack.Goals.{After-count_from-n3, After-div_ceil-2}

-- ---- the four ways in which packing ends

module _ (l : List ℕ) where
  refusal_long : list_limit < length l → pack_refusal l ≡ 1
  unfolding pack_refusal
  refusal_long h = rw (lt-ltb list_limit (length l) h) refl

  refusal_range : length l ≤ list_limit → 0 < count_from number_limit l → pack_refusal l ≡ 2
  unfolding pack_refusal
  refusal_range h g = rw (le-ltb list_limit (length l) h, count_any number_limit l g) refl

  no_refusal : length l ≤ list_limit → count_from number_limit l ≡ 0 → pack_refusal l ≡ 0
  unfolding pack_refusal
  no_refusal h g = rw (le-ltb list_limit (length l) h, count_no number_limit l g) refl

module _ (l old : List ℕ) where
  refused : (n : ℕ) → pack_refusal l ≡ suc n → Packs l old (record { refusal = suc n; amount = 0 }) old
  refused n e = record { answer = rw e refl; buffer = rw e refl }

  short : (n : ℕ) → pack_refusal l ≡ 0 → n ≡ length (packed l) → length old < n → Packs l old (record { refusal = 6; amount = n }) old
  short n e g h =
      let k : length old < length (packed l) = omega arith in
      record { answer = rw (e, g, lt-ltb (length old) (length (packed l)) k) refl; buffer = rw (e, lt-ltb (length old) (length (packed l)) k) refl }

  done : (n : ℕ) (new : List ℕ) → pack_refusal l ≡ 0 → n ≡ length (packed l) → n ≤ length old → new ≡ sets old 0 (packed l)
      → Packs l old (record { refusal = 0; amount = n }) new
  done n new e g h w =
      let k : length (packed l) ≤ length old = omega arith in
      record { answer = rw (e, g, le-ltb (length old) (length (packed l)) k) refl; buffer = rw (e, le-ltb (length old) (length (packed l)) k) w }

-- ---- the needs

pub returns-then-n-gt-LIST_LIMIT : goal.returns-then-n-gt-LIST_LIMIT
returns-then-n-gt-LIST_LIMIT c =
    let a = c.args in
    refused a.numbers.now a.out.now 0 (refusal_long a.numbers.now (omega arith))

pub returns-then-count_from-gt0 : goal.returns-then-count_from-gt0
returns-then-count_from-gt0 c =
    let a = c.args in
    let l = a.numbers.now in
    refused l a.out.now 1 (refusal_range l (omega arith) (omega (arith, c.count_from.ensures.0)))

-- where all is counted
none_large : (q : After-count_from-n3) → count_from number_limit q.args.numbers.now ≡ 0
none_large q = omega (arith, q.count_from.ensures.0)

none_refused : (q : After-count_from-n3) → pack_refusal q.args.numbers.now ≡ 0
none_refused q = no_refusal q.args.numbers.now (omega arith) (none_large q)

abbrev needed : After-div_ceil-2 → ℕ
needed q = 20 + length q.args.numbers.now + q.div_ceil.result + q.count_from-n2.result + q.div_ceil-2.result + q.count_from-n3.result

needed_is : (q : After-div_ceil-2) → needed q ≡ length (packed q.args.numbers.now)
needed_is q =
    omega (arith, length-packed q.args.numbers.now, q.count_from-n2.ensures.0, q.count_from-n3.ensures.0, q.div_ceil.ensures, q.div_ceil-2.ensures)

pub returns-then-out-need : goal.returns-then-out-need
returns-then-out-need c =
    let q = (goal.at.returns-then-out-need c).After-div_ceil-2 in
    short c.args.numbers.now c.args.out.now (needed q) (none_refused (goal.at.returns-then-out-need c).After-count_from-n3) (needed_is q) (omega arith)

pub list-requires : goal.list-requires
list-requires c =
    let q = (goal.at.list-requires c).After-div_ceil-2 in
    record {
      all = refl;
      two = c.count_from-n2.ensures.0;
      three = c.count_from-n3.ensures.0;
      range = count_below number_limit c.args.numbers.now (none_large (goal.at.list-requires c).After-count_from-n3);
      fits = omega (arith, needed_is q);
    }

pub returns : goal.returns
returns c =
    let q = (goal.at.returns c).After-div_ceil-2 in
    done c.args.numbers.now c.args.out.now (needed q) c.list.new.out (none_refused (goal.at.returns c).After-count_from-n3) (needed_is q) (omega arith) c.list.ensures
