-- `coding::list::Sections::indexed` meets its contract: the first bits take as many numbers as they have blocks, and the second what is left.
use native.Mathlib.Omega.{arith}
use Rattle.coding.proofs.Laws.Seen.{same_count}
use Rattle.coding.proofs.list.Sections.indexed.Goals as goal

pub returns : goal.returns
returns c =
    let s = c.args.self in
    let a = c.indexed.ensures in
    let b = c.indexed-2.ensures in
    let n = same_count c.indexed.result s.more a.0 in
    let f = c.split_at_mut-front.ensures in (
      λ i. record { first = s.first.now; more = a.0 i; second = s.second.now; again = b.0 i; third = s.third.now },
      (omega (arith, a.1, n, f.front_len, c.min-blocks.ensures, c.blocks-2.ensures), omega (arith, b.1, n, f.back_len, c.min-blocks.ensures, c.blocks-2.ensures)),
    )
