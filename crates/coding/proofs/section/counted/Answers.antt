-- `coding::section::counted` meets its contract: the four bytes of the count are the first ones.
use mathlib.Core.Path.{◌≡◌, ap, ◌∙◌}
use Prim.Native.Nat.{ℕ, ◌<◌}
use native.Mathlib.Omega.{arith}
use lib.ListN.{get_or}
use lib.Seq.{get_or-take}
use Rattle.coding.specs.Bytes.{number}
use Rattle.coding.proofs.section.counted.Goals as goal

pub returns : goal.returns
unfolding number
returns c =
    let s = c.args.s.now in
    let e = c.in_ok-count.ensures.cases in
    let at : (i : ℕ) → i < 4 → get_or c.in_ok-count.count.now i 0 ≡ get_or s i 0 = λ i h. ap (λ t. get_or t i 0) e.0 ∙ get_or-take 4 s i 0 h in
    (omega (arith, e.2), omega (arith, c.from_le_bytes.ensures, at 0 (omega arith), at 1 (omega arith), at 2 (omega arith), at 3 (omega arith)), c.from_le_bytes.type_inv, e.1)
