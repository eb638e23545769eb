-- `coding::word::put` meets its contract: the four bytes copied over those at `at` are a run of stores, and the highest needs no remainder.
use mathlib.Core.Path.{◌≡◌, refl, ◌∙◌, ap}
use Prim.Native.Nat.{◌+◌, ◌/◌, ◌%◌}
use native.Mathlib.Omega.{arith}
use lib.ListN.{length}
use lib.Seq.{sets}
use Rattle.coding.specs.Bytes.{word}
use Rattle.coding.proofs.Laws.Lay.{part_at}
use Rattle.coding.proofs.word.put.Goals as goal

pub returns : goal.returns
unfolding word
returns c =
    let a = c.args in
    let s = c.copy_from_slice in
    let top : a.v / 16777216 % 256 ≡ a.v / 16777216 = omega arith in
    let bytes : s.new.self ≡ word a.v = s.ensures.after ∙ c.to_le_bytes.ensures ∙ rw top refl in
    part_at a.at (a.at + 4) a.out.now s.new.self (omega arith) c.requires (ap length bytes ∙ omega arith)
    ∙ ap (sets a.out.now a.at) bytes
