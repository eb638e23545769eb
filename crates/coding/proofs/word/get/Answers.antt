-- `coding::word::get` meets its contract: the four bytes read one by one are those of the rest of the slice.
use native.Mathlib.Nat.{add-zero}
use native.Mathlib.Omega.{arith}
use lib.Seq.{get_or-drop}
use Rattle.coding.specs.Bytes.{number}
use Rattle.coding.proofs.word.get.Goals as goal

pub returns : goal.returns
unfolding number
returns c = simp (get_or-drop, add-zero) (omega arith)
