-- `coding::bits::ones_in` meets its contract. The invariant of both loops: the sum is the ones in the bytes that were taken.
use mathlib.Core.Path.{◌≡◌}
use Prim.Native.Nat.{◌+◌, ◌*◌, ◌/◌, ◌≤◌}
use lib.ListN.{length}
use Rattle.coding.specs.Places.{ones_in}
use Rattle.coding.proofs.bits.ones_in.Given as goal

abbrev pub invariant-loop-word : goal.invariant-loop-word
invariant-loop-word l = (l.sum ≡ ones_in l.s (8 * l.word-index)) × (l.sum ≤ 8 * (8 * l.word-index))

abbrev pub invariant-loop-x : goal.invariant-loop-x
invariant-loop-x l = (l.sum ≡ ones_in l.s (length l.s / 8 * 8 + l.x-index)) × (l.sum ≤ 8 * (length l.s / 8 * 8 + l.x-index))
