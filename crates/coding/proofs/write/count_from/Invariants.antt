-- `coding::write::count_from` meets its contract. The loop's invariant: what is counted and what is still to count make the whole.
use mathlib.Core.Path.{◌≡◌}
use Prim.Native.Nat.{◌+◌, ◌≤◌}
use lib.ListN.{drop}
use Rattle.coding.specs.Lanes.{count_from}
use Rattle.coding.proofs.write.count_from.Given as goal

abbrev pub invariant-loop-v : goal.invariant-loop-v
invariant-loop-v l = (l.count ≤ l.v-index) × (l.count + count_from l.low (drop l.v-index l.numbers) ≡ count_from l.low l.numbers)
