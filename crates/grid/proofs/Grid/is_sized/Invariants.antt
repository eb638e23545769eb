-- `grid::Grid::is_sized` meets its contract. The loop's invariant: z is the start of a level of the tree, the first level being that of the four
-- quarters of the whole square.
use mathlib.Core.Path.{◌≡◌}
use Prim.Native.Nat.{◌-◌, ◌≤◌}
use Rattle.coding.specs.Seen.{bits_in}
use Rattle.survey.specs.Standing.{start_of}
use Rattle.grid.proofs.Grid.is_sized.Given as goal

abbrev pub invariant-loop : goal.invariant-loop
invariant-loop l = (1 ≤ l.counter) × (l.counter - 1 ≤ l.self.depth - 1) × (l.z ≡ start_of (bits_in l.self.split) (l.counter - 1) 0)
