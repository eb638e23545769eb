-- `grid::Grid::look` and `quarters` call each other down the depths, and `quarters` stands between two of them.
use Prim.Native.Nat.{◌+◌, ◌*◌}
use Rattle.grid.proofs.Grid.+look.Given as goal

abbrev pub decreases-look : goal.decreases-look
decreases-look l = 2 * l.s.depth + 1

abbrev pub decreases-quarters : goal.decreases-quarters
decreases-quarters l = 2 * l.s.depth
