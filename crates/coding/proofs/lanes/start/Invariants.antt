-- `coding::lanes::start` meets its contract: each turn writes one sum more.
use mathlib.Core.Path.{◌≡◌}
use mathlib.Core.List.{List}
use Prim.Native.Nat.{ℕ, ◌≤◌}
use lib.ListN.{get_or}
use Rattle.coding.specs.Lanes.{total}
use Rattle.coding.proofs.lanes.start.Given as goal

-- the first i + 1 starts are written, the last of them is at
pub record Sums (counts starts : List ℕ) (i at : ℕ) : Type 0 where
  pub last : at ≡ total counts i
  pub sums : (e : ℕ) → e ≤ i → get_or starts e 0 ≡ total counts e

abbrev pub invariant-loop-i : goal.invariant-loop-i
invariant-loop-i l = Sums l.counts l.starts l.i l.at
