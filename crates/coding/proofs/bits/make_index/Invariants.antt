-- `coding::bits::make_index` meets its contract. The loop's invariant: the counts stored so far are right, and the sum is that of the last of them.
use mathlib.Core.Path.{◌≡◌}
use mathlib.Core.List.{List}
use Prim.Native.Nat.{ℕ, ◌-◌, ◌*◌, ◌<◌}
use lib.ListN.{get_or}
use Rattle.coding.specs.Places.{ones_in}
use Rattle.coding.proofs.bits.make_index.Given as goal

pub record Inv (s index : List ℕ) (sum b : ℕ) : Type 0 where
  pub sums : sum ≡ ones_in s (64 * (b - 1))
  pub stored : (k : ℕ) → k < b → get_or index k 0 ≡ ones_in s (64 * k)

abbrev pub invariant-loop-b : goal.invariant-loop-b
invariant-loop-b l = Inv l.s l.index l.sum l.b
