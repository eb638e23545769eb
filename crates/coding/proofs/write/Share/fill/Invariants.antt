-- `coding::write::Share::fill` meets its contract. The loop's invariant: what the numbers so far have is put, and there is room for the rest.
use mathlib.Core.List.{List}
use Prim.Native.Nat.{ℕ}
use lib.ListN.{take, drop}
use Rattle.coding.specs.Lanes.{items_of, only, HasRoom, Puts}
use Rattle.coding.specs.declared.lanes.Lanes.{Lanes}
use Rattle.coding.specs.declared.lanes.part.Part.{Part}
use Rattle.coding.proofs.write.Share.fill.Given as goal

-- what a part has of numbers, in a single lane
abbrev pub load : Part → List ℕ → ℕ → List ℕ
load p l = only 0 (items_of p l)

pub record Filling (first lanes : Lanes) (p : Part) (l : List ℕ) (k : ℕ) : Type 0 where
  pub done : Puts p.bits first lanes (load p (take k l))
  pub room : HasRoom p.bits lanes (load p (drop k l))

abbrev pub invariant-loop-v : goal.invariant-loop-v
invariant-loop-v l = Filling l.initial.lanes l.lanes l.self.part l.self.numbers.now l.v-index
