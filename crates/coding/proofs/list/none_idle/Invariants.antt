-- `coding::list::none_idle` meets its contract. The invariant of the loop: the test of the bytes and bits from `i` on is the test of all.
use mathlib.Core.Path.{◌≡◌}
use lib.ListN.{drop}
use Rattle.coding.specs.Places.{none_idle}
use Rattle.coding.specs.Seen.{bits_in}
use Rattle.coding.proofs.list.none_idle.Given as goal

abbrev pub invariant-loop-i : goal.invariant-loop-i
invariant-loop-i l = none_idle (drop l.i l.s) (drop l.i (bits_in l.more)) ≡ none_idle l.s (bits_in l.more)
