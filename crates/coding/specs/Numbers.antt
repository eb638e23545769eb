-- The numbers of a packed list that was read.
-- Assumes nothing.
use Rattle.std.specs.Prelude.{List, ℕ}
use Rattle.coding.specs.Lists.{entries_of}
use Rattle.coding.specs.Seen.{parts_in}
use Rattle.coding.specs.declared.list.Coded.{Coded}

abbrev pub numbers_in : Coded → List ℕ
numbers_in c = entries_of (parts_in c.sections)
