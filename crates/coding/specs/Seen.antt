-- What the values are that the coding reads, and how far their running counts reach.
-- Assumes nothing.
use Rattle.std.specs.Prelude.{◌≡◌, Bool, List, ℕ, ◌+◌, ◌-◌, ◌/◌, min, length}
use Rattle.coding.specs.Lists.{Parts}
use Rattle.coding.specs.Places.{bits_of}
use Rattle.coding.specs.declared.bits.Bits.{Bits}
use Rattle.coding.specs.declared.list.Sections.{Sections}

-- the bits
abbrev pub bits_in : Bits → List Bool
bits_in b = bits_of b.bytes.now b.count

-- one running count for each block of 512 bits
abbrev pub blocks : Bits → ℕ
blocks b = (b.count + 511) / 512

-- of these, as many as n numbers hold are there
abbrev pub HasCounts : Bits → ℕ → Type 0
HasCounts b n = length b.index.now ≡ min (blocks b) n

-- the parts of a list
abbrev pub parts_in : Sections → Parts
parts_in s = record { first = s.first.now; more = bits_in s.more; second = s.second.now; again = bits_in s.again; third = s.third.now }

-- running counts of the first bits, and behind these of the second, are there as far as n numbers hold them
abbrev pub HaveCounts : Sections → ℕ → Type 0
HaveCounts s n = HasCounts s.more n × HasCounts s.again (n - blocks s.more)
