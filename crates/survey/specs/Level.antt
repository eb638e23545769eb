-- Levels: whole numbers of millimetres against chart datum.
-- A level is kept raised by 2,147,483,648, so that no 32-bit number is negative; order and differences stay as they are.
-- Assumes nothing.
use Rattle.std.specs.Prelude.{Bool, ◌&&◌, ℕ, ◌+◌, ◌-◌, ◌%◌, leb, ℤ, pos, negsuc}
use Rattle.std.proofs.Math.IntN.{sub_ℕ}

-- z + 2,147,483,648
abbrev pub raised : ℤ → ℕ
raised (pos n) = 2147483648 + n
raised (negsuc n) = 2147483647 - n

-- and back
abbrev pub lowered : ℕ → ℤ
lowered v = sub_ℕ v 2147483648

-- the limits, raised: -8,388,608 and 8,388,607
abbrev pub lowest_level : ℕ
lowest_level = 2139095040

abbrev pub highest_level : ℕ
highest_level = 2155872255

abbrev pub is_level : ℕ → Bool
is_level v = leb lowest_level v && leb v highest_level

-- the two's complement of a raised level in 32 bits; and a raised level from its two's complement
abbrev pub turned : ℕ → ℕ
turned v = (v + 2147483648) % 4294967296
