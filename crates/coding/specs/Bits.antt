-- Bits, the ones among them, and the bytes that hold them: bit i has weight 2 ^ (i % 8) in byte i / 8, and unused bits are 0.
-- Assumes nothing.
use Rattle.std.specs.Prelude.{Bool, true, false, List, [], ◌∷◌, ◌++◌, ℕ, zero, suc, ◌+◌, ◌*◌, ◌/◌, ◌%◌, eqb, length, take, drop}

abbrev pub bit : Bool → ℕ
bit true = 1
bit false = 0

abbrev pub ones : List Bool → ℕ
ones [] = 0
ones (b ∷ l) = bit b + ones l

-- the ones before a place; beyond the last bit, all of them
abbrev pub ones_before : List Bool → ℕ → ℕ
ones_before l zero = 0
ones_before [] (suc z) = 0
ones_before (b ∷ l) (suc z) = bit b + ones_before l z

-- the number whose digits to base two are these, lowest first
unfoldable pub value_of : List Bool → ℕ
value_of [] = 0
value_of (b ∷ l) = bit b + 2 * value_of l

-- n bytes, eight bits each; a bit that is not there is 0
unfoldable pub pack_bytes : ℕ → List Bool → List ℕ
pack_bytes zero l = []
pack_bytes (suc n) l = value_of (take 8 l) ∷ pack_bytes n (drop 8 l)

-- the bytes that hold these bits
unfoldable pub pack_bits : List Bool → List ℕ
pack_bits l = pack_bytes ((length l + 7) / 8) l

-- and back: the k lowest digits of x, lowest first
unfoldable pub digits : ℕ → ℕ → List Bool
digits zero x = []
digits (suc k) x = eqb (x % 2) 1 ∷ digits k (x / 2)

-- all bits of some bytes
unfoldable pub all_bits : List ℕ → List Bool
all_bits [] = []
all_bits (x ∷ s) = digits 8 x ++ all_bits s
