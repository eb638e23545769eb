-- What bytes hold that start with sections: their bits, running counts of ones, the five sections of a list, and when these are a list packed.
-- Assumes nothing.
use Rattle.std.specs.Prelude.{◌≡◌, Bool, true, ◌&&◌, not, ◌||◌, List, [], ◌∷◌, ℕ, zero, suc, ◌+◌, ◌*◌, ◌%◌, ◌^◌, ◌≤◌, ◌<◌, eqb, length, get_or, take}
use Rattle.std.specs.Int.Count as Count
use Rattle.coding.specs.Bits.{ones, ones_before, all_bits}
use Rattle.coding.specs.Lists.{Parts}
use Rattle.coding.specs.Sections.{after_bytes, after_bits, starts_bytes, starts_bits}

-- the first n bits of some bytes
abbrev pub bits_of : List ℕ → ℕ → List Bool
bits_of s n = take n (all_bits s)

-- the ones in the first q bytes
abbrev pub ones_in : List ℕ → ℕ → ℕ
ones_in s zero = 0
ones_in [] (suc q) = 0
ones_in (x ∷ s) (suc q) = Count.ones (x % 256) + ones_in s q

-- x holds running counts of the first n bits of s: the ones before each block of 512. There may be fewer of them than blocks, or none
pub record Index (s : List ℕ) (n : ℕ) (x : List ℕ) : Type 0 where
  pub fits : n ≤ 8 * length s
  pub small : n < 2 ^ 32
  pub right : (k : ℕ) → k < length x → get_or x k 0 ≡ ones_before (bits_of s n) (512 * k)

-- bytes start with five sections
pub record Five (s : List ℕ) : Type 0 where
  pub first : starts_bytes s ≡ true
  pub more : starts_bits (after_bytes s) ≡ true
  pub second : starts_bytes (after_bits (after_bytes s)) ≡ true
  pub again : starts_bits (after_bytes (after_bits (after_bytes s))) ≡ true
  pub third : starts_bytes (after_bits (after_bytes (after_bits (after_bytes s)))) ≡ true

-- and what is behind them
abbrev pub after_five : List ℕ → List ℕ
after_five s = after_bytes (after_bits (after_bytes (after_bits (after_bytes s))))

-- ---- what a list's parts must meet, beside being sections

-- no byte of a part is 0
abbrev pub none_zero : List ℕ → Bool
none_zero [] = true
none_zero (x ∷ s) = not (eqb x 0) && none_zero s

-- no byte is 0 of which no more follows
abbrev pub none_idle : List ℕ → List Bool → Bool
none_idle [] l = true
none_idle (x ∷ s) [] = not (eqb x 0) && none_idle s []
none_idle (x ∷ s) (b ∷ l) = (b || not (eqb x 0)) && none_idle s l

-- the counts agree, and every number has as few bytes as hold it
unfoldable pub agree : Parts → Bool
agree p =
    eqb (length p.more) (length p.first)
    && (eqb (length p.second) (ones p.more)
    && (eqb (length p.again) (length p.second)
    && (eqb (length p.third) (ones p.again) && (none_idle p.second p.again && none_zero p.third))))
