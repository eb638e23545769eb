-- Numbers of 32 bits as four bytes, lowest first.
-- Assumes nothing.
use Rattle.std.specs.Prelude.{List, [], ◌∷◌, ℕ, ◌+◌, ◌*◌, ◌/◌, ◌%◌, get_or}

-- the four bytes of a number below 2 ^ 32
unfoldable pub word : ℕ → List ℕ
word v = v % 256 ∷ v / 256 % 256 ∷ v / 65536 % 256 ∷ v / 16777216 ∷ []

-- the number that the first four bytes make; a byte that is not there counts as 0
unfoldable pub number : List ℕ → ℕ
number s = get_or s 0 0 + 256 * get_or s 1 0 + 65536 * get_or s 2 0 + 16777216 * get_or s 3 0
