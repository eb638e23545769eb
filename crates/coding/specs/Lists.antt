-- Difference lists: a number is cut into bytes, lowest first, as few as hold it, at least one.
-- A list has five parts: the first bytes of all entries; a bit for each, 1 if more follows; the second bytes of those that have one; their bits; the third bytes.
-- Assumes nothing.
use Rattle.std.specs.Prelude.{Bool, true, false, cond, List, [], ◌∷◌, map, ℕ, ◌+◌, ◌*◌, ◌/◌, ◌%◌, leb, get_or}
use Rattle.coding.specs.Bits.{ones_before}

-- the most numbers that a list may have
abbrev pub list_limit : ℕ
list_limit = 1398100

-- the least number that three bytes do not hold
abbrev pub number_limit : ℕ
number_limit = 16777216

-- the lowest byte of a number, and whether more follows
abbrev pub low_byte : ℕ → ℕ
low_byte v = v % 256

abbrev pub is_long : ℕ → Bool
is_long v = leb 256 v

abbrev pub rest_if : Bool → ℕ → List ℕ → List ℕ
rest_if true v l = v / 256 ∷ l
rest_if false v l = l

-- what is left, behind their lowest bytes, of the numbers of which more follows
abbrev pub rests : List ℕ → List ℕ
rests [] = []
rests (v ∷ l) = rest_if (is_long v) v (rests l)

pub record Parts : Type 0 where
  pub first : List ℕ
  pub more : List Bool
  pub second : List ℕ
  pub again : List Bool
  pub third : List ℕ

-- the five parts of a list
unfoldable pub parts_of : List ℕ → Parts
parts_of l = record {
  first = map low_byte l;
  more = map is_long l;
  second = map low_byte (rests l);
  again = map is_long (rests l);
  third = rests (rests l);
}

-- and back: numbers from their lowest bytes, the bits that say of which more follows, and what follows
abbrev pub joined : List ℕ → List Bool → List ℕ → List ℕ
joined [] marks rest = []
joined (x ∷ low) [] rest = x ∷ joined low [] rest
joined (x ∷ low) (false ∷ marks) rest = x ∷ joined low marks rest
joined (x ∷ low) (true ∷ marks) [] = x ∷ joined low marks []
joined (x ∷ low) (true ∷ marks) (r ∷ rest) = (x + 256 * r) ∷ joined low marks rest

unfoldable pub entries_of : Parts → List ℕ
entries_of p = joined p.first p.more (joined p.second p.again p.third)

-- one entry alone: where its second byte stands, and its third, is found by counting ones
abbrev pub second_of : Parts → ℕ → ℕ
second_of p j = get_or p.second j 0 + cond (get_or p.again j false) (256 * get_or p.third (ones_before p.again j) 0) 0

abbrev pub entry_of : Parts → ℕ → ℕ
entry_of p i = get_or p.first i 0 + cond (get_or p.more i false) (256 * second_of p (ones_before p.more i)) 0
