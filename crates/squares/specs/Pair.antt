-- The greatest and least of a square as a pair of numbers.
-- Assumes nothing.
use Rattle.std.specs.Prelude.{Bool, cond, List, [], ℕ, ◌+◌, ◌*◌, ◌-◌, min, max, leb, ltb, get_or}
use Rattle.survey.specs.Raster.{Raster}
use Rattle.survey.specs.Square.{Bounds, none, span, bounds_at}
use Rattle.squares.specs.declared.Pair.{Pair}
use Rattle.squares.specs.declared.Quad.{Quad}

abbrev pub pair : ℕ → ℕ → Pair
pair g l = record { hi = g; lo = l }

-- without real cells the greatest is 0 and the least the largest number there is, so that joining it changes nothing
abbrev pub pair_of : Bounds → Pair
pair_of none = pair 0 4294967295
pair_of (span g l) = pair g l

unfoldable pub pair_at : Raster → ℕ → ℕ → ℕ → Pair
pair_at A k r c = pair_of (bounds_at A k r c)

abbrev pub quad : Pair → Pair → Pair → Pair → Quad
quad a b c d = record { a = a; b = b; c = c; d = d }

-- the pairs of the four quarters, of depth k, of the square in this row and column
unfoldable pub quad_at : Raster → ℕ → ℕ → ℕ → Quad
quad_at A k r c =
    quad (pair_at A k (2 * r) (2 * c)) (pair_at A k (2 * r) (2 * c + 1)) (pair_at A k (2 * r + 1) (2 * c)) (pair_at A k (2 * r + 1) (2 * c + 1))

-- four pairs as rows of two numbers
abbrev pub quad_in : List (List ℕ) → Quad
quad_in q =
    quad (pair (get_or (get_or q 0 []) 0 0) (get_or (get_or q 0 []) 1 0)) (pair (get_or (get_or q 1 []) 0 0) (get_or (get_or q 1 []) 1 0))
    (pair (get_or (get_or q 2 []) 0 0) (get_or (get_or q 2 []) 1 0)) (pair (get_or (get_or q 3 []) 0 0) (get_or (get_or q 3 []) 1 0))

-- the pair of the square above
unfoldable pub above_of : Quad → Pair
above_of q =
    pair (max (max q.a.hi q.b.hi) (max q.c.hi q.d.hi)) (min (min q.a.lo q.b.lo) (min q.c.lo q.d.lo))

abbrev pub uneven_of : Pair → Bool
uneven_of p = ltb p.lo p.hi

-- the entries of Lmax and Lmin for a quarter q of p
abbrev pub drop_of : Pair → Pair → ℕ
drop_of p q = cond (leb q.lo q.hi) (p.hi - q.hi) 0

abbrev pub rise_of : Pair → Pair → ℕ
rise_of p q = q.lo - p.lo
