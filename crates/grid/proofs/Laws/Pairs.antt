-- Pairs of bounds: the pair above four pairs is that of the bounds folded, as long as no least is above the largest number.
-- Assumes nothing.
use mathlib.Core.Path.{◌≡◌, refl, ap, ◌∙◌}
use Prim.Native.Nat.{ℕ, ◌≤◌, ◌<◌, min, max}
use native.Mathlib.Omega.{arith}
use Rattle.survey.specs.Square.{Bounds, none, span, join, fold, greatest_or}
use Rattle.survey.proofs.Laws.Squares.{Inside, Proper}
use Rattle.squares.specs.Pair.{pair, pair_of, quad, above_of}
use Rattle.squares.specs.declared.Pair.{Pair}

-- the least, if there is one, is a number of 32 bits
abbrev pub Low : Bounds → Type 0
Low none = Unit {0}
Low (span g l) = l ≤ 4294967295

pub low_under : (q : Bounds) (v : ℕ) → Proper q → greatest_or v q ≤ v → v < 4294967296 → Low q
low_under none v p u h = tt
low_under (span g l) v p u h = omega arith

low_join : (p q : Bounds) → Low p → Low q → Low (join p q)
low_join none q x y = y
low_join (span g l) none x y = x
low_join (span g l) (span h m) x y = omega arith

-- two pairs
abbrev meet : Pair → Pair → Pair
meet p q = pair (max p.hi q.hi) (min p.lo q.lo)

pair_same : {a b c d : ℕ} → a ≡ b → c ≡ d → pair a c ≡ pair b d
pair_same p q = λ i. pair (p i) (q i)

pair-join : (p q : Bounds) → Low p → Low q → meet (pair_of p) (pair_of q) ≡ pair_of (join p q)
pair-join none none x y = pair_same (omega arith) (omega arith)
pair-join none (span h m) x y = pair_same (omega arith) (omega arith)
pair-join (span g l) none x y = pair_same (omega arith) (omega arith)
pair-join (span g l) (span h m) x y = refl

above_meets : (a b c d : Pair) → above_of (quad a b c d) ≡ meet a (meet b (meet c d))
unfolding above_of
above_meets a b c d = pair_same (omega arith) (omega arith)

pub fold_pair : (a b c d : Bounds) → Low a → Low b → Low c → Low d → above_of (quad (pair_of a) (pair_of b) (pair_of c) (pair_of d)) ≡ pair_of (fold a b c d)
fold_pair a b c d x y z w =
    let u = low_join c d z w in
    above_meets (pair_of a) (pair_of b) (pair_of c) (pair_of d)
    ∙ ap (λ (p : Pair). meet (pair_of a) (meet (pair_of b) p)) (pair-join c d z w)
    ∙ ap (λ (p : Pair). meet (pair_of a) p) (pair-join b (join c d) y u)
    ∙ pair-join a (join b (join c d)) x (low_join b (join c d) y u)

-- ---- back from a pair

spans : (v w g l : ℕ) → pair g l ≡ pair v w → span g l ≡ span v w
spans v w g l e = ap (λ (p : Pair). span p.hi p.lo) e

-- without real cells the greatest would be below the least
pub pair_apart : (v w : ℕ) (q : Bounds) → pair_of q ≡ pair v w → w < v → q ≡ span v w
pair_apart v w none e h = absurd (omega (arith, ap (λ (p : Pair). p.hi) e, ap (λ (p : Pair). p.lo) e))
pair_apart v w (span g l) e h = spans v w g l e

-- where there is a real cell, there are bounds
pub pair_real : (v w u : ℕ) (q : Bounds) → pair_of q ≡ pair v w → Inside (span u u) q → q ≡ span v w
pair_real v w u none e i = absurd i
pair_real v w u (span g l) e i = spans v w g l e
