-- Where the squares of a tree stand in its lists: counting ones leads from a square to its quarters.
-- Assumes nothing.
use Rattle.std.specs.Prelude.{◌≡◌, Bool, true, false, List, [], ◌∷◌, ℕ, zero, suc, ◌+◌, ◌*◌, length, get_or}
use Rattle.coding.specs.Bits.{ones, ones_before}
use Rattle.survey.specs.Order.{Shape, Lists, kids_if}

-- P of each element of a list and its place, the first at z
abbrev pub All {ℓ} : {N : Type 0} → (ℕ → N → Type ℓ) → ℕ → List N → Type ℓ
All P z [] = Unit
All P z (n ∷ l) = P z n × All P (suc z) l

module _ {N : Type 0} (S : Shape N) (L : Lists) where
  open S use {mark, dmax, dmin}
  open L use {split_marks, lmax, lmin}

  -- what stands at place z of Lmax is that of n
  abbrev pub Max : ℕ → N → Type 0
  Max z n = get_or lmax z 0 ≡ dmax n

  -- what stands at place z of T and, if it is 1, in Lmin, is that of n
  abbrev pub Mark : ℕ → N → Type 0
  Mark z n = (get_or split_marks z false ≡ mark n) × (mark n ≡ true → get_or lmin (ones_before split_marks z) 0 ≡ dmin n)

  -- n stands at place z, and what is in the tree below it, k levels, stands where counting ones leads
  abbrev pub Here : ℕ → ℕ → N → Type 0
  Here zero z n = Max z n
  Here (suc k) z n = Max z n × Mark z n × All (Here k) (4 + 4 * ones_before split_marks z) (kids_if S (mark n) n)

-- the start of the k-th level behind the one that starts at z, in a tree with these split marks
abbrev pub start_of : List Bool → ℕ → ℕ → ℕ
start_of split_marks zero z = z
start_of split_marks (suc k) z = start_of split_marks k (4 + 4 * ones_before split_marks z)

-- the lengths of the lists of four squares and the k levels below them
pub record Sized (L : Lists) (k : ℕ) : Type 0 where
  pub t_length : length L.split_marks ≡ start_of L.split_marks k 0
  pub max_length : length L.lmax ≡ start_of L.split_marks (suc k) 0
  pub min_length : length L.lmin ≡ ones L.split_marks
