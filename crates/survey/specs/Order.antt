-- Level order of a tree whose nodes split into four: level by level from the top, within a level in the order of the parents, each parent's quarters in order.
-- Assumes nothing.
use Rattle.std.specs.Prelude.{Bool, true, false, List, [], ◌∷◌, ◌++◌, map, ℕ, zero, suc}

-- whether a node is split, its four quarters, and the two differences that are stored for it
pub record Shape (N : Type 0) : Type 0 where
  pub mark : N → Bool
  pub kid : N → ℕ → N
  pub dmax : N → ℕ
  pub dmin : N → ℕ

-- what a file holds of a tree: split marks, Lmax and Lmin
pub record Lists : Type 0 where
  pub split_marks : List Bool
  pub lmax : List ℕ
  pub lmin : List ℕ

abbrev pub no_lists : Lists
no_lists = record { split_marks = []; lmax = []; lmin = [] }

module _ {N : Type 0} (S : Shape N) where
  open S use {mark, kid, dmax, dmin}

  abbrev pub kids : N → List N
  kids n = kid n 0 ∷ kid n 1 ∷ kid n 2 ∷ kid n 3 ∷ []

  -- the quarters that are in the tree: all four of a node that is split, and none of one that is not
  abbrev pub kids_if : Bool → N → List N
  kids_if true n = kids n
  kids_if false n = []

  -- the level below a level
  abbrev pub next : List N → List N
  next [] = []
  next (n ∷ l) = kids_if (mark n) n ++ next l

  -- a level and those below it, k levels in all
  abbrev pub levels : ℕ → List N → List N
  levels zero l = []
  levels (suc k) l = l ++ levels k (next l)

  -- those of a list that are split
  abbrev pub keep_if : Bool → N → List N → List N
  keep_if true n l = n ∷ l
  keep_if false n l = l

  abbrev pub split_of : List N → List N
  split_of [] = []
  split_of (n ∷ l) = keep_if (mark n) n (split_of l)

  -- the lists of a level and the k levels below it, of which the last has no marks: single cells
  abbrev pub form : ℕ → List N → Lists
  form k l = record { split_marks = map mark (levels k l); lmax = map dmax (levels (suc k) l); lmin = map dmin (split_of (levels k l)) }
