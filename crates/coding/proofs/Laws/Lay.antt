-- Laws of `sets`, a run of stores: one run after another, and a part that was lent and came back.
-- Assumes nothing.
use mathlib.Core.Path.{◌≡◌, sym, ap, ◌∙◌}
use mathlib.Core.List.{List, [], ◌∷◌, ◌++◌, append_assoc}
use Prim.Native.Nat.{ℕ, suc, ◌+◌, ◌-◌, ◌≤◌}
use native.Mathlib.Nat.{add-zero, add-suc, suc-add}
use native.Mathlib.Omega.{arith}
use lib.ListN.{length, take, drop, set}
use lib.Seq.{sets, sets-eq, drop-drop}
use borrow.Rule.Slice.PartMut.{put_mid}

-- one run, and the next where it ended
pub sets_append : (l : List ℕ) (i : ℕ) (a b : List ℕ) → sets (sets l i a) (i + length a) b ≡ sets l i (a ++ b)
sets_append l i [] b = rw add-zero
sets_append l i (x ∷ a) b = rw (add-suc, ← suc-add) (sets_append (set l i x) (suc i) a b)

-- the same, of a list that was written already
pub laid_then : (o o' : List ℕ) (i e : ℕ) (x y : List ℕ) → o' ≡ sets o i x → e ≡ i + length x → sets o' e y ≡ sets o i (x ++ y)
laid_then o o' i e x y p q = rw (p, q) (sets_append o i x y)

-- a part that was lent from a to e and came back as vs, said of the whole
pub part_at : (a e : ℕ) (xs vs : List ℕ) → a ≤ e → e ≤ length xs → length vs ≡ e - a → put_mid a (e - a) xs vs ≡ sets xs a vs
part_at a e xs vs h g w =
    let q : a + (e - a) ≡ a + length vs = omega arith in
    ap (λ r. take a xs ++ (vs ++ r)) (drop-drop (e - a) a xs ∙ ap (λ n. drop n xs) q)
    ∙ sym (sets-eq vs xs a (omega arith) ∙ append_assoc (take a xs) vs (drop (a + length vs) xs))
