-- What `&s[a..]` is.
-- Assumes nothing.
use mathlib.Core.Path.{◌≡◌}
use mathlib.Core.List.{List}
use Prim.Native.Nat.{ℕ, ◌-◌}
use native.Mathlib.Omega.{arith}
use lib.ListN.{length, take, drop, length-drop}
use lib.Seq.{take_all}

pub rest_part : {A : Type 0} (f : List A) (a : ℕ) → take (length f - a) (drop a f) ≡ drop a f
rest_part f a = take_all (length f - a) (drop a f) (omega (arith, length-drop a f))
