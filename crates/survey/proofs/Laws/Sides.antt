-- The side of a raster is the least power of two not below its rows and columns, so the whole square holds every real cell.
-- Assumes nothing.
use mathlib.Core.Path.{◌≡◌, refl, sym, ap, ◌∙◌}
use mathlib.Core.Bool.{Bool, true, false}
use Prim.Native.Nat.{ℕ, zero, suc, ◌+◌, ◌*◌, ◌^◌, ◌≤◌, ◌<◌, max}
use native.Mathlib.Nat.{pow-suc, mul_assoc, mul_comm}
use native.Mathlib.Omega.{arith}
use lib.Dec.{ltb}
use lib.Pow.{pow_pos, pow_mono}
use borrow.Author.Tests.{ltb-true, ltb-false, lt-ltb}
use Rattle.coding.specs.Bits.{bit}
use Rattle.survey.specs.Sides.{powers_below, depth_limit, depth_for}
use Rattle.survey.specs.Reading.{block_of}

-- all powers below a power that is below n are below n
all-below : (d n : ℕ) → 2 ^ d ≤ n → powers_below d n ≡ d
all-below zero n h = refl
all-below (suc d) n h =
    let p : 2 ^ d < n = omega (arith, pow-suc 2 d, pow_pos d) in
    omega (arith, all-below d n (omega arith), ap bit (lt-ltb (2 ^ d) n p))

covers_step : (d n : ℕ) (b : Bool) → ltb (2 ^ d) n ≡ b → n ≤ 2 ^ suc d → (n ≤ 2 ^ d → n ≤ 2 ^ powers_below d n) → n ≤ 2 ^ (powers_below d n + bit b)
covers_step d n true e h ih =
    let p : powers_below d n + 1 ≡ suc d = omega (arith, all-below d n (omega (arith, ltb-true (2 ^ d) n e))) in
    rw p h
covers_step d n false e h ih =
    let p : powers_below d n + 0 ≡ powers_below d n = omega arith in
    rw p (ih (ltb-false (2 ^ d) n e))

covers : (d n : ℕ) → n ≤ 2 ^ d → n ≤ 2 ^ powers_below d n
covers zero n h = h
covers (suc d) n h = covers_step d n (ltb (2 ^ d) n) refl h (covers d n)

at_most : (d n : ℕ) → powers_below d n ≤ d
at_most zero n = omega arith
at_most (suc d) n = omega (arith, at_most d n, bit_most (ltb (2 ^ d) n))
  where
    bit_most : (b : Bool) → bit b ≤ 1
    bit_most true = omega arith
    bit_most false = omega arith

least_step : (D d n : ℕ) (b : Bool) → ltb (2 ^ D) n ≡ b → (d < powers_below D n → 2 ^ d < n) → d < powers_below D n + bit b → 2 ^ d < n
least_step D d n true e ih h =
    let p : 2 ^ d ≤ 2 ^ D = pow_mono {i = d} {j = D} (omega (arith, at_most D n)) in
    omega (arith, ltb-true (2 ^ D) n e)
least_step D d n false e ih h = ih (omega arith)

least : (D d n : ℕ) → d < powers_below D n → 2 ^ d < n
least zero d n h = absurd (omega arith)
least (suc D) d n h = least_step D d n (ltb (2 ^ D) n) refl (least D d n) h

-- the side is not below rows and columns
pub side_covers : (rows columns : ℕ) → rows ≤ 2 ^ depth_limit → columns ≤ 2 ^ depth_limit → max rows columns ≤ 2 ^ depth_for rows columns
unfolding depth_for
side_covers rows columns h g = covers depth_limit (max rows columns) (omega arith)

pub depth_most : (rows columns : ℕ) → depth_for rows columns ≤ depth_limit
unfolding depth_for
depth_most rows columns = at_most depth_limit (max rows columns)

-- and every smaller power of two is
pub side_least : (rows columns d : ℕ) → d < depth_for rows columns → 2 ^ d < max rows columns
unfolding depth_for
side_least rows columns d h = least depth_limit d (max rows columns) h

block_less : (d y m : ℕ) → y < m * 2 ^ d → block_of d y < m
block_less zero y m h = omega arith
block_less (suc d) y m h =
    let e : m * 2 ^ suc d ≡ 2 * m * 2 ^ d =
    ap (λ (n : ℕ). m * n) (pow-suc 2 d) ∙ sym (mul_assoc m (2 ^ d) 2) ∙ mul_comm (m * 2 ^ d) 2 ∙ sym (mul_assoc 2 m (2 ^ d)) in
    omega (arith, block_less d y (2 * m) (omega arith))

-- a row or column below the side lies in the whole square
pub block_zero : (d y : ℕ) → y < 2 ^ d → block_of d y ≡ 0
block_zero d y h = omega (arith, block_less d y 1 (omega arith))
