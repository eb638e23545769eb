-- Keys: a key has one cell and a cell one key, so going through the keys in order lists each cell once, in order of key.
-- Assumes nothing.
use mathlib.Core.Path.{◌≡◌, ap}
use Prim.Native.Nat.{ℕ, zero, suc, ◌+◌, ◌*◌, ◌/◌, ◌%◌, ◌^◌, ◌<◌}
use native.Mathlib.Nat.{pow-suc}
use native.Mathlib.Omega.{arith}
use Rattle.survey.specs.Sides.{depth_limit}
use Rattle.survey.specs.Key.{spread_of, key_of, gather_of, row_of, column_of}

-- the digits of a column stand at the even places of a key, those of a row at the odd ones
column_gather : (d y x : ℕ) → x < 2 ^ d → gather_of d (2 * spread_of d y + spread_of d x) ≡ x
column_gather zero y x h = omega arith
column_gather (suc d) y x h =
    let e : (2 * (y % 2 + 4 * spread_of d (y / 2)) + (x % 2 + 4 * spread_of d (x / 2))) / 4 ≡ 2 * spread_of d (y / 2) + spread_of d (x / 2) = omega arith in
    omega (arith, ap (gather_of d) e, column_gather d (y / 2) (x / 2) (omega (arith, pow-suc 2 d)))

row_gather : (d y x : ℕ) → y < 2 ^ d → gather_of d ((2 * spread_of d y + spread_of d x) / 2) ≡ y
row_gather zero y x h = omega arith
row_gather (suc d) y x h =
    let e : (2 * (y % 2 + 4 * spread_of d (y / 2)) + (x % 2 + 4 * spread_of d (x / 2))) / 2 / 4 ≡ (2 * spread_of d (y / 2) + spread_of d (x / 2)) / 2 = omega arith in
    omega (arith, ap (gather_of d) e, row_gather d (y / 2) (x / 2) (omega (arith, pow-suc 2 d)))

-- the cell of a cell's key is the cell
pub row_of_key : (y x : ℕ) → y < 2 ^ depth_limit → row_of (key_of y x) ≡ y
row_of_key y x h = row_gather depth_limit y x h

pub column_of_key : (y x : ℕ) → x < 2 ^ depth_limit → column_of (key_of y x) ≡ x
column_of_key y x h = column_gather depth_limit y x h

spread_gather : (d k : ℕ) → k < 4 ^ d → 2 * spread_of d (gather_of d (k / 2)) + spread_of d (gather_of d k) ≡ k
spread_gather zero k h = omega arith
spread_gather (suc d) k h =
    let r = gather_of d (k / 2 / 4) in
    let c = gather_of d (k / 4) in
    let a : (k / 2 % 2 + 2 * gather_of d (k / 2 / 4)) / 2 ≡ gather_of d (k / 2 / 4) = omega arith in
    let b : (k % 2 + 2 * gather_of d (k / 4)) / 2 ≡ gather_of d (k / 4) = omega arith in
    let e : k / 2 / 4 ≡ k / 4 / 2 = omega arith in
    omega (
      arith,
      ap (spread_of d) a,
      ap (spread_of d) b,
      ap (λ (n : ℕ). spread_of d (gather_of d n)) e,
      spread_gather d (k / 4) (omega (arith, pow-suc 4 d)),
    )

-- the key of a key's cell is the key
pub key_of_cell : (k : ℕ) → k < 4 ^ depth_limit → key_of (row_of k) (column_of k) ≡ k
key_of_cell k h = spread_gather depth_limit k h
