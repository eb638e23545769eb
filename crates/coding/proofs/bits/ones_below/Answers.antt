-- `coding::bits::ones_below` meets its contract: the mask of the k lowest digits leaves the remainder by 2 ^ k.
use mathlib.Core.Path.{◌≡◌, ◌∙◌, ap}
use Prim.Native.Nat.{ℕ, ◌^◌, ◌≤◌, ◌<◌, ◌-◌, ◌%◌, ◌*◌}
use native.Mathlib.Nat.{mod-lt}
use native.Mathlib.Omega.{arith}
use lib.Bits.{and_mask, bit_and}
use lib.Count as Count
use lib.Pow.{pow_mono, pow_pos}
use Rattle.coding.proofs.bits.ones_below.Goals as goal

module _ (x k : ℕ) (h : k < 8) where
  masked : Count.ones (bit_and x (1 * 2 ^ k % 256 - 1)) ≡ Count.ones (x % 2 ^ k)
  masked =
      let e : 2 ^ k ≤ 128 = pow_mono {j = 7} (omega arith) in
      let m : 1 * 2 ^ k % 256 - 1 ≡ 2 ^ k - 1 = omega arith in
      ap (λ n. Count.ones (bit_and x n)) m ∙ ap Count.ones (and_mask x k)

  few : Count.ones (bit_and x (1 * 2 ^ k % 256 - 1)) ≤ 8
  few = omega (arith, masked, Count.ones-le k (x % 2 ^ k) (mod-lt x (pow_pos k)))

pub returns : goal.returns
returns c = (masked c.args.x c.args.k c.requires, few c.args.x c.args.k c.requires)
