-- `coding::bits::Bits::ones_before` meets its contract: beyond the last bit the ones are those before it, and itself.
use mathlib.Core.Path.{◌≡◌, refl, ap}
use mathlib.Core.Bool.{Bool, true, false}
use Prim.Native.Nat.{◌+◌, ◌-◌, ◌≤◌}
use native.Mathlib.Omega.{arith}
use mir.Val.{bool_byte}
use Rattle.coding.specs.Bits.{bit, ones_before}
use Rattle.coding.specs.Places.{bits_of}
use Rattle.coding.specs.Seen.{bits_in}
use Rattle.coding.proofs.Laws.Bits.{before_le, before_beyond, before_last, counted}
use Rattle.coding.proofs.bits.Bits.ones_before.Goals as goal
use Rattle.coding.proofs.bits.Bits.ones_before.Goals.{After-get}

pub returns-then-z-self : goal.returns-then-z-self
returns-then-z-self c =
    let b = c.args.self.now in
    (c.ones_inside.ensures, omega (arith, c.ones_inside.ensures, before_le (bits_in b) c.args.z, counted b.counted refl, b.counted.small))

bit_is : (b : Bool) → bool_byte b ≡ bit b
bit_is true = refl
bit_is false = refl

-- all ones are those before the last bit, and the last bit itself
all : (c : After-get) → c.ones_inside-2.result + bool_byte c.get.result ≡ ones_before (bits_in c.args.self.now) c.args.z
all c =
    let s = c.args.self.now.bytes.now in
    let n = c.args.self.now.count in
    omega (
      arith,
      before_last s n (n - 1) c.args.z (omega arith) c.if-z-self.false,
      c.ones_inside-2.ensures,
      bit_is c.get.result,
      ap bit c.get.ensures,
    )

-- and so few that they fit
few : (c : After-get) → ones_before (bits_in c.args.self.now) c.args.z ≤ c.args.self.now.count
few c =
    let s = c.args.self.now.bytes.now in
    let n = c.args.self.now.count in
    omega (arith, before_beyond s n c.args.z c.if-z-self.false, before_le (bits_of s n) n)

pub overflow_add-result : goal.overflow_add-result
overflow_add-result c = omega (arith, all c, few c, c.args.self.now.counted.small)

pub returns : goal.returns
returns c = (all c, omega (arith, all c, few c, c.args.self.now.counted.small))
