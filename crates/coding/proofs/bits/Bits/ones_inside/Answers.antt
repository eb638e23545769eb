-- `coding::bits::Bits::ones_inside` meets its contract: the ones before a place are those of the bytes before its byte, counted from its block or from
-- the start, and of its byte's lower digits.
use mathlib.Core.Path.{◌≡◌, sym, ap, ◌∙◌}
use Prim.Native.Nat.{ℕ, ◌+◌, ◌-◌, ◌*◌, ◌/◌, ◌<◌}
use native.Mathlib.Omega.{arith}
use lib.ListN.{length}
use Rattle.coding.specs.Bits.{ones_before}
use Rattle.coding.specs.Places.{ones_in}
use Rattle.coding.specs.Seen.{bits_in}
use Rattle.coding.proofs.Laws.Bits.{before_of, block_of, ones_in_front, ones_in_block}
use Rattle.coding.proofs.bits.Bits.ones_inside.Goals as goal
use Rattle.coding.proofs.bits.Bits.ones_inside.Goals.{After-ones_below-last}

module _ (c : After-ones_below-last) where
  -- from the ones of the bytes before its own
  from_bytes : (n : ℕ) → let s = c.args.self.now.bytes.now in n ≡ ones_in s (c.args.z / 8) → n + c.ones_below-last.result ≡ ones_before (bits_in c.args.self.now) c.args.z
  from_bytes n e =
      let b = c.args.self.now in
      omega (arith, before_of b.bytes.now b.count c.args.z (omega (arith, c.requires)), e, c.ones_below-last.ensures.0)

pub returns-in-Some : goal.returns-in-Some
returns-in-Some c =
    let p = (goal.at.returns-in-Some c).After-ones_below-last in
    let a = 64 * (c.args.z / 512) in
    let q = c.args.z / 8 in
    let i = c.args.self.now.counted in
    let s = c.args.self.now.bytes.now in
    let h : c.args.z / 512 < length c.args.self.now.index.now = c.in-Some.ensures.lookup.3.0 in
    let b = c.in-Some.ensures.lookup.3.1 0 ∙ block_of i c.args.z c.requires h in
    let e : a + (q - a) ≡ q = omega arith in
    let r = ones_in_block s a (q - a) q c.ones_in.result (omega (arith, c.requires, i.fits)) (omega (arith, c.requires, i.fits)) c.ones_in.ensures.0 in
    from_bytes p (c.in-Some.sum.now + c.ones_in.result) (omega (arith, b, r, ap (ones_in s) e))

pub returns-in-None : goal.returns-in-None
returns-in-None c =
    let p = (goal.at.returns-in-None c).After-ones_below-last in
    let q = c.args.z / 8 in
    let s = c.args.self.now.bytes.now in
    from_bytes p c.ones_in-in-None.result (c.ones_in-in-None.ensures.0 ∙ sym (ones_in_front s q q (omega (arith, c.requires, c.args.self.now.counted.fits))))
