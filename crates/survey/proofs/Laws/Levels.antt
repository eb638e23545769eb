-- A level taken back out of its unsigned form is a signed 32-bit number.
-- Assumes nothing.
use Prim.Native.Nat.{ℕ, ◌<◌}
use native.Mathlib.Decide.{dec_lt}
use native.Mathlib.Omega.{arith}
use borrow.Author.Tests.{lt-ltb, le-ltb}
use lib.Signed.{mag}
use mir.Syntax.{w32}
use mir.Val.{SFits}
use Rattle.survey.specs.Level.{lowered}

lowered_mag : (v : ℕ) → v < 4294967296 → Dec (v < 2147483648) → mag (lowered v) < 2147483648
lowered_mag v h (yes l) = rw (lt-ltb v 2147483648 l) (omega arith)
lowered_mag v h (no l) = rw (le-ltb v 2147483648 (omega arith)) (omega arith)

pub lowered_fits : (v : ℕ) → v < 4294967296 → SFits w32 (lowered v)
lowered_fits v h = record { sfits = lowered_mag v h (dec_lt v 2147483648) }
