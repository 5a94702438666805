-- A test as a byte of an index: written, and read. Assumes nothing.
use mathlib.Core.Path.{◌≡◌, refl}
use mathlib.Core.Bool.{Bool, true, false}
use lib.Dec.{eqb}
use mir.Val.{bool_byte}
use Rattle.game_index.specs.Writing.{flag}

-- the byte of a test is its flag
pub test-byte : (b : Bool) → bool_byte b ≡ flag b
test-byte true = refl
test-byte false = refl

-- the flag is 1 where the test passes
pub flag-read : (b : Bool) → eqb (flag b) 1 ≡ b
flag-read true = refl
flag-read false = refl
