-- The numbers by which an attack is written: "a side (1 left, 2 right), an edge number and an id case".
use Rattle.std.specs.Prelude.{ℕ, ◌+◌, cond, Option, None, Some, leb, eqb}
use Rattle.fra.specs.declared.Side.{Side}
use Rattle.fra.specs.declared.Side.TheVariants.{Left, Right}
use Rattle.fra.specs.declared.IdCase.{IdCase}
use Rattle.fra.specs.declared.IdCase.TheVariants.{Held, Private, Seen, New}

-- "a side (1 left, 2 right)"
abbrev pub side_number : Side → ℕ
side_number Left = 1
side_number Right = 2

-- the side with this number, if one has it
unfoldable pub side_of : ℕ → Option Side
side_of n = cond (eqb n 1) (Some Left) (cond (eqb n 2) (Some Right) None)

-- the numbers of the id cases: 0; 1 to r; r + 1 and r + 2, for r registers
abbrev pub case_number : ℕ → IdCase → ℕ
case_number r Held = 0
case_number r (Private j) = j
case_number r Seen = r + 1
case_number r New = r + 2

-- the id case with this number, if one has it
unfoldable pub case_of : ℕ → ℕ → Option IdCase
case_of r n =
    cond (eqb n 0) (Some Held)
    (cond (leb n r) (Some (Private n)) (cond (eqb n (r + 1)) (Some Seen) (cond (eqb n (r + 2)) (Some New) None)))
