-- What a game on two models is played by: its sides, and its rules.
use Rattle.std.specs.Prelude.{ℕ, zero, suc, Bool, true, false, not, ◌&&◌, eqb}
use Rattle.fra.specs.declared.Model.{Model}
use Rattle.fra.specs.declared.Task.{Task}
use Rattle.fra.specs.declared.Side.{Side}
use Rattle.fra.specs.declared.Side.TheVariants.{Left, Right}
use Rattle.fra.specs.declared.Game.{Game}
use Rattle.fra.specs.declared.Game.TheVariants.{BothAttack, LeftAttacks}

abbrev pub other : Side → Side
other Left = Right
other Right = Left

-- of what the attacking side s and the other side have, the left one and the right one
module _ {A : Type 0} where
  abbrev pub left_of : Side → A → A → A
  left_of Left own others = own
  left_of Right own others = others

  abbrev pub right_of : Side → A → A → A
  right_of Left own others = others
  right_of Right own others = own

-- a side's model
abbrev pub model_of : Task → Side → Model
model_of t Left = t.left
model_of t Right = t.right

-- which sides attack, and at which left and right end marks a position is lost at once
pub record Rules : Type 0 where
  pub attacks : Side → Bool
  pub lost : ℕ → ℕ → Bool

-- bisimulation: both sides attack, and differing end marks lose
abbrev pub bisimulation : Rules
bisimulation = record { attacks = λ s. true; lost = λ l r. not (eqb l r) }

abbrev pub is_left : Side → Bool
is_left Left = true
is_left Right = false

-- simulation (02, ticket 1): "only the left side attacks, and a position is lost in 0 rounds if the left end mark is 1 and the
-- right is 0"
abbrev pub simulation : Rules
simulation = record { attacks = is_left; lost = λ l r. eqb l 1 && eqb r 0 }

-- what each game is
abbrev pub rules_of : Game → Rules
rules_of BothAttack = bisimulation
rules_of LeftAttacks = simulation

-- a game as one number
abbrev pub game_number : Game → ℕ
game_number BothAttack = 0
game_number LeftAttacks = 1

abbrev pub game_of : ℕ → Game
game_of zero = BothAttack
game_of (suc n) = LeftAttacks
