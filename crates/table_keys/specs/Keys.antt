-- A position packed into one number of mixed radix. The radix follows from a task: a digit for each left register, and no more
-- numbers than states and sizes need, so that a key can be the place of a bit.
use Rattle.std.specs.Prelude.{ℕ, ◌+◌, ◌*◌, ◌-◌, ◌/◌, ◌%◌, ◌^◌, ◌≤◌, ◌<◌, ◌≡◌, ◌++◌, length, take, drop, replicate}
use Rattle.fra.specs.declared.Position.{Position}
use Rattle.fra.specs.declared.Task.{Task}
use Rattle.listing.specs.Digits.{value, digits, Below}
use Rattle.table_keys.specs.declared.Radix.{Radix}

-- a partner takes a digit of base 8
abbrev pub partner_base : ℕ
partner_base = 8

-- a history has the least size or more, up to 13
abbrev pub sizes_of : Radix → ℕ
sizes_of x = 14 - x.least

-- ((left * right states + right) * 8 + first partner) * 8 + .., for the registers that the left model has
abbrev pub front_of : Radix → Position → ℕ
front_of x p = value partner_base (p.left * x.right + p.right) (take x.registers p.partners)

-- the key: these digits, and then how far the history's size is above the least, so that keys rise as positions do
unfoldable pub key_of : Radix → Position → ℕ
key_of x p = front_of x p * sizes_of x + (p.history - x.least)

-- keys are below this
unfoldable pub key_count : Radix → ℕ
key_count x = x.left * x.right * partner_base ^ x.registers * sizes_of x

-- the position that a key packs; a register that the left model has not has no partner
unfoldable pub position_from : Radix → ℕ → Position
position_from x k =
    record {
      left = k / sizes_of x / partner_base ^ x.registers / x.right;
      right = k / sizes_of x / partner_base ^ x.registers % x.right;
      partners = digits partner_base x.registers (k / sizes_of x) ++ replicate (6 - x.registers) 0;
      history = x.least + k % sizes_of x;
    }

-- 2 ^ 30, more than any key: 16 * 16 * 8 ^ 6 * 14 are 939524096
abbrev pub key_limit : ℕ
key_limit = 1073741824

-- the radix of a task's positions: a history's size does not fall, so the start's is the least
abbrev pub radix_of : Task → Radix
radix_of t =
    record {
      left = t.left.state_count;
      right = t.right.state_count;
      registers = t.left.registers;
      least = t.start.history;
    }

-- a radix within 01's limits: "1 to 16 states", at most six registers, a history's size of at most 13
pub record Sized (x : Radix) : Type 0 where
  pub left : x.left ≤ 16
  pub some : 1 ≤ x.right
  pub right : x.right ≤ 16
  pub registers : x.registers ≤ 6
  pub least : x.least ≤ 13

-- a position whose numbers fit the digits of a key
pub record Fits (x : Radix) (p : Position) : Type 0 where
  pub left : p.left < x.left
  pub right : p.right < x.right
  pub long : length p.partners ≡ 6
  pub partners : Below partner_base (take x.registers p.partners)
  pub unused : drop x.registers p.partners ≡ replicate (6 - x.registers) 0
  pub least : x.least ≤ p.history
  pub most : p.history ≤ 13
