-- The rounds of an entry while marks stand: doubled, and 1 more where the entry is marked. "FF FF FF FF" stays as it is.
use Rattle.std.specs.Prelude.{ℕ, ◌+◌, ◌*◌, ◌-◌, ◌/◌, ◌%◌, ◌^◌, Bool, cond, not, ◌&&◌, eqb, Option, None, Some}
use Rattle.outcome.specs.Bytes.{all_ones}

-- as many rounds no position has
abbrev pub rounds_limit : ℕ
rounds_limit = 2 ^ 31

-- so nothing is lost here
abbrev pub doubled : ℕ → ℕ
doubled w = cond (eqb w all_ones) w (w % rounds_limit * 2)

abbrev pub halved : ℕ → ℕ
halved w = cond (eqb w all_ones) w (w / 2)

abbrev pub with_mark : ℕ → ℕ
with_mark w = w - w % 2 + 1

abbrev pub is_marked : ℕ → Bool
is_marked w = eqb (w % 2) 1 && not (eqb w all_ones)

-- the rounds of a position, if it is lost, with or without a mark
unfoldable pub marked_rounds : Option ℕ → Bool → ℕ
marked_rounds None m = all_ones
marked_rounds (Some n) m = cond m (n * 2 + 1) (n * 2)
