-- The size of the history after a left and a right edge have taken one number, by their kinds.
use Rattle.std.specs.Prelude.{ℕ, Bool, cond, ◌&&◌}
use Rattle.fra.specs.Model.{is_locally_fresh, is_fresh}
use Rattle.fra.specs.Game.{size_after}
use Rattle.fra.specs.declared.EdgeKind.{EdgeKind}
use Rattle.fra.specs.declared.IdCase.TheVariants.{New}

-- where both are fresh they can take a new number, for r registers; otherwise a reader holds the number
abbrev pub first_size : ℕ → ℕ → EdgeKind → EdgeKind → ℕ
first_size r size left right = cond (is_fresh left && is_fresh right) (size_after r New size) size

-- where both are locally fresh they can take a number seen before and held by neither
abbrev pub both_locally_fresh : EdgeKind → EdgeKind → Bool
both_locally_fresh left right = is_locally_fresh left && is_locally_fresh right
