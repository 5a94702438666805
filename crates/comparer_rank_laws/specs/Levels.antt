-- The rounds of a position as far as k passes find them.
use Rattle.std.specs.Prelude.{ℕ, Bool, eqb}
use Rattle.fra.specs.Rules.{Rules}
use Rattle.fra.specs.Reach.{rank}
use Rattle.fra.specs.declared.Position.{Position}
use Rattle.fra.specs.declared.Task.{Task}
use Rattle.outcome.specs.Certificate.{rounds_or_never}

-- the rounds if they are at most k, else "FF FF FF FF"
unfoldable pub level : Rules → Task → ℕ → Position → ℕ
level g t k p = rounds_or_never (rank g t k p)

-- the position is lost within k rounds and not within fewer
abbrev pub ranked : Rules → Task → ℕ → Position → Bool
ranked g t k p = eqb (level g t k p) k
