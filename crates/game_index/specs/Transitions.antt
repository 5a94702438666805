-- An edge as a round sees it.
use Rattle.std.specs.Prelude.{ℕ}
use Rattle.fra.specs.Model.{edge_of}
use Rattle.fra.specs.declared.Model.{Model}
use Rattle.game_moves.specs.AfterRound.{target_of}
use Rattle.game_index.specs.declared.Transition.{Transition}

-- what edge number k takes, and where it leads
abbrev pub transition_of : Model → ℕ → Transition
transition_of m k = record { kind = (edge_of m k).kind; target = target_of m (edge_of m k) }
