-- Whether an attack exists, by what an index holds. Assumes nothing.
use Prim.Native.Nat.{ℕ}
use mathlib.Core.Path.{◌≡◌}
use mathlib.Core.Bool.{◌&&◌}
use mathlib.Core.List.{List}
use lib.Dec.{ltb, eqb}
use Rattle.fra.specs.Model.{set_of, edge_of}
use Rattle.fra.specs.Rules.{other}
use Rattle.fra.specs.Position.{state_of, has_room}
use Rattle.fra.specs.Game.{is_attack}
use Rattle.fra.specs.declared.Position.{Position}
use Rattle.fra.specs.declared.Attack.{Attack}
use Rattle.game_moves.specs.IdCases.{has_case_in}
use Rattle.game_moves.proofs.IdCases.{has_case_in_lem}
use Rattle.game_index.specs.Reading.{model_in, task_in, rules_in}
use Rattle.game_index.proofs.Reading.{model_in_lem}

pub attack_in_lem : (b : List ℕ) (p : Position) (a : Attack)
    → is_attack (rules_in b) (task_in b) p a
    ≡ ((rules_in b).attacks a.side
    && ltb a.edge (model_in b a.side).edge_count
    && eqb (edge_of (model_in b a.side) a.edge).from (state_of p a.side)
    && has_case_in (set_of (model_in b (other a.side)) (state_of p (other a.side))) (has_room (task_in b) p) p a.side
    (edge_of (model_in b a.side) a.edge).kind
    a.case)
unfolding is_attack
attack_in_lem b p a =
    let s = a.side in
    rw (← has_case_in_lem (task_in b) p s _ a.case, model_in_lem b s, model_in_lem b (other s))
