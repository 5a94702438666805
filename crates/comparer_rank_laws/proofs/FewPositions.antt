-- A task that has an index has so few positions that their number fits four bytes. Assumes nothing.
use Prim.Native.Nat.{ℕ, ◌≤◌}
use mathlib.Core.List.{List}
use native.Mathlib.Omega.{arith}
use lib.ListN.{length}
use Rattle.fra.specs.Rules.{Rules, model_of}
use Rattle.fra.specs.Reach.{reached}
use Rattle.fra.specs.declared.Side.{Side}
use Rattle.fra.specs.declared.Side.TheVariants.{Left, Right}
use Rattle.fra_laws.proofs.LegalPositions.{most_positions, most_positions-all}
use Rattle.fra_laws.proofs.Reached.{reached-unique, reached-legal}
use Rattle.game_index.specs.Layout.{state_places}
use Rattle.game_index.specs.Reading.{task_in}
use Rattle.game_index.specs.Writing.{Index}
use Rattle.game_index.proofs.Reading.{model_in_lem, index-model, sized_in}

module _ {b : List ℕ} (index : Index b) where
  pub few_states : (s : Side) → (model_of (task_in b) s).state_count ≤ state_places
  few_states s = rw (model_in_lem b s) (omega (arith, (index-model index s).valid.states_placed, (sized_in b s).states))

  pub few_positions : (g : Rules) → length (reached g (task_in b)) ≤ most_positions
  few_positions g =
      let valid = index.indexable.valid in
      most_positions-all valid (few_states Left) (few_states Right) (reached g (task_in b)) (reached-unique valid g)
      (reached-legal valid g)
