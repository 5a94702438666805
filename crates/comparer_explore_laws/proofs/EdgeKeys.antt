-- The keys of successors are those wanted of the left edges that start in the position's left state. Assumes nothing.
use Prim.Native.Nat.{ℕ, ◌≤◌, ◌<◌}
use mathlib.Core.Path.{◌≡◌, sym, ◌∙◌, ap}
use mathlib.Core.Bool.{true}
use mathlib.Core.List.{List}
use native.Mathlib.Nat.{le_trans}
use lib.ListN.{length}
use Rattle.fra.specs.Lists.{◌∈◌}
use Rattle.fra.specs.Model.{edge_of}
use Rattle.fra.specs.Position.{has_room, legal}
use Rattle.fra.specs.Reach.{successors}
use Rattle.fra.specs.declared.Position.{Position}
use Rattle.fra.specs.declared.Side.TheVariants.{Left, Right}
use Rattle.fra_laws.proofs.Legal.{legal_facts}
use Rattle.fra_laws.proofs.Pairs.{Pair}
use Rattle.fra_laws.proofs.LegalRounds.{successors-legal}
use Rattle.fra_laws.proofs.Reached.{successors_grow}
use Rattle.fra_laws.proofs.Successors.{successors_by_pairs}
use Rattle.fra_laws.specs.Joint.{compatible, sizes_after}
use Rattle.game_moves.specs.AfterRound.{moved_to}
use Rattle.game_moves.proofs.AttacksBySide.{moved-to}
use Rattle.game_index.specs.Reading.{model_in, task_in, rules_in}
use Rattle.game_index.specs.Ranges.{state_range}
use Rattle.game_index.specs.Transitions.{transition_of}
use Rattle.game_index.specs.Writing.{Index}
use Rattle.game_index.specs.declared.Range.{Range}
use Rattle.game_index.proofs.Reading.{index-model, sized_in, left-attacks}
use Rattle.game_index.proofs.EdgeRanges.{state-inside, tag-inside, state_range-edge, tag_range-edge}
use Rattle.table_keys.specs.Keys.{key_of, radix_of, Fits}
use Rattle.table_keys.proofs.Keys.{legal-fits}
use Rattle.key_set_laws.specs.Growth.{Among}
use Rattle.comparer_explore_laws.specs.EdgeKeys.{RangeFits, tagged, EdgeKey}
use Rattle.comparer_explore_laws.specs.Exploring.{SuccessorKey}

module _ {b : List ℕ} (index : Index b) (p : Position) (legal-p : legal 6 (task_in b) p ≡ true) where
  abbrev edges : Range
  edges = state_range (model_in b Left) p.left

  six : length p.partners ≡ 6
  six = (legal_facts 6 (task_in b) p legal-p).long

  pub edges_of-successors : (k : ℕ) → SuccessorKey (rules_in b) (task_in b) p k → Among edges.first edges.end (EdgeKey b p) k
  unfolding task_in
  edges_of-successors k (q, m, d) =
      let (i, j, size, x, f) = (successors_by_pairs index.indexable.valid (rules_in b) p legal-p Left (left-attacks b) q).0 m in
      let (first, end) =
      state-inside (index-model index Left) (sized_in b Left) p.left i (record { exists = x.exists; starts = x.starts }) in
      let (other-first, other-end) =
      tag-inside (index-model index Right) (sized_in b Right) p.right (edge_of (model_in b Left) i).tag j
      (record { exists = x.other-exists; starts = x.other-starts; tagged = x.tag }) in
      let after = moved-to (task_in b) p size (edge_of (model_in b Left) i) (edge_of (model_in b Right) j) in
      let sized = rw six at x.sized in
      (i, first, end, (j, other-first, other-end, (x.joint, size, sized, d ∙ ap (key_of (radix_of (task_in b))) (f ∙ sym after))))

  -- a left and a right edge that can take one number lead to a successor
  module _ (i : ℕ) (first : edges.first ≤ i) (end : i < edges.end) (j : ℕ) (other-first : (tagged b p i).first ≤ j)
      (other-end : j < (tagged b p i).end) (joint : compatible p Left (edge_of (model_in b Left) i).kind (edge_of (model_in b Right) j).kind ≡ true)
      (size : ℕ)
      (size_in : size ∈ sizes_after 6 (has_room (task_in b) p) p.history (edge_of (model_in b Left) i).kind (edge_of (model_in b Right) j).kind)
    where
      after : Position
      after = moved_to p size (transition_of (model_in b Left) i).target (transition_of (model_in b Right) j).target

      pair_successor : after ∈ successors (rules_in b) (task_in b) p
      unfolding task_in after
      pair_successor =
          let own = state_range-edge (index-model index Left) (sized_in b Left) p.left i first end in
          let tag = (edge_of (model_in b Left) i).tag in
          let reply = tag_range-edge (index-model index Right) (sized_in b Right) p.right tag j other-first other-end in
          let pair : Pair (task_in b) p Left i j size =
          record {
            exists = own.exists;
            other-exists = reply.exists;
            starts = own.starts;
            other-starts = reply.starts;
            tag = reply.tagged;
            joint = joint;
            sized = rw six size_in;
          } in
          (successors_by_pairs index.indexable.valid (rules_in b) p legal-p Left (left-attacks b) _).1
          (i, j, size, pair, moved-to (task_in b) p size (edge_of (model_in b Left) i) (edge_of (model_in b Right) j))

      -- so that it fits a key
      pair_fits : (task_in b).start.history ≤ p.history → Fits (radix_of (task_in b)) after
      pair_fits least =
          let valid = index.indexable.valid in
          legal-fits (task_in b) after valid (successors-legal valid (rules_in b) p after legal-p pair_successor)
          (le_trans least (successors_grow (rules_in b) (task_in b) p after pair_successor))

  pub successors-of-edges : (k : ℕ) → Among edges.first edges.end (EdgeKey b p) k → SuccessorKey (rules_in b) (task_in b) p k
  unfolding after
  successors-of-edges k (i, first, end, (j, other-first, other-end, (joint, size, size_in, d))) =
      (_, pair_successor i first end j other-first other-end joint size size_in, d)

  pub edges_fit : (task_in b).start.history ≤ p.history → (i : ℕ) → edges.first ≤ i → i < edges.end
      → RangeFits b (radix_of (task_in b)) (has_room (task_in b) p) p (transition_of (model_in b Left) i) (tagged b p i)
  unfolding after
  edges_fit least i first end j other-first other-end joint size size_in =
      pair_fits i first end j other-first other-end joint size size_in least
