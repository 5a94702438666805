-- A position's edges that drop no register leave all partners, and what the sums of a half say holds for the right edges of a
-- range. Assumes nothing.
use Prim.Native.Nat.{ℕ, ◌+◌, ◌≤◌, ◌<◌}
use mathlib.Core.Path.{◌≡◌, ◌∙◌, ap, ap₂}
use mathlib.Core.Bool.{true, false}
use mathlib.Core.List.{List}
use native.Mathlib.Omega.{arith}
use lib.ListN.{get_or, take}
use Rattle.fra.specs.Model.{edge_of}
use Rattle.fra.specs.Position.{legal}
use Rattle.fra.specs.declared.Position.{Position}
use Rattle.fra.specs.declared.Side.TheVariants.{Left, Right}
use Rattle.game_index.specs.Layout.{edge_places}
use Rattle.game_index.specs.Reading.{model_in, task_in}
use Rattle.game_index.specs.Ranges.{state_range, tag_range}
use Rattle.game_index.specs.Transitions.{transition_of}
use Rattle.game_index.specs.Writing.{drops, Index}
use Rattle.game_index.proofs.Reading.{index-model, sized_in}
use Rattle.game_index.proofs.EdgeRanges.{OfState, OfTag, state_range-edge, tag_range-edge}
use Rattle.table_keys.specs.Keys.{partner_base, radix_of}
use Rattle.table_keys.specs.declared.Radix.{Radix}
use Rattle.comparer_explore_laws.specs.HalfRounds.{joined_by}
use Rattle.comparer_explore_laws.specs.PartnerSums.{word_of}
use Rattle.comparer_explore_laws.proofs.Undropped.{left_keeps, left-takes, right_keeps}
use Rattle.comparer_explore.specs.HalfRounds.{Undropped, HalfOf, SummedBy, RangeSummed}
use Rattle.comparer_explore.specs.declared.expand.Half.{Half}

module _ {b : List ℕ} (index : Index b) (p : Position) (legal-p : legal 6 (task_in b) p ≡ true) where
  module _ (i : ℕ) (first : (state_range (model_in b Left) p.left).first ≤ i)
      (end : i < (state_range (model_in b Left) p.left).end)
    where
      own : OfState (model_in b Left) p.left i
      own = state_range-edge (index-model index Left) (sized_in b Left) p.left i first end

      -- there is a place for a left edge of its left state
      pub left-place : i < edge_places
      left-place = omega (arith, own.exists, (index-model index Left).valid.edges_placed, (sized_in b Left).edges)

      pub left_undropped : drops (model_in b Left) (edge_of (model_in b Left) i) ≡ false
          → Undropped (radix_of (task_in b)) p (transition_of (model_in b Left) i).target
      unfolding task_in
      left_undropped keeps =
          let valid = (index-model index Left).valid.edges i own.exists in
          record {
            partners = left_keeps index p legal-p i own.exists own.starts keeps;
            register = left-takes index p legal-p i own.exists own.starts keeps;
            least = valid.least;
            greatest = valid.greatest;
          }

  pub range_summed : {x : Radix} {half : Half} (tag : ℕ) → HalfOf x p half
      → RangeSummed b x half (tag_range (model_in b Right) p.right tag)
  range_summed {x} {half} tag h = record { places = place; sums = summed }
    where
      reply : (j : ℕ) → (tag_range (model_in b Right) p.right tag).first ≤ j
          → j < (tag_range (model_in b Right) p.right tag).end
          → OfTag (model_in b Right) p.right tag j
      reply j first end = tag_range-edge (index-model index Right) (sized_in b Right) p.right tag j first end

      place : (j : ℕ) → (tag_range (model_in b Right) p.right tag).first ≤ j
          → j < (tag_range (model_in b Right) p.right tag).end
          → j < edge_places
      place j first end =
          omega (arith, (reply j first end).exists, (index-model index Right).valid.edges_placed, (sized_in b Right).edges)

      summed : (j : ℕ) → (tag_range (model_in b Right) p.right tag).first ≤ j
          → j < (tag_range (model_in b Right) p.right tag).end
          → drops (model_in b Right) (edge_of (model_in b Right) j) ≡ false
          → SummedBy x half (transition_of (model_in b Right) j).target
      summed j first end d rest has =
          let u = h.whole rest has in
          let of = h.rest rest has in
          let r = (transition_of (model_in b Right) j).target in
          let valid = (index-model index Right).valid in
          let other = reply j first end in
          let digit : r.register < partner_base = omega (arith, (valid.edges j other.exists).greatest, valid.registers) in
          let same =
          ap₂ (λ (a : ℕ) (m : List ℕ). joined_by r.set a r.register 1 m) (h.halves.register ∙ u.register)
          (h.halves.partners ∙ u.partners)
          ∙ right_keeps index p legal-p j other.exists other.starts d half.edge.target.register in
          record {
            long = of.long;
            digit = digit;
            small = of.small r.register digit;
            sum =
                ap (λ (m : List ℕ). word_of (take x.registers m) + get_or rest.adds r.register 0) same
                ∙ of.sum r.register digit;
          }
