-- The replies to an attack among the edges of its challenge: all of them stand in its range, there the kind alone decides, and they
-- lead where the challenge says. Assumes nothing.
use Prim.Native.Nat.{ℕ, ◌%◌, ◌≤◌, ◌<◌}
use mathlib.Core.Path.{◌≡◌, refl}
use mathlib.Core.Bool.{true, false}
use mathlib.Core.List.{List}
use native.Mathlib.Omega.{arith}
use lib.ListN.{length}
use borrow.Author.Tests.{lt-ltb, eq-eqb}
use Rattle.fra.specs.Model.{edge_of}
use Rattle.fra.specs.Rules.{other, left_of, right_of, model_of}
use Rattle.fra.specs.Position.{state_of}
use Rattle.fra.specs.Game.{attack_edge, answers, reply_edge, is_reply, size_after, moved, after}
use Rattle.fra.specs.declared.Edge.{Edge}
use Rattle.fra.specs.declared.Position.{Position}
use Rattle.fra.specs.declared.Task.{Task}
use Rattle.fra.specs.declared.Side.{Side}
use Rattle.fra.specs.declared.Side.TheVariants.{Left, Right}
use Rattle.fra.specs.declared.Attack.{Attack}
use Rattle.fra_laws.proofs.Tests.{fails_unless}
use Rattle.fra_laws.proofs.AttackMembers.{reply_facts}
use Rattle.game_moves.specs.AfterRound.{target_of, moved_to}
use Rattle.game_index.specs.Layout.{edge_places}
use Rattle.game_index.specs.Reading.{task_in}
use Rattle.game_index.specs.Writing.{Index}
use Rattle.game_index.proofs.Reading.{model_in_lem, index-model, sized_in, few_edges}
use Rattle.game_index.proofs.EdgeRanges.{tag-inside, tag_range-edge}
use Rattle.game_replies.specs.Challenges.{challenge_of, after_reply}
use Rattle.game_replies.specs.ReplySearch.{replier}
use Rattle.game_replies.specs.declared.Challenge.{Challenge}

-- a reply leads where its target says
pub after_is : (t : Task) (p : Position) (a : Attack) (k : ℕ)
    → after_reply (challenge_of t p a) p (target_of (replier t a) (edge_of (replier t a) k)) ≡ after t p a k
unfolding after after_reply moved moved_to
after_is t p a k = step (size_after (length p.partners) a.case p.history) a.side (attack_edge t a) (reply_edge t a k)
  where
    step : (size : ℕ) (s : Side) (own others : Edge)
        → moved_to p size (left_of s (target_of (model_of t s) own) (target_of (model_of t (other s)) others))
        (right_of s (target_of (model_of t s) own) (target_of (model_of t (other s)) others))
        ≡ moved t p size (left_of s own others) (right_of s own others)
    step size Left own others = refl
    step size Right own others = refl

module _ {b : List ℕ} (h : Index b) (p : Position) (a : Attack) where
  abbrev t : Task
  t = task_in b

  abbrev away : Side
  away = other a.side

  abbrev asked : Challenge
  asked = challenge_of t p a

  reply_inside : (k : ℕ) → is_reply t p a k ≡ true → (asked.edges.first ≤ k) × (k < asked.edges.end)
  reply_inside k e =
      let r = reply_facts t p a k e in
      rw (model_in_lem b away)
      (tag-inside (index-model h away) (sized_in b away) (state_of p away) (attack_edge t a).tag k
      (rw (← model_in_lem b away) (record { exists = r.exists; starts = r.starts; tagged = r.tag })))

  -- an edge that exists has a place, so its number is its remainder
  pub placed : (k : ℕ) → k < (replier t a).edge_count → k % edge_places ≡ k
  placed k c = omega (arith, few_edges h away)

  -- edges before the range and past it are no replies
  pub none_before : (k : ℕ) → k < asked.edges.first → is_reply t p a k ≡ false
  none_before k c = fails_unless (is_reply t p a k) (λ e. omega (arith, (reply_inside k e).0))

  pub none_past : (k : ℕ) → asked.edges.end ≤ k → is_reply t p a k ≡ false
  none_past k c = fails_unless (is_reply t p a k) (λ e. omega (arith, (reply_inside k e).1))

  -- an edge of the range is a reply if its kind answers
  pub by_kind : (k : ℕ) → asked.edges.first ≤ k → k < asked.edges.end
      → is_reply t p a k ≡ answers asked.partner a.case (edge_of (replier t a) (k % edge_places)).kind
  unfolding is_reply
  by_kind k i c =
      let edge = rw (← model_in_lem b away) at
      (tag_range-edge (index-model h away) (sized_in b away) (state_of p away) (attack_edge t a).tag k (rw (← model_in_lem b away) i)
      (rw (← model_in_lem b away) c)) in
      rw (placed k edge.exists, lt-ltb _ _ edge.exists, eq-eqb _ _ edge.starts, eq-eqb _ _ edge.tagged)
