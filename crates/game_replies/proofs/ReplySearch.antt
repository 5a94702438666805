-- The search for replies, from one edge on: what it finds is the first of those that are left. For any task. Assumes nothing.
use Prim.Native.Nat.{ℕ, zero, suc, ◌+◌, ◌-◌, ◌≤◌, ◌<◌}
use mathlib.Core.Path.{◌≡◌, refl, sym, ◌∙◌, ap}
use mathlib.Core.Bool.{true, false}
use mathlib.Core.List.{[], ◌∷◌}
use Rattle.std.specs.Prelude.{Option, None, Some}
use native.Mathlib.Numerals.{add-one}
use native.Mathlib.Omega.{arith}
use native.Mathlib.Decide.{dec_lt}
use Rattle.fra.specs.Lists.{least}
use Rattle.fra.specs.Model.{edge_of}
use Rattle.fra.specs.Game.{is_reply, replies}
use Rattle.fra.specs.declared.Position.{Position}
use Rattle.fra.specs.declared.Task.{Task}
use Rattle.fra.specs.declared.Attack.{Attack}
use Rattle.fra_laws.proofs.Tests.{clash}
use Rattle.fra_laws.proofs.Least.{least-here, least-later, least-end, least_fails, keep_none, keep_some}
use Rattle.fra_laws.proofs.AttackMembers.{reply_facts}
use Rattle.game_moves.specs.AfterRound.{target_of}
use Rattle.game_moves.specs.declared.rounds.Target.{Target}
use Rattle.game_replies.specs.ReplySearch.{replier, replies_from, reply_answer, reply_from}
use Rattle.game_replies.specs.declared.Reply.{Reply}

module _ (t : Task) (p : Position) (a : Attack) (k : ℕ) where
  abbrev count : ℕ
  count = (replier t a).edge_count

  -- ── One edge after another ──

  pub reply_here : is_reply t p a k ≡ true → reply_from t p a k ≡ Some (record { edge = k; target = target_of (replier t a) (edge_of (replier t a) k) })
  unfolding reply_from
  reply_here e = rw (least-here (is_reply t p a) k count (reply_facts t p a k e).exists e)

  pub reply_later : is_reply t p a k ≡ false → reply_from t p a k ≡ reply_from t p a (k + 1)
  unfolding reply_from
  reply_later e = step (dec_lt k count)
    where
      step : Dec (k < count) → reply_from t p a k ≡ reply_from t p a (k + 1)
      step (yes h) = rw (least-later (is_reply t p a) k count h e)
      step (no h) =
          rw (least-end (is_reply t p a) k count (omega arith), least-end (is_reply t p a) (k + 1) count (omega arith))

  pub reply_none : ((j : ℕ) → k ≤ j → is_reply t p a j ≡ false) → reply_from t p a k ≡ None
  unfolding reply_from
  reply_none h = rw (least_fails (is_reply t p a) k count h)

  -- ── What was found ──

  abbrev found : Option ℕ
  found = least (is_reply t p a) k (count - k)

  -- edge number j is the first reply from number k on, and leads to x
  pub record NextReply (j : ℕ) (x : Target) : Type 0 where
    pub from : k ≤ j
    pub exists : j < count
    pub target : x ≡ target_of (replier t a) (edge_of (replier t a) j)
    pub first : replies_from t p a k ≡ j ∷ replies_from t p a (j + 1)

  module _ {r : Option Reply} (e : r ≡ reply_from t p a k) where
    pub reply_found : {x : Reply} → r ≡ Some x → NextReply x.edge x.target
    unfolding reply_from replies_from
    reply_found {x} d = step found refl (sym e ∙ d)
      where
        step : (o : Option ℕ) → found ≡ o → reply_answer (replier t a) o ≡ Some x → NextReply x.edge x.target
        step None f g = clash (cc)
        step (Some i) f g =
            let same : ◌≡◌ {A = Reply} (record { edge = i; target = target_of (replier t a) (edge_of (replier t a) i) }) x = cc in
            let edge = ap (λ (y : Reply). y.edge) same in
            let (l, q, h) = keep_some (is_reply t p a) k count i f in
            record {
              from = omega arith;
              exists = omega arith;
              target = sym (ap (λ (y : Reply). y.target) same) ∙ rw edge;
              first = rw (add-one, ← edge) h;
            }

    pub reply_missing : r ≡ None → replies_from t p a k ≡ []
    unfolding reply_from replies_from
    reply_missing d = step found refl (sym e ∙ d)
      where
        step : (o : Option ℕ) → found ≡ o → reply_answer (replier t a) o ≡ None → replies_from t p a k ≡ []
        step None f g = keep_none (is_reply t p a) k (count - k) f
        step (Some i) f g = clash (cc)

module _ (t : Task) (p : Position) (a : Attack) where
  -- edges that are no replies are passed over
  pub reply_skip : (k j : ℕ) → k ≤ j → ((i : ℕ) → k ≤ i → i < j → is_reply t p a i ≡ false)
      → reply_from t p a k ≡ reply_from t p a j
  reply_skip k j = go (j - k) k refl
    where
      go : (d k : ℕ) → j - k ≡ d → k ≤ j → ((i : ℕ) → k ≤ i → i < j → is_reply t p a i ≡ false)
          → reply_from t p a k ≡ reply_from t p a j
      go zero k e q fails = let same : k ≡ j = omega arith in rw same
      go (suc d) k e q fails =
          reply_later t p a k (fails k (omega arith) (omega arith))
          ∙ go d (k + 1) (omega arith) (omega arith) (λ i l h. fails i (omega arith) h)

  -- those from edge 0 on are all
  pub all-replies : replies_from t p a 0 ≡ replies t p a
  unfolding replies_from replies
  all-replies = let whole : (replier t a).edge_count - 0 ≡ (replier t a).edge_count = omega arith in rw whole
