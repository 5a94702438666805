-- Where the replies to an attack lead, from one edge on. Assumes nothing.
use Prim.Native.Nat.{ℕ, ◌+◌}
use mathlib.Core.Path.{◌≡◌}
use mathlib.Core.List.{List, ◌∷◌, map}
use Rattle.std.specs.Prelude.{Some}
use Rattle.fra.specs.Game.{after}
use Rattle.fra.specs.declared.Position.{Position}
use Rattle.fra.specs.declared.Task.{Task}
use Rattle.fra.specs.declared.Attack.{Attack}
use Rattle.outcome.specs.Certificate.{attack_leads}
use Rattle.game_moves.specs.declared.rounds.Target.{Target}
use Rattle.game_replies.specs.Challenges.{challenge_of, after_reply}
use Rattle.game_replies.specs.ReplySearch.{replies_from}
use Rattle.game_replies.specs.declared.Challenge.{Challenge}
use Rattle.game_replies.proofs.ReplySearch.{NextReply, all-replies}
use Rattle.game_replies.proofs.AttackReplies.{after_is}

module _ (t : Task) (p : Position) (a : Attack) where
  abbrev pub leads_from : ℕ → List Position
  leads_from k = map (after t p a) (replies_from t p a k)

  pub leads-next : {c : Challenge} → c ≡ challenge_of t p a → (k : ℕ) {j : ℕ} {x : Target} → NextReply t p a k j x
      → leads_from k ≡ after_reply c p x ∷ leads_from (j + 1)
  leads-next e k {j} {x} h = rw (h.first, h.target, e, after_is t p a j)

  -- from edge 0 on, that is where the attack leads
  pub leads-all : leads_from 0 ≡ attack_leads t p (Some a)
  unfolding attack_leads
  leads-all = rw (all-replies t p a)
