-- The game with actual numbers and the symbolic game agree, round by round. Assumes nothing.
use Prim.Native.Nat.{ℕ, zero, suc}
use mathlib.Core.Path.{◌≡◌}
use mathlib.Core.Logic.Iff
use mathlib.Core.Logic.{◌⊎◌, inl, inr, ◌↔◌}
use mathlib.Core.Bool.{true}
use native.Mathlib.Omega.{arith}
use Rattle.fra.specs.Lists.{◌∈◌}
use Rattle.fra.specs.Rules.{Rules}
use Rattle.fra.specs.Game.{replies, after, lost_at_once, lost_within, NeverLost, HasRank}
use Rattle.fra.specs.Valid.{Valid}
use Rattle.fra.specs.declared.Position.{Position}
use Rattle.fra.specs.declared.Task.{Task}
use Rattle.fra.specs.declared.Attack.{Attack}
use Rattle.fra.specs.declared.Side.TheVariants.{Left, Right}
use Rattle.fra.specs.declared.IdCase.{IdCase}
use Rattle.fra_laws.proofs.Tests.{fails_unless, not_both}
use Rattle.fra_laws.proofs.Lost.{Winnable, lost_at_once_lem, lost-step}
use Rattle.fra_laws.proofs.Ranks.{rank-least}
use Rattle.numbers.specs.Numbers.{Setting, Choice, Reply, after_reply, Forced, Opening, Enough, LeastEnough}
use Rattle.numbers_laws.proofs.Over.{Over}
use Rattle.numbers_laws.proofs.Choices.{attack_of, Chosen, attack_of_choice, choice_of-attack}
use Rattle.numbers_laws.proofs.NumberReplies.{replies_agree}
use Rattle.numbers_laws.proofs.OverAfterRounds.{round_over}
use Rattle.numbers_laws.proofs.Openings.{opening_over, an_opening}

module _ (g : Rules) (r : ℕ) (t : Task) (v : Valid r t) where
  -- n rounds: a setting is forced exactly if a position that it stands over is lost
  abbrev Agree : ℕ → Type 0
  Agree n = (s : Setting) (p : Position) → Over r t s p → Forced g t n s ↔ (lost_within g t n p ≡ true)

  one_more_round : (n : ℕ) → Agree n → Agree (suc n)
  unfolding Forced
  one_more_round n agree s p o = (λ f. (lost-step g t n p).1 (to f), λ h. from ((lost-step g t n p).0 h))
    where
      -- every reply to a choice leads to a setting forced within n rounds exactly if every reply to an attack of the same
      -- side and edge, in the case of the choice's number, leads to a position lost within n rounds
      choice_won : (c : Choice g t s) (d : IdCase) → Chosen g t s c d
          → ((k : ℕ) → Reply g t s c k → Forced g t n (after_reply g t s c k))
          ↔ ((k : ℕ) → k ∈ replies t p (attack_of g t s c d) → lost_within g t n (after t p (attack_of g t s c d) k) ≡ true)
      choice_won c d chosen = (
        λ f k m. let q = (same k).1 m in (after_round k q).0 (f k q),
        λ h k q. (after_round k q).1 (h k ((same k).0 q)),
      )
        where
          a : Attack
          a = attack_of g t s c d

          same : (k : ℕ) → Reply g t s c k ↔ (k ∈ replies t p a)
          same = replies_agree r t s p o g c d chosen

          after_round : (k : ℕ) → Reply g t s c k
              → Forced g t n (after_reply g t s c k) ↔ (lost_within g t n (after t p a k) ≡ true)
          after_round k q = agree (after_reply g t s c k) (after t p a k) (round_over r t v s p o g c d chosen k q)

      to : Forced g t (suc n) s → (lost_within g t n p ≡ true) ⊎ Winnable g t n p
      to (inl f) = inl ((agree s p o).0 f)
      to (inr (c, f)) =
          let (d, chosen, m) = attack_of_choice r t v s p o g c in
          inr (attack_of g t s c d, m, (choice_won c d chosen).0 f)

      from : (lost_within g t n p ≡ true) ⊎ Winnable g t n p → Forced g t (suc n) s
      from (inl h) = inl ((agree s p o).1 h)
      from (inr (a, m, w)) =
          let (c, chosen, e) = choice_of-attack r t v s p o g a m in
          inr (c, (choice_won c a.case chosen).1 (rw e at w))

  pub forced_iff_lost : (n : ℕ) (s : Setting) (p : Position) → Over r t s p
      → Forced g t n s ↔ (lost_within g t n p ≡ true)
  unfolding Forced lost_at_once
  forced_iff_lost zero s p o = rw (lost_at_once_lem g t p, o.states Left, o.states Right) Iff.rfl
  forced_iff_lost (suc n) s p o = one_more_round n (forced_iff_lost n) s p o

-- ── Demand 3, for any register count r, any rules and any valid task ──

module _ (r : ℕ) (t : Task) (v : Valid r t) where
  -- a valid task has openings
  pub opening-exists : (s : Setting) × Opening r t s
  opening-exists = an_opening r t v

  module _ (g : Rules) (s : Setting) (o : Opening r t s) where
    -- a count of rounds is enough for an opening exactly if the start is lost within that count
    pub enough_iff_lost : (n : ℕ) → Enough g t n s ↔ (lost_within g t n t.start ≡ true)
    enough_iff_lost n = forced_iff_lost g r t v n s t.start (opening_over r t v s o)

    -- it is the least that is enough exactly if the start is lost within that count, and within no smaller one
    pub least-enough_iff_first-lost : (n : ℕ) → LeastEnough g t n s ↔ HasRank g t t.start n
    least-enough_iff_first-lost n = (
      λ h.
          record {
            lost = (enough_iff_lost n).0 h.enough;
            not_before = λ m b. fails_unless _ (λ e. let c = h.least m ((enough_iff_lost m).1 e) in omega arith);
          },
      λ h.
          record {
            enough = (enough_iff_lost n).1 h.lost;
            least = λ m e. rank-least g t m h ((enough_iff_lost m).0 e);
          },
    )

    -- no count is enough exactly if the start is never lost
    pub never_enough_iff_never_lost : ((n : ℕ) → Enough g t n s → ⊥) ↔ NeverLost g t t.start
    never_enough_iff_never_lost = (
      λ h n. fails_unless _ (λ e. h n ((enough_iff_lost n).1 e)),
      λ h n e. not_both _ ((enough_iff_lost n).0 e) (h n),
    )
