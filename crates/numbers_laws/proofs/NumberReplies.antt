-- At a setting that stands over a position, the replies to a number and the replies to an attack in the number's id case
-- are the same edges. Assumes nothing.
use Prim.Native.Nat.{ℕ, zero, suc}
use mathlib.Core.Path.{◌≡◌, refl, sym, ◌∙◌}
use mathlib.Core.Logic.{◌↔◌}
use mathlib.Core.Bool.{true, false≢true}
use borrow.Author.Tests.{eqb-true, eq-eqb}
use Rattle.fra.specs.Lists.{◌∈◌}
use Rattle.fra.specs.Model.{register_of}
use Rattle.fra.specs.Rules.{Rules, other, model_of}
use Rattle.fra.specs.Position.{partner}
use Rattle.fra.specs.Game.{attack_edge, reply_edge, answers, replies}
use Rattle.fra.specs.declared.EdgeKind.{EdgeKind}
use Rattle.fra.specs.declared.EdgeKind.TheVariants.{Known, LocallyFresh, GloballyFresh}
use Rattle.fra.specs.declared.Position.{Position}
use Rattle.fra.specs.declared.Task.{Task}
use Rattle.fra.specs.declared.Attack.{Attack}
use Rattle.fra.specs.declared.Side.{Side}
use Rattle.fra.specs.declared.IdCase.{IdCase}
use Rattle.fra.specs.declared.IdCase.TheVariants.{Held, Private, Seen, New}
use Rattle.fra_laws.proofs.AttackMembers.{ReplyAt, reply_at, is_reply_lem}
use Rattle.numbers.specs.Numbers.{Setting, reader_of, Takes, Choice, Reply}
use Rattle.numbers_laws.proofs.Over.{Over, placed, partner-holds, not_unpartnered, unseen_lacks}
use Rattle.numbers_laws.proofs.Choices.{Found, InCase, attack_of, Chosen}

module _ (r : ℕ) (t : Task) (s : Setting) (p : Position) (o : Over r t s p) where
  -- a side's edges take a number exactly as they answer the case in which that side finds it
  found-answers : (σ : Side) (n : ℕ) (c : IdCase) → Found t s σ n c → (κ : EdgeKind)
      → Takes (model_of t σ) (reader_of s σ) s.history κ n ↔ (answers 0 c κ ≡ true)
  unfolding Takes answers
  found-answers σ n Held f κ = absurd f
  found-answers σ n (Private j) f (Known i) =
      (λ h. eq-eqb i j ((placed t s o.setting σ).distinct i j n h f), λ e. rw (eqb-true i j e) f)
  found-answers σ n (Private j) f (LocallyFresh i) = (λ h. absurd (h j f), λ e. absurd (false≢true e))
  found-answers σ n (Private j) f (GloballyFresh i) =
      (λ h. absurd (h ((placed t s o.setting σ).seen j n f)), λ e. absurd (false≢true e))
  found-answers σ n Seen f (Known i) = (λ h. absurd (f.0 i h), λ e. absurd (false≢true e))
  found-answers σ n Seen f (LocallyFresh i) = (λ h. refl, λ e. f.0)
  found-answers σ n Seen f (GloballyFresh i) = (λ h. absurd (h f.1), λ e. absurd (false≢true e))
  found-answers σ n New f (Known i) = (λ h. absurd (unseen_lacks r t s p o σ n f i h), λ e. absurd (false≢true e))
  found-answers σ n New f (LocallyFresh i) = (λ h. refl, λ e. unseen_lacks r t s p o σ n f)
  found-answers σ n New f (GloballyFresh i) = (λ h. refl, λ e. f)

  -- an edge of the other side takes a number exactly as it answers an attack in the number's case
  case-answers : (σ : Side) (i n : ℕ) (c : IdCase) → InCase t s σ i n c → (κ : EdgeKind)
      → Takes (model_of t (other σ)) (reader_of s (other σ)) s.history κ n ↔ (answers (partner p σ i) c κ ≡ true)
  unfolding answers
  case-answers σ i n Held a κ = step (partner p σ i) refl
    where
      step : (b : ℕ) → partner p σ i ≡ b
          → Takes (model_of t (other σ)) (reader_of s (other σ)) s.history κ n ↔ (answers b Held κ ≡ true)
      step zero e =
          found-answers (other σ) n Seen
          (λ j b. not_unpartnered r t s p o σ i j n a b e, (placed t s o.setting σ).seen i n a) κ
      step (suc j) e = found-answers (other σ) n (Private (suc j)) (partner-holds r t s p o σ i n j a e) κ
  case-answers σ i n (Private j) a κ = found-answers (other σ) n (Private j) a.1 κ
  case-answers σ i n Seen a κ = found-answers (other σ) n Seen a.1 κ
  case-answers σ i n New a κ = found-answers (other σ) n New a.1 κ

  -- the replies to a choice are the replies to an attack of the same side and edge, in the case of the choice's number
  pub replies_agree : (g : Rules) (c : Choice g t s) (d : IdCase) → Chosen g t s c d → (k : ℕ)
      → Reply g t s c k ↔ (k ∈ replies t p (attack_of g t s c d))
  replies_agree g c d h k = (λ q. is_reply_lem t p a k (to q), λ m. from (reply_at t p a k m))
    where
      a : Attack
      a = attack_of g t s c d

      σ : Side
      σ = other c.side

      agree : Takes (model_of t σ) (reader_of s σ) s.history (reply_edge t a k).kind c.number
          ↔ (answers (partner p c.side (register_of (attack_edge t a).kind)) d (reply_edge t a k).kind ≡ true)
      agree = case-answers c.side (register_of (attack_edge t a).kind) c.number d h (reply_edge t a k).kind

      to : Reply g t s c k → ReplyAt t p a k
      to q =
          record {
            exists = q.open_edge.exists;
            starts = q.open_edge.starts ∙ sym (o.states σ);
            tag = q.tag;
            answering = agree.0 q.open_edge.takes;
          }

      from : ReplyAt t p a k → Reply g t s c k
      from q =
          record {
            open_edge = record { exists = q.exists; starts = q.starts ∙ o.states σ; takes = agree.1 q.answering };
            tag = q.tag;
          }
