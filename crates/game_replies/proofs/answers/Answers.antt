use Rattle.std.proofs.Common.{◌≡◌, refl, sym, ◌∙◌, ℕ, zero, suc}
use Rattle.fra.specs.Game.{answers}
use Rattle.fra.specs.Model.{is_known}
use Rattle.fra.specs.declared.EdgeKind.{EdgeKind}
use Rattle.fra.specs.declared.IdCase.TheVariants.{Held}
use Rattle.game_replies.proofs.answers.Goals as goal

-- a register with a partner is answered by a known edge of that partner
partnered : (b : ℕ) (kind : EdgeKind) → (b ≡ 0 → ⊥) → answers b Held kind ≡ is_known b kind
unfolding answers
partnered zero kind n = absurd (n refl)
partnered (suc b) kind n = refl

pub returns-then-unpartnered : goal.returns-then-unpartnered
unfolding answers
returns-then-unpartnered c = rw (c.in-Held.is, c.if-unpartnered.true) c.is_locally_fresh.ensures

pub returns-else-unpartnered : goal.returns-else-unpartnered
returns-else-unpartnered c = rw c.in-Held.is (c.is_known.ensures ∙ sym (partnered _ _ c.if-unpartnered.false))

pub returns-in-Private : goal.returns-in-Private
unfolding answers
returns-in-Private c = rw c.in-Private.is (cc)

pub returns-in-Seen : goal.returns-in-Seen
unfolding answers
returns-in-Seen c = rw c.in-Seen.is (cc)

pub returns-in-New : goal.returns-in-New
unfolding answers
returns-in-New c = rw c.in-New.is (cc)
