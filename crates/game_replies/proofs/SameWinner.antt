-- Where two judgements agree on what a position leads to, the same attack is the first that wins. For any rules, task and register
-- count. Assumes nothing.
use Prim.Native.Nat.{ℕ}
use mathlib.Core.Path.{◌≡◌}
use mathlib.Core.Bool.{Bool}
use Rattle.fra.specs.Lists.{◌∈◌}
use Rattle.fra.specs.Rules.{Rules}
use Rattle.fra.specs.Game.{attacks, replies, after}
use Rattle.fra.specs.declared.Position.{Position}
use Rattle.fra.specs.declared.Task.{Task}
use Rattle.fra.specs.declared.Attack.{Attack}
use Rattle.fra_laws.proofs.Lists.{all_same, first-same}
use Rattle.game_replies.specs.Winner.{wins_by, winner}

pub winner-same : (g : Rules) (t : Task) (lost judged : Position → Bool) (p : Position)
    → ((a : Attack) → a ∈ attacks g t p → (k : ℕ) → k ∈ replies t p a → lost (after t p a k) ≡ judged (after t p a k))
    → winner g t lost p ≡ winner g t judged p
unfolding winner wins_by
winner-same g t lost judged p e =
    first-same _ _ (attacks g t p)
    (λ a m. all_same (λ k. lost (after t p a k)) (λ k. judged (after t p a k)) (replies t p a) (e a m))
