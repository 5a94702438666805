-- Both halves of a round lead where the round does. Assumes nothing.
use Prim.Native.Nat.{ℕ}
use mathlib.Core.Path.{◌≡◌, ◌∙◌, ap₂}
use mathlib.Core.List.{List}
use native.Mathlib.Omega.{arith}
use Rattle.fra.specs.declared.Position.{Position}
use Rattle.game_moves.specs.AfterRound.{moved_to}
use Rattle.game_moves.specs.declared.rounds.Target.{Target}
use Rattle.comparer_explore_laws.specs.HalfRounds.{joined_by}
use Rattle.comparer_explore_laws.proofs.HalfRounds.{half_matched}
use Rattle.comparer_explore.specs.HalfRounds.{Halves, joined_to}
use Rattle.comparer_explore.specs.declared.expand.Half.{Half}

pub both_halves : (p : Position) (half : Half) (size : ℕ) (r : Target) → Halves p half
    → joined_to half size r ≡ moved_to p size half.edge.target r
unfolding joined_to moved_to
both_halves p half size r h =
    let l = half.edge.target in
    let same =
    ap₂ (λ (a : ℕ) (m : List ℕ). joined_by r.set a r.register 1 m) h.register h.partners
    ∙ half_matched l.set r.set l.register r.register 1 p.partners (omega arith) in
    λ i. record { left = l.state; right = r.state; partners = same i; history = size }
