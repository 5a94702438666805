-- Which two edges can take one number in a round, whoever attacks, and the size of the history after it.
use Rattle.std.specs.Prelude.{ℕ, Bool, true, cond, List, [], ◌∷◌}
use Rattle.fra.specs.Rules.{other}
use Rattle.fra.specs.Position.{partner}
use Rattle.fra.specs.Game.{answers, size_after}
use Rattle.fra.specs.declared.EdgeKind.{EdgeKind}
use Rattle.fra.specs.declared.EdgeKind.TheVariants.{Known, LocallyFresh, GloballyFresh}
use Rattle.fra.specs.declared.Position.{Position}
use Rattle.fra.specs.declared.Side.{Side}
use Rattle.fra.specs.declared.IdCase.TheVariants.{Held, New}

-- an edge of side s and an edge of the other side, of these kinds, can take one number in a round
unfoldable pub compatible : Position → Side → EdgeKind → EdgeKind → Bool
-- where one of them is known, the other answers an attack with it
compatible p s (Known i) others = answers (partner p s i) Held others
compatible p s (LocallyFresh i) (Known j) = answers (partner p (other s) j) Held (LocallyFresh i)
compatible p s (GloballyFresh i) (Known j) = answers (partner p (other s) j) Held (GloballyFresh i)
-- a new number is fresh to both
compatible p s (LocallyFresh i) (LocallyFresh j) = true
compatible p s (LocallyFresh i) (GloballyFresh j) = true
compatible p s (GloballyFresh i) (LocallyFresh j) = true
compatible p s (GloballyFresh i) (GloballyFresh j) = true

-- the sizes that the history can have after a round in which edges of these kinds take one number, for r registers: a new number
-- raises it; one seen before, if there is room for such, or one held by a reader leaves it as it is
unfoldable pub sizes_after : ℕ → Bool → ℕ → EdgeKind → EdgeKind → List ℕ
sizes_after r room size (LocallyFresh i) (LocallyFresh j) = size_after r New size ∷ cond room (size ∷ []) []
sizes_after r room size (LocallyFresh i) (GloballyFresh j) = size_after r New size ∷ []
sizes_after r room size (GloballyFresh i) (LocallyFresh j) = size_after r New size ∷ []
sizes_after r room size (GloballyFresh i) (GloballyFresh j) = size_after r New size ∷ []
sizes_after r room size (Known i) (Known j) = size ∷ []
sizes_after r room size (Known i) (LocallyFresh j) = size ∷ []
sizes_after r room size (Known i) (GloballyFresh j) = size ∷ []
sizes_after r room size (LocallyFresh i) (Known j) = size ∷ []
sizes_after r room size (GloballyFresh i) (Known j) = size ∷ []
