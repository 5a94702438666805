-- The place of a position in a list of positions.
use Rattle.std.specs.Prelude.{ℕ, suc, true, false, Option, Some, None, List, [], ◌∷◌}
use Rattle.fra.specs.declared.Position.{Position}
use Rattle.outcome.specs.Check.{same}

-- the first place, counted from i, at which the position stands
unfoldable pub place_from : ℕ → Position → List Position → Option ℕ
place_from i p [] = None
place_from i p (q ∷ l) = elim (same p q) [ true ↦ Some i | false ↦ place_from (suc i) p l ]

abbrev pub place_of : Position → List Position → Option ℕ
place_of p l = place_from 0 p l
