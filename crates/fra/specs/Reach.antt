-- 01, "Positions and rounds": "Positions reached are the start and all that attacks and replies lead to." The predicate to
-- believe is `Reached`; `reached` is the rising list that computes it.
use Rattle.std.specs.Prelude.{ℕ, zero, suc, ◌*◌, ◌^◌, true, false, length, eqb, Option}
use mathlib.Core.List.{List, [], ◌∷◌, map, flat_map, foldr}
use Rattle.fra.specs.Lists.{◌∈◌, least}
use Rattle.fra.specs.Position.{most_seen, before}
use Rattle.fra.specs.Rules.{Rules}
use Rattle.fra.specs.Game.{attacks, replies, after, lost_within}
use Rattle.fra.specs.declared.Position.{Position}
use Rattle.fra.specs.declared.Task.{Task}

-- the start, and what steps lead to from there
pub data Closure (step : Position → List Position) (start : Position) : Position → Type 0 where
  begin : Closure step start start
  onward : {p q : Position} → Closure step start p → q ∈ step p → Closure step start q

-- what attacks and replies lead to from a position
unfoldable pub successors : Rules → Task → Position → List Position
successors g t p = flat_map (λ a. map (after t p a) (replies t p a)) (attacks g t p)

abbrev pub Reached : Rules → Task → Position → Type 0
Reached g t = Closure (successors g t) t.start

-- ── The list that computes a closure ──

-- a rising list with one position more
unfoldable pub insert : Position → List Position → List Position
insert p [] = p ∷ []
insert p (q ∷ qs) =
    elim (before p q) [ true ↦ p ∷ q ∷ qs | false ↦ elim (before q p) [ true ↦ q ∷ insert p qs | false ↦ q ∷ qs ] ]

-- a rising list with all that one step leads to
unfoldable pub grown : (Position → List Position) → List Position → List Position
grown step l = foldr insert l (flat_map step l)

-- a rising list grown n times, or until it stays as it is
unfoldable pub closed : (Position → List Position) → ℕ → List Position → List Position
closed step zero l = l
closed step (suc n) l =
    let m = grown step l in elim (eqb (length m) (length l)) [ true ↦ l | false ↦ closed step n m ]

-- no task has more legal positions: a history size, a pair of states, and r partners of 0 to r
unfoldable pub enough : Task → ℕ
enough t =
    suc (most_seen (length t.start.partners))
    * (t.left.state_count * t.right.state_count * suc (length t.start.partners) ^ length t.start.partners)

-- the positions reached, "rising by position bytes"
unfoldable pub reached : Rules → Task → List Position
reached g t = closed (successors g t) (enough t) (t.start ∷ [])

-- ── Rounds ──

-- the least count of at most n rounds within which a position is lost: its rank
unfoldable pub rank : Rules → Task → ℕ → Position → Option ℕ
rank g t n p = least (λ k. lost_within g t k p) 0 (suc n)

-- the rounds of a position; none if it is never lost. No rank exceeds the count of positions reached.
unfoldable pub rounds : Rules → Task → Position → Option ℕ
rounds g t p = rank g t (length (reached g t)) p
