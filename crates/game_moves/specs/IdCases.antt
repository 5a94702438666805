-- The id cases of an attack by number, and those that an edge has, where the register set of the other side's state and whether
-- the history has room for a number that neither reader holds are given in place of the task.
use Rattle.std.specs.Prelude.{ℕ, suc, ◌-◌, Bool, not, ◌&&◌, List, length, get_or, drop, eqb, Option, option_map}
use Rattle.fra.specs.Lists.{keep, least}
use Rattle.fra.specs.Registers.{has}
use Rattle.fra.specs.Model.{is_locally_fresh, is_fresh}
use Rattle.fra.specs.Rules.{other}
use Rattle.fra.specs.Position.{partner}
use Rattle.fra.specs.Game.{cases}
use Rattle.fra.specs.declared.EdgeKind.{EdgeKind}
use Rattle.fra.specs.declared.Position.{Position}
use Rattle.fra.specs.declared.Side.{Side}
use Rattle.fra.specs.declared.IdCase.{IdCase}
use Rattle.fra.specs.declared.IdCase.TheVariants.{Held, Private, Seen, New}

-- the id case with number n of r registers: its place among the cases
unfoldable pub case_at : ℕ → ℕ → IdCase
case_at r n = get_or (cases r) n New

-- register j of side s, whose state has the register set, is filled and has no partner
abbrev pub unpartnered : Position → Side → ℕ → ℕ → Bool
unpartnered p s set j = has set j && eqb (partner p s j) 0

-- the game's `has_case`
unfoldable pub has_case_in : ℕ → Bool → Position → Side → EdgeKind → IdCase → Bool
has_case_in others room p s kind Held = not (is_fresh kind)
has_case_in others room p s kind (Private j) = is_locally_fresh kind && unpartnered p (other s) others j
has_case_in others room p s kind Seen = is_locally_fresh kind && room
has_case_in others room p s kind New = is_fresh kind

-- the first case from number n on that the edge has, with the number of the case to go on from
unfoldable pub case_from : ℕ → Bool → Position → Side → EdgeKind → ℕ → Option (IdCase × ℕ)
case_from others room p s kind n =
    option_map (λ k. (case_at (length p.partners) k, suc k))
    (least (λ k. has_case_in others room p s kind (case_at (length p.partners) k)) n (length (cases (length p.partners)) - n))

-- all from number n on that the edge has, in order
abbrev pub cases_from : ℕ → Bool → Position → Side → EdgeKind → ℕ → List IdCase
cases_from others room p s kind n = keep (has_case_in others room p s kind) (drop n (cases (length p.partners)))
