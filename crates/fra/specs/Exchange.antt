-- The two sides exchanged: 02, ticket 1, "with the sides exchanged", and ticket 14, "exchanging sides with the matching
-- reversed". For any register count.
use Rattle.std.specs.Prelude.{ℕ, List, map, length}
use Rattle.fra.specs.Lists.{count}
use Rattle.fra.specs.Rules.{Rules, other}
use Rattle.fra.specs.Position.{left_partner}
use Rattle.fra.specs.declared.Position.{Position}
use Rattle.fra.specs.declared.Task.{Task}
use Rattle.fra.specs.declared.Attack.{Attack}

-- "the matching reversed": the left partners of right registers 1 to r
unfoldable pub turned_partners : List ℕ → List ℕ
turned_partners partners = map (left_partner 1 partners) (count 1 (length partners))

-- a position seen from the other side
unfoldable pub turned : Position → Position
turned p =
    record { left = p.right; right = p.left; partners = turned_partners p.partners; history = p.history }

-- "exchanging sides with the matching reversed": the models change places, and the start is seen from the other side
unfoldable pub exchanged : Task → Task
exchanged t =
    record { left = t.right; right = t.left; start = turned t.start; history_stated = t.history_stated }

-- the same attack, its side named from the other side
abbrev pub mirrored : Attack → Attack
mirrored a = record { side = other a.side; edge = a.edge; case = a.case }

-- the same rules for the sides exchanged
abbrev pub mirrored_rules : Rules → Rules
mirrored_rules g = record { attacks = λ s. g.attacks (other s); lost = λ l r. g.lost r l }
