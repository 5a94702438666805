-- The bytes of an attack in a record, and the records of entries.
use Rattle.std.specs.Prelude.{ℕ, List, [], ◌∷◌, Option, Some, None}
use Rattle.fra.specs.AttackNumbers.{side_number, case_number}
use Rattle.fra.specs.declared.Attack.{Attack}
use Rattle.outcome.specs.Verdicts.{Contest, contest_of, verdict_of, kind_of}
use Rattle.outcome.specs.declared.Standing.{Standing}
use Rattle.game_index.specs.Reading.{task_in, game_in, rules_in}
use Rattle.comparer_certify_laws.specs.EntryRecords.{record_at, records_of}

-- side, edge and case
abbrev pub attack_width : ℕ
attack_width = 3

-- "Rounds 0 has side, edge and case 0"
abbrev pub attack_bytes : Option Attack → List ℕ
attack_bytes (Some a) = side_number a.side ∷ a.edge ∷ case_number 6 a.case ∷ []
attack_bytes None = 0 ∷ 0 ∷ 0 ∷ []

-- the game of an index with its two verdicts
abbrev pub contest_in : List ℕ → Contest
contest_in b = contest_of (game_in b)

-- the kind byte of its records
abbrev pub kind_in : List ℕ → Standing → ℕ
kind_in b s = kind_of (verdict_of (game_in b) s)

-- the record of entry i, for the game and the task of an index b
abbrev pub record_in : List ℕ → Standing → ℕ → List ℕ → ℕ → List ℕ
record_in b s n table i = record_at (rules_in b) (task_in b) s (kind_in b s) n table i

-- those of all entries that have one
abbrev pub records_in : List ℕ → Standing → ℕ → List ℕ → List ℕ
records_in b s n table = records_of (rules_in b) (task_in b) s (kind_in b s) n table
