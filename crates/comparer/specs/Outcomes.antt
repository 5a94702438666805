-- What the comparer's parts leave in the table, and what a call gives: the answer, the table and the certificate buffer at exit are
-- an outcome's.
use Rattle.std.specs.Prelude.{ℕ, ◌*◌, ◌≤◌, ◌≡◌, cond, List, map, length, eqb, Option, None, Some, Result}
use Rattle.fra.specs.Reach.{reached}
use Rattle.outcome.specs.Bytes.{all_ones}
use Rattle.outcome.specs.Compare.{Outcome, judge, compare_task}
use Rattle.task.specs.declared.Refusal.{Refusal}
use Rattle.outcome.specs.declared.Comparison.{Comparison}
use Rattle.listing.specs.Widths.{entry_width}
use Rattle.game_index.specs.Reading.{task_in, rules_in}
use Rattle.comparer_certify.specs.RecordFields.{contest_in}
use Rattle.table_keys.specs.Keys.{key_of, key_count, radix_of}
use Rattle.table_laws.specs.Sorted.{Permuted}
use Rattle.table_laws.specs.Table.{keys}
use Rattle.key_set_laws.specs.Stored.{Stored}

-- the first n keys are those of the positions reached, in some order, and a set of them
pub record Found (b : List ℕ) (n : ℕ) (table : List ℕ) : Type 0 where
  pub counted : n ≡ length (reached (rules_in b) (task_in b))
  pub room : n * entry_width ≤ length table
  pub found : Permuted (keys n table) (map (key_of (radix_of (task_in b))) (reached (rules_in b) (task_in b)))
  pub stored : Stored (key_count (radix_of (task_in b))) n table

-- the outcome of a comparison of the models of an index, and of one whose table has the rounds of all positions reached
abbrev pub outcome_in : List ℕ → List ℕ → List ℕ → Outcome
outcome_in b = compare_task (contest_in b) (task_in b)

abbrev pub judged_in : List ℕ → List ℕ → List ℕ → Outcome
judged_in b = judge (contest_in b) (task_in b)

-- rounds as the table has them: "FF FF FF FF if never lost"
abbrev pub rounds_from : ℕ → Option ℕ
rounds_from w = cond (eqb w all_ones) None (Some w)

pub record Gives (o : Outcome) (answer : Result Comparison Refusal) (table certificate : List ℕ) : Type 0 where
  pub answers : answer ≡ o.answer
  pub tables : table ≡ o.table
  pub certificates : certificate ≡ o.certificate
