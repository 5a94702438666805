-- 01, "Verdict, table, certificate" and "Turned back": the outcome of a comparer call, from the task's bytes, the table and
-- the certificate buffer at entry to the answer and both buffers at exit.
use Rattle.std.specs.Prelude.{ℕ, ◌/◌, true, false, List, length, ltb, Result, Ok, Err, Option, None, Some}
use Rattle.fra.specs.Reach.{reached, rounds}
use Rattle.fra.specs.declared.Task.{Task}
use Rattle.task.specs.TaskFile.{read_task}
use Rattle.task.specs.declared.Refusal.{Refusal}
use Rattle.task.specs.declared.Refusal.TheVariants.{TableTooSmall, BufferTooSmall}
use Rattle.outcome.specs.Bytes.{cleared, then_zeros, then_rest}
use Rattle.outcome.specs.Verdicts.{Contest}
use Rattle.outcome.specs.Certificate.{entries, certificate_by}
use Rattle.outcome.specs.declared.Comparison.{Comparison}

pub record Outcome : Type 0 where
  pub answer : Result Comparison Refusal
  pub table : List ℕ
  pub certificate : List ℕ

-- 02, ticket 2: "Table entries become 13 bytes"; "Spare bytes at its end make no entry."
unfoldable pub capacity : List ℕ → ℕ
capacity table = length table / 13

-- "positions reached, rounds (0 for EQUAL) and certificate length"
unfoldable pub decided : Contest → ℕ → Option ℕ → ℕ → Comparison
decided c positions None size = record { verdict = c.kept; positions = positions; rounds = 0; length = size }
decided c positions (Some n) size = record { verdict = c.lost; positions = positions; rounds = n; length = size }

-- a refusal that fills the table with zeros and leaves the certificate buffer
unfoldable pub refused_late : Refusal → List ℕ → List ℕ → Outcome
refused_late e table buffer = record { answer = Err e; table = cleared table; certificate = buffer }

-- the positions reached fit the table: 12, "The certificate is longer than its buffer", or the verdict
unfoldable pub judge : Contest → Task → List ℕ → List ℕ → Outcome
judge c t table buffer =
    let start = rounds c.rules t t.start in
    let written = certificate_by c t start in
    elim (ltb (length buffer) (length written)) [
      | true ↦ refused_late BufferTooSmall table buffer
      | false ↦
          record {
            answer = Ok (decided c (length (reached c.rules t)) start (length written));
            table = then_zeros (entries c.rules t) table;
            certificate = then_rest written buffer;
          }
    ]

-- the outcome on a task: 11, "The positions reached outnumber the table's entries", or as above
unfoldable pub compare_task : Contest → Task → List ℕ → List ℕ → Outcome
compare_task c t table buffer =
    elim (ltb (capacity table) (length (reached c.rules t)))
    [ true ↦ refused_late TableTooSmall table buffer | false ↦ judge c t table buffer ]

-- "1 to 10 change no buffer"; 02, ticket 2: "1 to 10, 15 and any later refusal of a record, and then changes no buffer"
unfoldable pub compare_read : Contest → Result Task Refusal → List ℕ → List ℕ → Outcome
compare_read c (Ok t) table buffer = compare_task c t table buffer
compare_read c (Err e) table buffer = record { answer = Err e; table = table; certificate = buffer }

unfoldable pub compare : Contest → List ℕ → List ℕ → List ℕ → Outcome
compare c file table buffer = compare_read c (read_task file) table buffer
