-- A task file with the sides exchanged is read, as the task with the sides exchanged. Assumes nothing.
use Prim.Native.Nat.{ℕ}
use mathlib.Core.Path.{◌≡◌, refl}
use mathlib.Core.List.{List}
use Rattle.fra.specs.Exchange.{exchanged}
use Rattle.fra.specs.declared.Task.{Task}
use Rattle.fra_laws.proofs.ExchangePositions.{exchanged-valid}
use Rattle.task.specs.TaskFile.{task_of, IsRead}
use Rattle.task.specs.TaskBytes.{Writable}
use Rattle.task.specs.ExchangedFile.{exchanged_file}
use Rattle.task_laws.proofs.ReadValid.{read_writable}
use Rattle.task_laws.proofs.ReadExactly.{read-exactly}
use Rattle.task_laws.proofs.ReadAnswers.{answer-read, read_answer}

-- a file can hold it
exchanged_writable : {t : Task} → Writable t → Writable (exchanged t)
unfolding exchanged
exchanged_writable w = record { valid = exchanged-valid w.valid; left = w.right; right = w.left }

pub exchanged_is_read : (file : List ℕ) → IsRead file
    → IsRead (exchanged_file file) × (task_of (exchanged_file file) ≡ exchanged (task_of file))
unfolding exchanged_file
exchanged_is_read file read =
    let writable = exchanged_writable (read_writable file (read_answer file read)) in
    let answer = (read-exactly (exchanged_file file) (exchanged (task_of file))).1 (refl, writable) in
    (answer-read (exchanged_file file) answer, rw answer refl)
