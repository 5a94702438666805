-- The task that a file is read as, told by the task's bytes and not by way of the reader; what is written is read back, and no
-- two tasks have the same bytes. Assumes nothing.
use Prim.Native.Nat.{ℕ}
use mathlib.Core.Path.{◌≡◌}
use mathlib.Core.Logic.{◌↔◌}
use mathlib.Core.List.{List}
use Rattle.fra.specs.declared.Task.{Task}
use Rattle.task.specs.TaskFile.{read_task}
use Rattle.task.specs.TaskBytes.{encode_task, Writable}
use Rattle.std.specs.Prelude.{Ok}
use Rattle.task_laws.proofs.ReadValid.{read_writable, read-bytes}
use Rattle.task_laws.proofs.WritableRead.{writable_read}

-- What is written is read back: of the bytes of a task that a file can hold, the reader gives that task.
pub encoded-read : (t : Task) → Writable t → read_task (encode_task t) ≡ Ok t
encoded-read t w =
    let (file, read) = writable_read w in
    rw (← read-bytes file read) read

-- A file is read as a task exactly if it is the task's bytes and the task is one that a file can hold.
pub read-exactly : (file : List ℕ) (t : Task) → (read_task file ≡ Ok t) ↔ ((file ≡ encode_task t) × Writable t)
read-exactly file t = (λ read. (read-bytes file read, read_writable file read), λ (bytes, w). rw bytes (encoded-read t w))

-- Two tasks that a file can hold have the same bytes only if they are the same.
pub encode_injective : {t u : Task} → encode_task t ≡ encode_task u → Writable t → Writable u → t ≡ u
encode_injective {t} {u} e w v =
    let first = encoded-read t w in
    let second : read_task (encode_task t) ≡ Ok u = rw e (encoded-read u v) in
    cc
