-- A task file with the two sides exchanged (02, tickets 1 and 14).
use Rattle.std.specs.Prelude.{ℕ, List}
use Rattle.fra.specs.Exchange.{exchanged}
use Rattle.task.specs.TaskFile.{task_of}
use Rattle.task.specs.TaskBytes.{encode_task}

-- "exchanging sides with the matching reversed": the bytes of the task that a file holds, with its sides exchanged
unfoldable pub exchanged_file : List ℕ → List ℕ
exchanged_file file = encode_task (exchanged (task_of file))
