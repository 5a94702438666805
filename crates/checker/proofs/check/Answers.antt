-- A task that is read has an index, and the certificate is checked over it.
use Rattle.std.proofs.Common.{◌≡◌, sym, ◌∙◌, Ok, Err}
use Rattle.outcome.specs.Check.{check}
use Rattle.task.specs.TaskFile.{read_task}
use Rattle.task_laws.proofs.ReadValid.{read-valid, read-tags}
use Rattle.task_reader.proofs.Steps.{handed_on}
use Rattle.game_indexing.proofs.Indexed.{index_of}
use Rattle.checker.proofs.check.Goals as goal

pub returns-in_err-task : goal.returns-in_err-task
unfolding check
returns-in_err-task c =
    let file = c.args.file.now in
    let refused : read_task file ≡ Err c.in_err-task.field-0.0 = sym c.read_task.ensures ∙ c.in_err-task.was in
    let handed = handed_on c.from_residual.result c.in_err-task.field-0.0 c.from_residual.ensures.1 in
    rw (refused, handed)

pub of-index-requires : goal.of-index-requires
of-index-requires c =
    let file = c.args.file.now in
    let read : read_task file ≡ Ok c.in_ok-task.task = sym c.read_task.ensures ∙ c.in_ok-task.was in
    record { valid = read-valid file read; tags = read-tags file read }

pub returns : goal.returns
unfolding check
returns c =
    let indexed = index_of c.of-index.ensures in
    rw (← c.read_task.ensures, c.in_ok-task.was) (rw (indexed.task, indexed.game) at c.check_indexed.ensures)
