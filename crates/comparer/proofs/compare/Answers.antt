-- A refusal of the file, or what its task's index gives.
use Rattle.std.proofs.Common.{◌≡◌, sym, ◌∙◌, Ok, Err}
use Rattle.task.specs.TaskFile.{read_task}
use Rattle.task_laws.proofs.ReadValid.{read-valid, read-tags}
use Rattle.task_reader.proofs.Steps.{handed_on}
use Rattle.game_indexing.proofs.Indexed.{index_of}
use Rattle.comparer.proofs.Outcomes.{unread, read-compared}
use Rattle.comparer.proofs.compare.Goals as goal

pub returns-in_err-task : goal.returns-in_err-task
returns-in_err-task c =
    let a = c.args in
    let refused : read_task a.file.now ≡ Err c.in_err-task.field-0.0 = sym c.read_task.ensures ∙ c.in_err-task.was in
    rw (handed_on c.from_residual.result c.in_err-task.field-0.0 c.from_residual.ensures.1)
    (unread _ a.file.now a.table.now a.certificate.now refused)

pub of-index-requires : goal.of-index-requires
of-index-requires c =
    let file = c.args.file.now in
    let read : read_task file ≡ Ok c.in_ok-task.task = sym c.read_task.ensures ∙ c.in_ok-task.was in
    record { valid = read-valid file read; tags = read-tags file read }

pub returns : goal.returns
returns c =
    let a = c.args in
    let read : read_task a.file.now ≡ Ok c.in_ok-task.task = sym c.read_task.ensures ∙ c.in_ok-task.was in
    let h = index_of c.of-index.ensures in
    read-compared _ a.file.now a.table.now a.certificate.now read (rw (h.task, h.game) at c.compare_indexed.ensures)
