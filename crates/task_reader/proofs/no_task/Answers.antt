use Rattle.task.specs.TaskFile.{no_model, no_task, headed}
use Rattle.task_reader.proofs.no_task.Goals as goal

pub returns : goal.returns
unfolding no_task no_model headed
returns c = rw (c.headed-m.ensures, c.unmatched.ensures)
