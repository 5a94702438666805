use Rattle.std.proofs.Common.{refl}
use Rattle.task.specs.TaskFile.{with_header}
use Rattle.task_models.proofs.header.with_header.Goals as goal

pub returns-in-Right : goal.returns-in-Right
unfolding with_header
returns-in-Right c = rw (c.in-Right.is, c.unmatched-u.ensures) refl
