use Rattle.std.proofs.Common.{refl}
use Rattle.task.specs.TaskFile.{at_end}
use Rattle.task_reader.proofs.at_end.Goals as goal

pub returns : goal.returns
unfolding at_end
returns c = rw c.in-Ended.is refl
