use Rattle.std.proofs.Common.{refl}
use Rattle.task_progress.proofs.with_model.Goals as goal

pub returns-in-Left : goal.returns-in-Left
returns-in-Left c = rw c.in-Left.is refl

pub returns-in-Right : goal.returns-in-Right
returns-in-Right c = rw c.in-Right.is refl
