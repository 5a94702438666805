use Rattle.std.proofs.Common.{refl}
use Rattle.task_edges.proofs.edge.is_full.Goals as goal

pub returns : goal.returns
returns c = refl
