use Rattle.std.proofs.Common.{◌≡◌, refl}
use mathlib.Core.Logic.{⊎_elim}
use Rattle.fra.specs.declared.Side.TheVariants.{Left}
use Rattle.task.specs.TaskFile.{end}
use Rattle.task_pairs.proofs.end.step.Goals as goal

-- where no end may stand: before and among the states, and after the end
pub returns-in-Start : goal.returns-in-Start
unfolding end
returns-in-Start c = ⊎_elim (λ h. rw h refl) (⊎_elim (λ h. rw h.2 refl) (λ h. rw h refl)) c.in-Start.is

-- and where the left model alone has been read
pub returns-in-Edges-Left : goal.returns-in-Edges-Left
unfolding end
returns-in-Edges-Left c =
    let left : c.in-Edges-Left.field-0 ≡ Left = cc in
    rw (c.in-Edges-Left.is, left) refl
