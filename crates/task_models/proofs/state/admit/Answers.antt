use Rattle.std.proofs.Common.{sym, ◌∙◌}
use mathlib.Core.Bool.{true≢false}
use borrow.Author.Tests.{eq-eqb, ne_eqb}
use Rattle.task.specs.TaskFile.{state_refusal}
use Rattle.task_models.proofs.state.admit.Goals as goal
use Rattle.task_models.proofs.state.admit.Goals.{then-overruns, else-overruns, then-number-due, else-number-due}

-- all three tests have failed
pub returns-else-mark-gt1 : goal.returns-else-mark-gt1
unfolding state_refusal
returns-else-mark-gt1 c =
    elim c.if-overruns.branch [
      | then-overruns w ↦ absurd (true≢false (sym w.if-overruns.true ∙ sym w.value-is ∙ c.if-mark-gt1.false))
      | else-overruns w ↦
          elim c.if-number-due.branch [
            | then-number-due v ↦
                absurd
                (true≢false
                (rw (ne_eqb c.args.number c.args.due v.if-number-due.true) at (sym v.value-is ∙ w.if-overruns.false)))
            | else-number-due v ↦
                rw (
                  eq-eqb c.args.number c.args.due v.if-number-due.false,
                  sym v.overruns.ensures ∙ sym v.value-is ∙ w.if-overruns.false,
                  sym w.value-is ∙ c.if-mark-gt1.false,
                )
          ]
    ]
