-- The answers name neither test, so that a test of another size is refused at its meaning.
use native.Mathlib.Omega.{arith}
use Rattle.task.specs.TaskFile.{history_refusal}
use Rattle.task_pairs.proofs.history.admit.Goals as goal

pub returns-then-size-held : goal.returns-then-size-held
unfolding history_refusal
returns-then-size-held c = grind arith

pub returns-else-size-held : goal.returns-else-size-held
unfolding history_refusal
returns-else-size-held c = grind arith
