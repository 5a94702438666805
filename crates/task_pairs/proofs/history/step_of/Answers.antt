use Rattle.std.proofs.Common.{◌≡◌, refl, sym, ◌∙◌, Ok}
use Rattle.task.specs.TaskFile.{history_refusal, history_at}
use Rattle.task_pairs.proofs.history.step_of.Goals as goal

pub returns : goal.returns
unfolding history_at
returns c =
    let passes : history_refusal c.args.p.task c.at-size.result ≡ Ok tt = sym c.admit.ensures ∙ c.in_ok-admit.was in
    rw (← c.at-size.ensures, passes, c.with_history.ensures) refl
