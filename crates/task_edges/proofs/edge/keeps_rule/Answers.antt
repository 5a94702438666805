use Rattle.std.proofs.Common.{◌≡◌, true, sym, ◌∙◌}
use Rattle.fra.specs.Registers.{has}
use Rattle.task.specs.TaskFile.{keeps_rule}
use Rattle.task_lookup.proofs.EveryRegister.{add_nothing}
use Rattle.task_edges.proofs.edge.keeps_rule.Goals as goal

pub returns-then-has : goal.returns-then-has
unfolding keeps_rule
returns-then-has c =
    let held : has c.args.from c.in-Known.i ≡ true = sym c.has.ensures ∙ c.if-has.true in
    rw (c.in-Known.is, held) (c.inside.ensures ∙ add_nothing c.args.registers c.args.to c.args.from)
