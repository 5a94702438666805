use Rattle.std.proofs.Common.{sym, ◌∙◌}
use borrow.Author.Tests.{le-ltb}
use Rattle.task_lookup.proofs.EveryRegister.{overrun, no_overrun}
use Rattle.task_models.proofs.state.overruns.Goals as goal

pub returns-then-registers-lt8 : goal.returns-then-registers-lt8
returns-then-registers-lt8 c = overrun c.args.set c.args.registers

pub returns-else-registers-lt8 : goal.returns-else-registers-lt8
returns-else-registers-lt8 c =
    le-ltb c.args.registers 8 c.if-registers-lt8.false
    ∙ sym (no_overrun c.args.set c.args.registers c.ranges.set.fits c.if-registers-lt8.false)
