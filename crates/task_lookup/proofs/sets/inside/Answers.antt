use Rattle.std.proofs.Common.{◌+◌, sym, ◌∙◌, arith}
use Rattle.fra.specs.Registers.{inside}
use Rattle.task_lookup.proofs.EveryRegister.{stays, all_first, all_here, all-later, all_end}
use Rattle.task_lookup.proofs.sets.inside.Goals as goal

pub loop-i-init : goal.loop-i-init
unfolding inside
loop-i-init c = all_first (stays c.args.set c.args.other c.args.added) c.args.registers

pub returns-then-not-kept : goal.returns-then-not-kept
returns-then-not-kept c =
    sym
    (c.loop-i.invariant
    ∙ all_here (stays c.args.set c.args.other c.args.added) c.loop-i.i c.args.registers (omega arith)
    (sym c.kept.ensures ∙ c.if-not-kept.true))

-- a register that is kept leaves the answer to those after it
pub loop-i-preserved : goal.loop-i-preserved
loop-i-preserved c =
    c.loop-i.invariant
    ∙ all-later (stays c.args.set c.args.other c.args.added) c.loop-i.i c.args.registers (omega arith)
    (sym c.kept.ensures ∙ c.if-not-kept.false)

pub returns : goal.returns
returns c =
    sym
    (c.loop-i.invariant
    ∙ all_end (stays c.args.set c.args.other c.args.added) c.loop-i.i c.args.registers (omega arith))

pub returns-else-not-kept : goal.returns-else-not-kept
returns-else-not-kept c =
    sym
    (c.loop-i.invariant
    ∙ all-later (stays c.args.set c.args.other c.args.added) c.loop-i.i c.args.registers (omega arith)
    (sym c.kept.ensures ∙ c.if-not-kept.false)
    ∙ all_end (stays c.args.set c.args.other c.args.added) (c.loop-i.i + 1) c.args.registers (omega arith))
