use Rattle.std.proofs.Common.{◌≡◌}
use Rattle.fra.specs.Registers.{inside, with}
use Rattle.task_lookup.proofs.EveryRegister.{stays, up_to}
use Rattle.task_lookup.proofs.sets.inside.Given as goal

-- the answer is that of the registers from i on
abbrev pub invariant-loop-i : goal.invariant-loop-i
invariant-loop-i l = inside l.registers l.set (with l.other l.added) ≡ up_to l.i l.registers (stays l.set l.other l.added)
