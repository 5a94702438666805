use Rattle.std.proofs.Common.{length}
use Rattle.task_laws.proofs.RunsAndHalts.{Run}
use Rattle.task_reader.proofs.read_task.Given as goal

-- the reader has come to this progress, with the rest of the file before it
abbrev pub invariant-loop-byte : goal.invariant-loop-byte
invariant-loop-byte l = Run l.file l.p l.rest

-- what is left of the file
abbrev pub decreases-loop-byte : goal.decreases-loop-byte
decreases-loop-byte l = length l.rest
