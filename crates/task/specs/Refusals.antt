-- The numbers of the refusals: 01, "Turned back, in checking order", and 15 of 02.
use Rattle.std.specs.Prelude.{ℕ}
use Rattle.task.specs.declared.Refusal.{Refusal}
use Rattle.task.specs.declared.Refusal.TheVariants.{UnknownKind, CutShort, Misplaced, BadHeader, BadState, BadEdge, BrokenRule, EdgesNotRising, TooManyEdges, BadPair, TableTooSmall, BufferTooSmall, Malformed, NotAccepted, BadHistory}

abbrev pub number_of : Refusal → ℕ
number_of UnknownKind = 1
number_of CutShort = 2
number_of Misplaced = 3
number_of BadHeader = 4
number_of BadState = 5
number_of BadEdge = 6
number_of BrokenRule = 7
number_of EdgesNotRising = 8
number_of TooManyEdges = 9
number_of BadPair = 10
number_of TableTooSmall = 11
number_of BufferTooSmall = 12
number_of Malformed = 13
number_of NotAccepted = 14
number_of BadHistory = 15
