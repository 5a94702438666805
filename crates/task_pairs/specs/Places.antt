-- Where the records between the models and the end may stand.
use Rattle.std.specs.Prelude.{Bool, true, false, not}
use Rattle.fra.specs.Rules.{is_left}
use Rattle.task.specs.declared.Stage.{Stage}
use Rattle.task.specs.declared.Stage.TheVariants.{Start, States, Edges, Pairs, Sized, Ended}

-- a pair, or the history's size: both models are read, and neither that size nor the end
abbrev pub among_pairs : Stage → Bool
among_pairs Start = false
among_pairs (States s q) = false
among_pairs (Edges s) = not (is_left s)
among_pairs Pairs = true
among_pairs Sized = false
among_pairs Ended = false
