-- The state that is due, if one is, is a state of its model, and has a place there. Every record keeps that.
use Rattle.std.specs.Prelude.{◌≤◌, ◌<◌}
use Rattle.fra.specs.Rules.{model_of}
use Rattle.fra.specs.declared.Task.{Task}
use Rattle.task.specs.TaskFile.{max_states}
use Rattle.task.specs.declared.Stage.{Stage}
use Rattle.task.specs.declared.Stage.TheVariants.{Start, States, Edges, Pairs, Sized, Ended}

abbrev pub Due : Stage → Task → Type 0
Due Start t = Unit {0}
Due (States s q) t = (q < (model_of t s).state_count) × ((model_of t s).state_count ≤ max_states)
Due (Edges s) t = Unit {0}
Due Pairs t = Unit {0}
Due Sized t = Unit {0}
Due Ended t = Unit {0}
