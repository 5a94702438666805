-- The kind's rule, on the bytes of an edge's body: the test that `edge_refusal` makes for 7.
use Rattle.std.specs.Prelude.{ℕ, Bool, List, get_or}
use Rattle.fra.specs.Model.{set_of, kind_of}
use Rattle.fra.specs.declared.Model.{Model}
use Rattle.task.specs.TaskFile.{keeps_rule}

abbrev pub ruled : Model → List ℕ → Bool
ruled m body =
    keeps_rule m.registers (set_of m (get_or body 0 0)) (set_of m (get_or body 4 0))
    (kind_of (get_or body 2 0) (get_or body 3 0))
