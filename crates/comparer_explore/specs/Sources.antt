-- A position that is expanded, with what its keys are sized by.
use Rattle.std.specs.Prelude.{◌≡◌}
use Rattle.fra.specs.Position.{has_room}
use Rattle.fra.specs.declared.Position.{Position}
use Rattle.fra.specs.declared.Task.{Task}
use Rattle.table_keys.specs.Keys.{key_count, radix_of, Sized}
use Rattle.comparer_explore.specs.declared.expand.Source.{Source}

-- as a task has it
abbrev pub source_of : Task → Position → Source
source_of t p = record { position = p; room = has_room t p; radix = radix_of t; keys = key_count (radix_of t) }

-- there are as many keys as its radix says
pub record Keyed (s : Source) : Type 0 where
  pub sized : Sized s.radix
  pub count : s.keys ≡ key_count s.radix
