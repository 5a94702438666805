-- The radix is read of the index.
use Rattle.game_index.specs.Reading.{task_in}
use Rattle.table_keys.proofs.Radix.of.Goals as goal

pub returns : goal.returns
unfolding task_in
returns c = rw (c.start-start.ensures, c.state_count.ensures, c.state_count-2.ensures, c.register_count.ensures)
