-- The walk stays inside the table.
use Rattle.std.proofs.Common.{arith}
use Rattle.outcome.specs.Compare.{capacity}
use Rattle.key_set.proofs.chains.walk.Goals as goal

pub word_at-requires : goal.word_at-requires
unfolding capacity
word_at-requires c = omega arith

pub overflow_mul-entries : goal.overflow_mul-entries
unfolding capacity
overflow_mul-entries c = omega arith

pub overflow_add-entries : goal.overflow_add-entries
unfolding capacity
overflow_add-entries c = omega arith

pub word_at-at-requires : goal.word_at-at-requires
unfolding capacity
word_at-at-requires c = omega arith
