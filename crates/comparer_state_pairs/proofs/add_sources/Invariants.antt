-- What the right edges before `j` add is added.
use Rattle.std.proofs.Common.{◌≡◌}
use Rattle.fra.specs.declared.Side.TheVariants.{Right}
use Rattle.game_index.specs.Reading.{model_in}
use Rattle.comparer_rank_laws.specs.Sources.{with_sources_to}
use Rattle.comparer_state_pairs.proofs.add_sources.Given as goal

abbrev pub invariant-loop-j : goal.invariant-loop-j
invariant-loop-j l = l.pairs ≡ with_sources_to l.lost l.e (model_in l.index Right) l.initial.pairs l.j
