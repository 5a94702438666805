-- The keys wanted of the right edges passed are held.
use Rattle.fra.specs.declared.Side.TheVariants.{Right}
use Rattle.game_index.specs.Reading.{model_in}
use Rattle.game_index.specs.Transitions.{transition_of}
use Rattle.key_set_laws.specs.Growth.{Passed}
use Rattle.comparer_explore_laws.specs.EdgeKeys.{PairKey}
use Rattle.comparer_explore.proofs.expand.visit_edges.Given as goal

abbrev pub invariant-loop-k : goal.invariant-loop-k
invariant-loop-k l =
    Passed l.fn.source.keys l.fn.edges.first l.fn.edges.end
    (λ k. PairKey l.fn.source.radix l.fn.source.room l.fn.source.position l.fn.half.edge (transition_of (model_in l.fn.index.bytes Right) k))
    l.k l.fn.n l.fn.table l.m l.table
