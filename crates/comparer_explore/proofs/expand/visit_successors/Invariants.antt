-- The keys wanted of the left edges passed are held.
use Rattle.key_set_laws.specs.Growth.{Passed}
use Rattle.comparer_explore_laws.specs.EdgeKeys.{EdgeKey}
use Rattle.comparer_explore.proofs.expand.visit_successors.Given as goal

abbrev pub invariant-loop-k : goal.invariant-loop-k
invariant-loop-k l =
    Passed l.fn.source.keys l.initial.k l.k-end (EdgeKey l.fn.index.bytes l.fn.source.position) l.k l.fn.n l.fn.table l.m l.table
