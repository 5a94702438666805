-- past the last edge there is none
use Rattle.game_index.proofs.Reading.{no_edge_lem}
use Rattle.game_index.proofs.transition_at.Goals as goal

pub returns-then-k-ge-EDGES : goal.returns-then-k-ge-EDGES
returns-then-k-ge-EDGES c = rw (no_edge_lem _ _ _ c.if-k-ge-EDGES.true) (rw c.set_of.ensures)

pub returns : goal.returns
returns c = rw (c.kind_at-kind.ensures, c.target_at-target.ensures)
