-- past the last edge there is none
use mathlib.Core.Path.{sym}
use native.Mathlib.Nat.{add-zero}
use Rattle.game_index.proofs.Reading.{edge_in_lem, no_edge_lem}
use Rattle.game_index.proofs.edge_at.Goals as goal

pub returns-then-k-ge-EDGES : goal.returns-then-k-ge-EDGES
returns-then-k-ge-EDGES c = sym (no_edge_lem _ _ _ c.if-k-ge-EDGES.true)

pub returns : goal.returns
returns c =
    let exists = c.if-k-ge-EDGES.false in
    rw (c.kind_at-kind.ensures, edge_in_lem _ _ _ exists)
    (rw (c.byte_of.ensures, c.byte_of-2.ensures, c.byte_of-3.ensures, add-zero))
