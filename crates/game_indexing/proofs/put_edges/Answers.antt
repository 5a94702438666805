use Rattle.std.proofs.Common.{◌≡◌, refl, rules, arith, length}
use mathlib.Core.List.{flat_map}
use lib.Seq.{take_all}
use Rattle.fra.specs.Model.{no_edge, set_of, edge_bytes}
use Rattle.fra_laws.proofs.Lengths.{length-of-map}
use Rattle.game_index.specs.Layout.{edge_places, edge_width}
use Rattle.game_index.specs.Writing.{drops, edge_entry}
use Rattle.game_indexing.proofs.EqualStrings.{strings_more}
use Rattle.game_indexing.proofs.put_edges.Goals as goal

pub loop-k-init : goal.loop-k-init
unfolding flat_map
loop-k-init c = refl

pub loop-k-preserved : goal.loop-k-preserved
unfolding set_of drops edge_bytes
loop-k-preserved c =
    let a = c.args in
    let k = c.loop-k.k in
    let long : length a.m.edges ≡ edge_places = search (rules, length-of-map) in
    rw (c.put_edge.ensures, c.loop-k.invariant, c.drops-drops.ensures, c.register.ensures, c.set_in.ensures, c.set_in-set.ensures)
    (strings_more (edge_entry a.m) edge_width (λ e. refl) a.out.now a.at a.m.edges k no_edge (omega arith))

pub returns : goal.returns
returns c =
    let edges = c.args.m.edges in
    let long : length edges ≡ edge_places = search (rules, length-of-map) in
    rw (take_all c.loop-k.k edges (omega arith)) at c.loop-k.invariant
