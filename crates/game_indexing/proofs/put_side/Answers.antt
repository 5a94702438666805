-- one part behind the other
use mathlib.Core.Path.{◌∙◌}
use borrow.Author.Rules.{rules}
use Rattle.fra_laws.proofs.Lengths.{length-of-map}
use Rattle.game_index.specs.Writing.{Sized}
use Rattle.game_indexing.proofs.IndexParts.{side-written}
use Rattle.game_indexing.proofs.put_side.Goals as goal

pub returns : goal.returns
returns c =
    let a = c.args in
    let sized : Sized a.m = record { states = search (rules, length-of-map); edges = search (rules, length-of-map) } in
    record {
      sized = sized;
      written =
          c.put_firsts.ensures
          ∙ rw (c.put_edges.ensures, c.put_states.ensures, c.put_counts.ensures)
          (side-written a.m sized a.out.now a.at);
    }
