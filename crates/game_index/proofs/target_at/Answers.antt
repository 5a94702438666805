-- the register set of the to state stands beside the edge
use mathlib.Core.Path.{◌∙◌}
use Rattle.fra_laws.proofs.KindNumbers.{register_of-kind}
use Rattle.game_index.proofs.Reading.{edge_in_lem}
use Rattle.game_index.proofs.target_at.Goals as goal

pub returns : goal.returns
returns c =
    let a = c.args in
    let exists = c.requires in
    let set = c.byte_of-3.ensures ∙ a.index.now.of_a_task.to_sets a.side a.k exists in
    rw (c.byte_of.ensures, c.byte_of-2.ensures, set)
    (rw (edge_in_lem a.index.now.bytes a.side a.k exists, register_of-kind))
