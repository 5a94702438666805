use Rattle.game_index.proofs.Reading.{edge_in_lem}
use Rattle.game_index.proofs.kind_at.Goals as goal

pub returns : goal.returns
returns c =
    rw (edge_in_lem _ _ _ c.requires) (rw (c.of.ensures, c.byte_of-number.ensures, c.byte_of.ensures))
