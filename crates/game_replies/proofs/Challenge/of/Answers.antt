-- an index gives what its task has
use Rattle.fra.specs.Rules.{other}
use Rattle.game_index.proofs.Reading.{model_in_lem}
use Rattle.game_replies.proofs.Challenge.of.Goals as goal

pub returns : goal.returns
returns c =
    let b = c.args.index.now.bytes in
    let side = c.args.a.side in
    let away = c.other-away.ensures in
    rw (
      c.partner.ensures,
      c.tagged.ensures,
      c.state.ensures,
      c.transition_at.ensures,
      c.edge_at-e.ensures,
      away,
      model_in_lem b side,
      model_in_lem b (other side),
    )
