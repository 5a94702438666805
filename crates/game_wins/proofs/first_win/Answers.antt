use Rattle.std.proofs.Common.{rules}
use Rattle.game_index.specs.Reading.{task_in, rules_in}
use Rattle.game_wins.specs.Judgement.{judged_among}
use Rattle.game_wins.proofs.SideEdges.{either-side}
use Rattle.game_wins.proofs.first_win.Goals as goal

pub returns : goal.returns
returns c =
    let a = c.args in
    let b = a.index.now.bytes in
    either-side (rules_in b) (task_in b) (judged_among a.losing.now a.list.now a.judge) a.p _ _ c.side_win-left.ensures c.or_else.ensures
    (λ e. search rules)
