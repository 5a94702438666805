use Rattle.std.proofs.Common.{◌≡◌, length, rules, sym, arith}
use Rattle.game_moves.proofs.HistorySizes.{most-has_room}
use Rattle.game_moves.proofs.rounds.has_room.Goals as goal

pub returns-then-p-ge-MOST_SEEN : goal.returns-then-p-ge-MOST_SEEN
returns-then-p-ge-MOST_SEEN c =
    let long : length c.args.p.partners ≡ 6 = search rules in
    sym (most-has_room c.args.left c.args.right c.args.p (omega arith))
