use Rattle.std.proofs.Common.{◌≡◌, rules, length}
use Rattle.game_replies.specs.Challenges.{after_reply}
use Rattle.game_replies.proofs.Challenge.after.Goals as goal

pub returns-in-Left : goal.returns-in-Left
unfolding after_reply
returns-in-Left c =
    let six : length c.args.p.partners ≡ 6 = search rules in
    rw (c.in-Left.is, c.moved.ensures, c.history_after-size.ensures, six)

pub returns-in-Right : goal.returns-in-Right
unfolding after_reply
returns-in-Right c =
    let six : length c.args.p.partners ≡ 6 = search rules in
    rw (c.in-Right.is, c.moved-in-Right.ensures, c.history_after-size.ensures, six)
