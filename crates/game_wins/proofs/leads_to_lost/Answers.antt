-- what is not looked up is not among the pairs
use Rattle.game_wins.specs.Judgement.{judged_among}
use Rattle.game_wins.proofs.leads_to_lost.Goals as goal

pub returns-then-not-may_be_lost : goal.returns-then-not-may_be_lost
unfolding judged_among
returns-then-not-may_be_lost c =
    rw (← c.may_be_lost.ensures c.args.p, c.if-not-may_be_lost.true)

pub returns : goal.returns
unfolding judged_among
returns c =
    rw (
      c.is_lost.ensures,
      c.after.ensures,
      ← c.may_be_lost.ensures c.args.p,
      c.if-not-may_be_lost.false,
    )
