-- side by side
use Rattle.game_moves.specs.AfterRound.{moved_to}
use Rattle.game_replies.specs.Challenges.{after_reply}
use Rattle.game_wins.proofs.may_be_lost.Goals as goal

pub returns-in-Left : goal.returns-in-Left
unfolding after_reply moved_to
returns-in-Left c = λ p. rw (c.in-Left.is, c.has.ensures)

pub returns-in-Right : goal.returns-in-Right
unfolding after_reply moved_to
returns-in-Right c = λ p. rw (c.in-Right.is, c.has-in-Right.ensures)
