-- Test by test.
use Rattle.std.proofs.Common.{sym, ◌∙◌}
use Rattle.game_moves.proofs.cases.unpartnered.Goals as goal

pub returns-then-has : goal.returns-then-has
returns-then-has c = rw (sym c.has.ensures ∙ c.if-has.true, c.partner.ensures)

pub returns-else-has : goal.returns-else-has
returns-else-has c = rw (c.if-has.false, sym c.has.ensures ∙ c.if-has.false)
