-- past the last state there is none
use mathlib.Core.Path.{sym, ◌∙◌}
use Rattle.game_index.proofs.Reading.{mark_in, no_mark}
use Rattle.game_index.proofs.mark_of.Goals as goal

pub returns-then-q-ge-STATES : goal.returns-then-q-ge-STATES
returns-then-q-ge-STATES c = sym (no_mark _ _ _ c.if-q-ge-STATES.true)

pub returns : goal.returns
returns c = c.byte_of.ensures ∙ sym (mark_in _ _ _ c.if-q-ge-STATES.false)
