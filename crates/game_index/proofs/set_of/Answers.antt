-- past the last state there is none
use mathlib.Core.Path.{sym, ◌∙◌}
use Rattle.game_index.proofs.Reading.{set_in_lem, no_set}
use Rattle.game_index.proofs.set_of.Goals as goal

pub returns-then-q-ge-STATES : goal.returns-then-q-ge-STATES
returns-then-q-ge-STATES c = sym (no_set _ _ _ c.if-q-ge-STATES.true)

pub returns : goal.returns
returns c = c.byte_of.ensures ∙ sym (set_in_lem _ _ _ c.if-q-ge-STATES.false)
