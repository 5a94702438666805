-- Case by case.
use Rattle.std.proofs.Common.{sym, ◌∙◌}
use Rattle.game_moves.specs.IdCases.{has_case_in}
use Rattle.game_moves.proofs.cases.has_case.Goals as goal

pub returns-in-Held : goal.returns-in-Held
unfolding has_case_in
returns-in-Held c = rw (c.in-Held.is, c.is_fresh.ensures)

pub returns-then-is_locally_fresh : goal.returns-then-is_locally_fresh
unfolding has_case_in
returns-then-is_locally_fresh c =
    rw (c.in-Private.is, sym c.is_locally_fresh.ensures ∙ c.if-is_locally_fresh.true, c.unpartnered.ensures, c.other.ensures)

pub returns-else-is_locally_fresh : goal.returns-else-is_locally_fresh
unfolding has_case_in
returns-else-is_locally_fresh c =
    rw (c.in-Private.is, c.if-is_locally_fresh.false, sym c.is_locally_fresh.ensures ∙ c.if-is_locally_fresh.false)

pub returns-in-Seen : goal.returns-in-Seen
unfolding has_case_in
returns-in-Seen c = rw (c.in-Seen.is, c.is_locally_fresh-in-Seen.ensures)

pub returns-in-New : goal.returns-in-New
unfolding has_case_in
returns-in-New c = rw (c.in-New.is, c.is_fresh-in-New.ensures)
