-- The record that is found decides.
use Rattle.std.proofs.Common.{sym, ◌∙◌}
use Rattle.listing.proofs.PositionNumbers.{positions-length}
use Rattle.listing.proofs.Placing.{place-within}
use Rattle.game_index.specs.Reading.{task_in}
use Rattle.checker_laws.proofs.LookedUp.{start-rounds}
use Rattle.checker_acceptance.proofs.start_rounds.Goals as goal

pub rounds_at-requires : goal.rounds_at-requires
unfolding task_in
rounds_at-requires c =
    let listed = rw c.in-Lost.is at c.requires in
    let place = rw (c.start.ensures, c.records_of-records.ensures) at c.find.ensures in
    rw c.records_of-records.ensures
    (listed.fitting, rw positions-length at (place-within _ _ _ (sym place ∙ c.in-Some.is)))

pub returns-in-Some : goal.returns-in-Some
unfolding task_in
returns-in-Some c =
    let place = rw (c.start.ensures, c.records_of-records.ensures) at c.find.ensures in
    rw (c.in-Lost.is, start-rounds, sym place ∙ c.in-Some.is)
    (rw c.records_of-records.ensures at c.rounds_at.ensures)

pub returns-in-None : goal.returns-in-None
unfolding task_in
returns-in-None c =
    let place = rw (c.start.ensures, c.records_of-records.ensures) at c.find.ensures in
    rw (c.in-Lost.is, start-rounds, sym place ∙ c.in-None.is)
