-- The end marks lose, or an attack wins, or the position holds. What follows the test of the marks names neither it nor its call,
-- so that a turned test is refused at its value.
use Rattle.std.proofs.Common.{◌≡◌, Bool, true, false, not, refl, sym, ◌∙◌, ap}
use Rattle.fra.specs.Game.{lost_at_once}
use Rattle.outcome.specs.Check.{holds}
use Rattle.game_index.specs.Reading.{task_in, rules_in}
use Rattle.checker_acceptance.proofs.JudgedByRecords.{kept_by-winner}
use Rattle.checker_acceptance.proofs.kept_holds.Goals as goal

pub returns-then-lost : goal.returns-then-lost
unfolding holds
returns-then-lost c =
    let b = c.args.index.now.bytes in
    let falls : lost_at_once (rules_in b) (task_in b) c.args.p ≡ true = cc in
    rw falls

pub first_win-win-requires : goal.first_win-win-requires
first_win-win-requires c = rw c.records_of-records.ensures c.requires.searchable

not_not : (b : Bool) → b ≡ not (not b)
not_not true = refl
not_not false = refl

pub returns : goal.returns
returns c =
    let b = c.args.index.now.bytes in
    let stands : lost_at_once (rules_in b) (task_in b) c.args.p ≡ false = cc in
    let told = rw (c.first_win-win.ensures, c.records_of-records.ensures) at c.is_none.ensures in
    not_not c.is_none.result
    ∙ ap not (sym told)
    ∙ sym (kept_by-winner c.requires c.args.p stands)
