-- Test by test. What follows that of the marks names neither it nor its call, so that a turned test is refused at its value.
use Rattle.std.proofs.Common.{◌≡◌, true, false}
use borrow.Author.Tests.{eq-eqb}
use Rattle.fra.specs.Game.{lost_at_once}
use Rattle.game_index.specs.Reading.{task_in, rules_in}
use Rattle.checker_acceptance.proofs.lost_already.Goals as goal

pub returns-then-not-lost : goal.returns-then-not-lost
returns-then-not-lost c =
    let b = c.args.index.now in
    let stands : lost_at_once (rules_in b) (task_in b) c.args.x.position ≡ false = cc in
    rw stands

pub returns-then-x-eq0-2 : goal.returns-then-x-eq0-2
returns-then-x-eq0-2 c =
    let b = c.args.index.now in
    let falls : lost_at_once (rules_in b) (task_in b) c.args.x.position ≡ true = cc in
    rw (falls, eq-eqb c.args.x.side 0 c.if-x-eq0-2.true.0, eq-eqb c.args.x.edge 0 c.if-x-eq0-2.true.1)
