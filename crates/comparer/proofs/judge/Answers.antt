-- 12 with the table cleared, or the verdict with zeros after the entries.
use Rattle.std.proofs.Common.{◌∙◌, arith}
use Rattle.game_index.specs.Reading.{task_in}
use Rattle.comparer.proofs.Outcomes.{ranked-room, ranked-start, too_long_lem, judged}
use Rattle.comparer.proofs.judge.Goals as goal

pub rounds_of-rounds-requires : goal.rounds_of-rounds-requires
rounds_of-rounds-requires c = (ranked-start c.args.index.now.of_a_task c.requires).0

pub returns-in_default : goal.returns-in_default
returns-in_default c =
    rw (c.refuse.ensures.table_after, c.refuse.ensures.value)
    (too_long_lem c.args.index.now.of_a_task (rw c.in_default.is at c.certify.ensures))

pub overflow_mul-n : goal.overflow_mul-n
overflow_mul-n c = let (few, fits) = ranked-room c.args.index.now.of_a_task c.requires in omega arith

pub clear_from-requires : goal.clear_from-requires
clear_from-requires c = rw c.certify.ensures.restored (ranked-room c.args.index.now.of_a_task c.requires).1

pub decided-requires : goal.decided-requires
decided-requires c = let (few, fits) = ranked-room c.args.index.now.of_a_task c.requires in omega arith

pub returns : goal.returns
unfolding task_in
returns c =
    let (search, start) = ranked-start c.args.index.now.of_a_task c.requires in
    rw (c.decided.ensures, c.game.ensures, c.clear_from.ensures)
    (judged c.args.index.now.of_a_task c.requires (rw c.start.ensures at c.rounds_of-rounds.ensures ∙ start)
    (rw c.in-Ok.is at c.certify.ensures))
