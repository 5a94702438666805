-- A place that is found is that of one of the n entries.
use Rattle.std.proofs.Common.{sym, ◌∙◌}
use Rattle.comparer_certify_laws.specs.Marking.{rounds_for}
use Rattle.comparer_certify_laws.proofs.StillSearchable.{found-entry}
use Rattle.comparer_marks.proofs.rounds_of.Goals as goal

pub returns-in_default : goal.returns-in_default
unfolding rounds_for
returns-in_default c = rw (← c.of_table-entries.ensures, ← c.find.ensures, c.in_default.is)

pub rounds_at-requires : goal.rounds_at-requires
rounds_at-requires c =
    let found = rw c.of_table-entries.ensures at (sym c.find.ensures ∙ c.in-Some.is) in
    rw c.of_table-entries.ensures (c.requires.fitting, found-entry c.args.n c.args.table.now c.args.q found)

pub returns : goal.returns
unfolding rounds_for
returns c =
    let found = rw c.of_table-entries.ensures at (sym c.find.ensures ∙ c.in-Some.is) in
    rw (c.rounds_at.ensures, c.of_table-entries.ensures, found)
