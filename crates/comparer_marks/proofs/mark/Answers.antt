-- A place that is found is that of one of the n entries.
use Rattle.std.proofs.Common.{◌≡◌, ◌+◌, ◌*◌, ◌≤◌, ◌<◌, Some, length, sym, ◌∙◌, arith}
use Rattle.listing.specs.Widths.{entry_width}
use Rattle.listing.specs.Listing.{of_table, positions_in}
use Rattle.listing.specs.Lookup.{place_of}
use Rattle.listing.proofs.PositionNumbers.{record_room}
use Rattle.comparer_certify_laws.specs.Marking.{marked}
use Rattle.comparer_certify_laws.proofs.StillSearchable.{found-entry}
use Rattle.comparer_marks.proofs.mark.Goals as goal
use Rattle.comparer_marks.proofs.mark.Goals.{In-Some}

found : (c : In-Some) → place_of c.args.q (positions_in (of_table c.args.n) c.args.table.now) ≡ Some c.in-Some.i
found c = rw c.of_table-entries.ensures at (sym c.find.ensures ∙ c.in-Some.is)

within : (c : In-Some) → c.in-Some.i < c.args.n
within c = found-entry c.args.n c.args.table.now c.args.q (found c)

room : (c : In-Some) → c.in-Some.i * entry_width + entry_width ≤ length c.args.table.now
room c = record_room (of_table c.args.n) c.args.table.now c.requires.fitting _ (within c)

pub rounds_at-rounds-requires : goal.rounds_at-rounds-requires
rounds_at-rounds-requires c =
    rw c.of_table-entries.ensures (c.requires.fitting, within (goal.at.rounds_at-rounds-requires c).In-Some)

pub overflow_mul-i : goal.overflow_mul-i
overflow_mul-i c = omega (arith, room (goal.at.overflow_mul-i c).In-Some)

pub overflow_add-i : goal.overflow_add-i
overflow_add-i c = omega (arith, room (goal.at.overflow_add-i c).In-Some)

pub put_word-requires : goal.put_word-requires
put_word-requires c = omega (arith, room (goal.at.put_word-requires c).In-Some)

pub returns-in-Some : goal.returns-in-Some
unfolding marked
returns-in-Some c =
    rw (
      c.put_word.ensures,
      c.with_mark.ensures,
      c.rounds_at-rounds.ensures,
      c.of_table-entries.ensures,
      found (goal.at.returns-in-Some c).In-Some,
    )

pub returns-in_default : goal.returns-in_default
unfolding marked
returns-in_default c = rw (← c.of_table-entries.ensures, ← c.find.ensures, c.in_default.is)
