-- An entry's record is written next exactly if the entry is listed, and all of them fit.
use Rattle.std.proofs.Common.{◌≡◌, ◌+◌, ◌≤◌, length, sym, ◌∙◌, arith}
use Rattle.outcome.specs.Verdicts.{width_of}
use Rattle.comparer_certify_laws.proofs.RecordFilling.{listed_at, filled_none, filled-same, next_fits, filled_more, filled-all}
use Rattle.comparer_certify.proofs.writing.put_records.Goals as goal
use Rattle.comparer_certify.proofs.writing.put_records.Goals.{After-is_listed, Then-is_listed, then-is_listed, else-is_listed}

-- what the test says of the entry
listed : (c : After-is_listed) → listed_at c.args.standing c.args.table.now c.loop-i.i ≡ c.is_listed.result
listed c = sym (c.is_listed.ensures ∙ rw (c.rounds_at.ensures, c.of_table-entries.ensures))

-- the next record fits
fits : (c : Then-is_listed) → c.loop-i.at + width_of c.args.standing ≤ length c.loop-i.buffer
fits c =
    next_fits _ _ _ _ _ _ _ c.requires.searchable.fitting c.loop-i.invariant c.loop-i-test.true
    (sym (c.is_listed.ensures ∙ rw (c.rounds_at.ensures, c.of_table-entries.ensures)) ∙ c.if-is_listed.true)
    c.requires.table_in_bounds

pub loop-i-init : goal.loop-i-init
loop-i-init c = filled_none _ _ _ _ _ _ _

pub put_record-requires-clause-bounds : goal.put_record-requires-clause-bounds
put_record-requires-clause-bounds c =
    (c.loop-i-test.true, fits (goal.at.put_record-requires-clause-bounds c).Then-is_listed)

pub overflow_add-at : goal.overflow_add-at
overflow_add-at c =
    omega (arith, fits (goal.at.overflow_add-at c).Then-is_listed, c.width-at.ensures)

pub loop-i-preserved : goal.loop-i-preserved
loop-i-preserved c =
    let is = listed (goal.at.loop-i-preserved c).After-is_listed in
    elim c.if-is_listed.branch [
      | then-is_listed w ↦
          rw (w.at-is, w.width-at.ensures)
          (filled_more _ _ _ _ _ _ _ c.requires.searchable.fitting c.loop-i.invariant c.loop-i-test.true (is ∙ w.if-is_listed.true) _
          (w.buffer-is ∙ w.put_record.ensures))
      | else-is_listed w ↦
          rw (w.buffer-is, w.at-is) (filled-same _ _ _ _ _ _ _ c.loop-i.invariant c.loop-i-test.true (is ∙ w.if-is_listed.false))
    ]

pub returns : goal.returns
returns c = filled-all _ _ _ _ _ _ _ c.loop-i.invariant c.loop-i-test.false
