-- The size is known before anything is written.
use Rattle.std.proofs.Common.{◌≡◌, ◌*◌, ◌≤◌, ◌<◌, length, sym, arith}
use Rattle.game_index.specs.Reading.{task_in, rules_in}
use Rattle.comparer_certify_laws.proofs.RecordFilling.{records_width, written-whole, bytes_few}
use Rattle.comparer_certify.specs.RecordFields.{records_in}
use Rattle.comparer_certify.proofs.FittingBuffers.{too_long_lem, fits}
use Rattle.comparer_certify.proofs.writing.write.Goals as goal
use Rattle.comparer_certify.proofs.writing.write.Goals.{After-width}

-- what is computed is the length of the records
computed : (c : After-width)
    → c.count_listed.result * c.width.result ≡ length (records_in c.args.index.now.bytes c.args.standing c.args.n c.args.table.now)
computed c =
    let b = c.args.index.now.bytes in
    rw (c.count_listed.ensures, c.width.ensures)
    (sym
    (records_width c.args.n c.args.table.now c.requires.fitting (rules_in b) (task_in b) _ c.args.standing))

-- an entry is not much shorter than a record
pub overflow_mul-size : goal.overflow_mul-size
overflow_mul-size c =
    rw (c.count_listed.ensures, c.width.ensures)
    (omega (arith, bytes_few c.args.standing c.args.table.now c.args.n, c.requires.fitting.room, c.well_formed))

pub returns-then-buffer-size : goal.returns-then-buffer-size
returns-then-buffer-size c =
    let short : length c.args.buffer.now < c.count_listed.result * c.width.result = omega arith in
    too_long_lem _ c.args.table.now c.args.buffer.now
    (rw (← computed (goal.at.returns-then-buffer-size c).After-width) short)

pub put_records-requires-clause-table_in_bounds : goal.put_records-requires-clause-table_in_bounds
put_records-requires-clause-table_in_bounds c =
    let long : c.count_listed.result * c.width.result ≤ length c.args.buffer.now = omega arith in
    rw (← computed (goal.at.put_records-requires-clause-table_in_bounds c).After-width) long

pub returns : goal.returns
returns c =
    let is = computed (goal.at.returns c).After-width in
    let long : c.count_listed.result * c.width.result ≤ length c.args.buffer.now = omega arith in
    let room = rw is at long in
    rw (is, c.put_records.ensures, written-whole _ c.args.buffer.now room) (fits _ c.args.table.now c.args.buffer.now room)
