-- A kind, and then a position's bytes.
use Rattle.std.proofs.Common.{◌≡◌, suc, ◌+◌, arith}
use Rattle.outcome.specs.Certificate.{kept_record}
use Rattle.listing.specs.Widths.{record_position}
use Rattle.comparer_certify.proofs.fields.put_head.Goals as goal

pub returns : goal.returns
unfolding kept_record
returns c =
    let one : c.args.at + record_position ≡ suc c.args.at = omega arith in
    rw (c.put_position.ensures, one)
