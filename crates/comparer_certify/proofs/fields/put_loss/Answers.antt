-- A kind, a position, an attack and rounds, one behind another.
use Rattle.listing.specs.Listing.{of_table, position_at}
use Rattle.comparer_certify_laws.specs.EntryRecords.{record_at}
use Rattle.comparer_certify_laws.proofs.RecordFilling.{entry_six}
use Rattle.comparer_certify.proofs.RecordParts.{loss_written}
use Rattle.comparer_certify.proofs.fields.put_loss.Goals as goal

pub returns : goal.returns
unfolding record_at
returns c =
    rw (
      c.put_word.ensures,
      c.put_attack.ensures,
      c.put_head.ensures,
      c.kind_of.ensures,
      c.attack_of-attack.ensures,
      c.rounds_at-rounds.ensures,
      c.position_at-p.ensures,
      c.of_table-entries.ensures,
    )
    (loss_written c.args.buffer.now c.args.at _ _ (position_at (of_table c.args.n) c.args.table.now c.args.i) _
    (entry_six c.args.n c.args.table.now c.requires.searchable.fitting c.args.i c.requires.bounds.0))
