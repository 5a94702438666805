-- Three bytes in either case.
use Rattle.std.proofs.Common.{◌∙◌, arith}
use Rattle.listing.proofs.WordLaws.{put_mid-sets}
use Rattle.comparer_certify.specs.RecordFields.{attack_bytes}
use Rattle.comparer_certify.proofs.RecordParts.{attack_width_lem}
use Rattle.comparer_certify.proofs.fields.put_attack.Goals as goal

pub returns : goal.returns
returns c =
    put_mid-sets c.args.at _ c.args.buffer.now c.copy_from_slice.new.self (attack_bytes c.args.attack)
    (c.copy_from_slice.ensures.after ∙ c.attack_bytes.ensures)
    (omega (arith, attack_width_lem c.args.attack))
    (omega arith)
