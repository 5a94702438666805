use Rattle.std.proofs.Common.{◌≡◌, ◌∙◌, rules, arith, length}
use Rattle.fra.specs.Position.{bytes}
use Rattle.listing.proofs.WordLaws.{put_mid-sets}
use Rattle.listing.proofs.PositionNumbers.{bytes-length}
use Rattle.listing.proofs.put_position.Goals as goal

pub returns : goal.returns
returns c =
    let p = c.args.p in
    let six : length p.partners ≡ 6 = search rules in
    put_mid-sets c.args.at _ c.args.list.now c.copy_from_slice.new.self (bytes p)
    (c.copy_from_slice.ensures.after ∙ c.bytes_of.ensures)
    (omega (arith, bytes-length p six))
    (omega arith)
