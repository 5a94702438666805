use Rattle.std.proofs.Common.{ap, arith}
use Rattle.fra.specs.Lists.{count}
use Rattle.fra_laws.proofs.ByPlace.{elements}
use Rattle.listing.specs.Widths.{position_width}
use Rattle.listing.specs.Digits.{value}
use Rattle.listing.proofs.number.Goals as goal

pub returns : goal.returns
unfolding value count
returns c =
    let by_place = ap (value 256 0) (elements position_width c.args.b.now 0 c.requires) in
    omega (arith, by_place, c.from_be_bytes.ensures)
