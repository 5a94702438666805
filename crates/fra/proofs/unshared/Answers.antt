use Rattle.fra.specs.Position.{is_unshared}
use Rattle.fra.proofs.unshared.Goals as goal

pub returns : goal.returns
unfolding is_unshared
returns c = rw (c.has.ensures, c.left_partner.ensures)
