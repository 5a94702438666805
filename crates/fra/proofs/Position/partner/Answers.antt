use Rattle.fra.specs.Position.{partner}
use Rattle.fra.proofs.Position.partner.Goals as goal

pub returns-in-Left : goal.returns-in-Left
unfolding partner
returns-in-Left c = cc

pub returns-in-Right : goal.returns-in-Right
unfolding partner
returns-in-Right c = cc
