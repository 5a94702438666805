use Rattle.std.proofs.Common.{rules, arith}
use Rattle.std.proofs.lemmas.Grind.{common_steps}
use Rattle.std.proofs.lemmas.Option.{gets}
use Rattle.fra.specs.Position.{right_partner}
use Rattle.fra.proofs.Partners.{right_partner-at}
use Rattle.fra.proofs.right_partner.Goals as goal

pub returns-then-i-eq0 : goal.returns-then-i-eq0
unfolding right_partner
returns-then-i-eq0 c = search rules

pub returns : goal.returns
returns c = rw (right_partner-at c.args.partners.now c.args.i (omega arith)) (grind (arith, common_steps, gets))
