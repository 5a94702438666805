use Rattle.std.proofs.Common.{sym, ◌∙◌, arith}
use Rattle.fra.proofs.Partners.{left_partner-here, left_partner-later, left_partner_none}
use Rattle.fra.proofs.left_partner.Goals as goal

pub returns-then-partners-i : goal.returns-then-partners-i
returns-then-partners-i c =
    sym (c.loop-i.invariant ∙ left_partner-here c.args.partners.now c.loop-i.i c.args.j (omega arith) c.if-partners-i.true)

pub loop-i-preserved : goal.loop-i-preserved
loop-i-preserved c =
    c.loop-i.invariant ∙ left_partner-later c.args.partners.now c.loop-i.i c.args.j (omega arith) c.if-partners-i.false

pub returns : goal.returns
returns c = sym (c.loop-i.invariant ∙ left_partner_none c.args.partners.now c.loop-i.i c.args.j (omega arith))
