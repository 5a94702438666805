use Rattle.std.proofs.Common.{◌≡◌, ℕ, ◌+◌, ◌-◌, ◌<◌, List, length, take, drop, sym, ◌∙◌, arith}
use lib.ListN.{length-drop}
use lib.Seq.{take_all}
use Rattle.checker_form.proofs.MatchingFrom.{matching_stop, matching_on, matching-end}
use Rattle.checker_form.proofs.legality.matching.Goals as goal

-- the slice behind place `i` is what follows there
behind : (l : List ℕ) (i : ℕ) → length l ≡ 6 → i < 6 → take (6 - (i + 1)) (drop (i + 1) l) ≡ drop (i + 1) l
behind l i long h = take_all (6 - (i + 1)) (drop (i + 1) l) (rw length-drop (omega arith))

pub returns-then-not-partner_fits : goal.returns-then-not-partner_fits
returns-then-not-partner_fits c =
    let a = c.args in
    let told = rw (behind a.partners.now c.loop-i.i (omega arith) (omega arith)) at c.partner_fits.ensures in
    sym
    (c.loop-i.invariant
    ∙ matching_stop a.left a.right a.partners.now c.loop-i.i (omega arith) (sym told ∙ c.if-not-partner_fits.true))

pub loop-i-preserved : goal.loop-i-preserved
loop-i-preserved c =
    let a = c.args in
    let told = rw (behind a.partners.now c.loop-i.i (omega arith) (omega arith)) at c.partner_fits.ensures in
    c.loop-i.invariant
    ∙ matching_on a.left a.right a.partners.now c.loop-i.i (omega arith) (sym told ∙ c.if-not-partner_fits.false)

pub returns : goal.returns
returns c =
    let a = c.args in
    sym (c.loop-i.invariant ∙ matching-end a.left a.right a.partners.now c.loop-i.i (omega arith))
