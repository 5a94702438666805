-- An attack was found, or there is none and nothing to mark.
use Rattle.std.proofs.Common.{sym, ◌∙◌}
use Rattle.comparer_certify_laws.proofs.Marking.{led_by, led_nowhere}
use Rattle.comparer_leads.proofs.lead.Goals as goal

pub returns-in-Some : goal.returns-in-Some
returns-in-Some c =
    let won = rw (c.position_at-p.ensures, c.of_table.ensures) at (sym c.attack_of.ensures ∙ c.in-Some.is) in
    c.mark_replies.ensures ∙ rw (c.position_at-p.ensures, c.of_table.ensures) (sym (led_by _ _ _ _ _ _ won))

pub returns-in_default : goal.returns-in_default
returns-in_default c =
    sym (led_nowhere _ _ _ _ _ _ (rw (c.position_at-p.ensures, c.of_table.ensures) at (sym c.attack_of.ensures ∙ c.in_default.is)))
