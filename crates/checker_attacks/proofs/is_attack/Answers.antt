-- Test by test.
use Rattle.std.proofs.Common.{sym, ◌∙◌}
use borrow.Author.Tests.{lt-ltb, le-ltb, eq-eqb, ne_eqb}
use Rattle.checker_attacks.proofs.AttackIn.{attack_in_lem}
use Rattle.checker_attacks.proofs.is_attack.Goals as goal

pub returns-then-not-attacks : goal.returns-then-not-attacks
returns-then-not-attacks c = rw (attack_in_lem, sym c.attacks.ensures ∙ c.if-not-attacks.true)

pub returns-then-edge_count-a : goal.returns-then-edge_count-a
returns-then-edge_count-a c =
    let past = rw c.edge_count.ensures at c.if-edge_count-a.true in
    rw (attack_in_lem, sym c.attacks.ensures ∙ c.if-not-attacks.false, le-ltb _ _ past)

pub returns-then-e-state : goal.returns-then-e-state
returns-then-e-state c =
    let below = rw c.edge_count.ensures at c.if-edge_count-a.false in
    let elsewhere = rw (c.state.ensures, c.edge_at-e.ensures) at c.if-e-state.true in
    rw (attack_in_lem, sym c.attacks.ensures ∙ c.if-not-attacks.false, lt-ltb _ _ below, ne_eqb _ _ elsewhere)

pub returns : goal.returns
returns c =
    let below = rw c.edge_count.ensures at c.if-edge_count-a.false in
    let here = rw (c.state.ensures, c.edge_at-e.ensures) at c.if-e-state.false in
    let told =
    rw (c.has_room-room.ensures, c.set_of-others.ensures, c.state-2.ensures, c.other-away.ensures)
    at c.has_case.ensures in
    rw (attack_in_lem, sym c.attacks.ensures ∙ c.if-not-attacks.false, lt-ltb _ _ below, eq-eqb _ _ here)
    (rw c.edge_at-e.ensures at told)
