-- by which of the edges is known
use mathlib.Core.Path.{sym, ◌∙◌}
use borrow.Author.Tests.{not-true, not-false}
use Rattle.fra.specs.Position.{partner}
use Rattle.fra.specs.declared.Side.TheVariants.{Left}
use Rattle.fra_laws.proofs.Pairs.{own-known, other-known, both_fresh}
use Rattle.game_replies.proofs.joint.Goals as goal

pub returns-then-not-is_fresh : goal.returns-then-not-is_fresh
unfolding partner
returns-then-not-is_fresh c = λ p e.
    let a = c.args in
    let known = sym c.is_fresh.ensures ∙ not-true _ c.if-not-is_fresh.true-raw in
    c.answers.ensures
    ∙ rw (c.right_partner.ensures, c.register.ensures, ← e) (sym (own-known p Left a.left a.right known))

pub returns-then-not-is_fresh-2 : goal.returns-then-not-is_fresh-2
unfolding partner
returns-then-not-is_fresh-2 c = λ p e.
    let a = c.args in
    let fresh = sym c.is_fresh.ensures ∙ not-false _ c.if-not-is_fresh.false-raw in
    let known = sym c.is_fresh-2.ensures ∙ not-true _ c.if-not-is_fresh-2.true-raw in
    c.answers-then-not-is_fresh-2.ensures
    ∙ rw (c.left_partner.ensures, c.register-then-not-is_fresh-2.ensures, ← e)
    (sym (other-known p Left a.left a.right fresh known))

pub returns : goal.returns
returns c = λ p e.
    let a = c.args in
    let fresh = sym c.is_fresh.ensures ∙ not-false _ c.if-not-is_fresh.false-raw in
    let other_fresh = sym c.is_fresh-2.ensures ∙ not-false _ c.if-not-is_fresh-2.false-raw in
    sym (both_fresh p Left a.left a.right fresh other_fresh)
