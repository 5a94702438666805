-- Past the test for none, by what was tested.
use Rattle.std.proofs.Common.{◌≡◌, refl, rules, tests, sym, ◌∙◌, eqb}
use borrow.Author.Tests.{ne_eqb}
use Rattle.std.proofs.lemmas.List.Recursion.{or_is}
use Rattle.fra.specs.Lists.{any}
use Rattle.checker_form.proofs.legality.partner_fits.Goals as goal
use Rattle.checker_form.proofs.legality.partner_fits.Goals.{then-has, else-has}

pub returns-then-has-2 : goal.returns-then-has-2
unfolding any
returns-then-has-2 c =
    let x = c.args.x in
    let found : c.contains.result ≡ any (eqb x) c.args.later.now =
    or_is (any (eqb x)) (eqb x) refl (λ _ _. refl) c.args.later.now 0 _ (search (tests, rules)) (search (tests, rules)) in
    elim c.if-has.branch [
      | then-has w ↦
          rw (
            ne_eqb _ _ c.if-x-eq0.false,
            sym c.has.ensures ∙ w.if-has.true,
            sym w.has-then-has.ensures ∙ sym w.value-is ∙ c.if-has-2.true,
            found,
          )
      | else-has w ↦ cc
    ]
