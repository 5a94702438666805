use Rattle.std.proofs.Common.{◌≡◌, ◌∙◌, sym, ap, rules, arith, length}
use borrow.Author.Tests.{ltb-true, eqb-true, eqb-false}
use Rattle.listing.specs.Digits.{value}
use Rattle.listing.proofs.PositionNumbers.{position-below, bytes-length}
use Rattle.listing.proofs.Halving.{place-found}
use Rattle.listing.proofs.find.Goals as goal
use Rattle.listing.proofs.find.Goals.{then-at-records, else-at-records}

pub returns : goal.returns
returns c =
    let a = c.args in
    let p = a.p in
    let six : length p.partners ≡ 6 = search rules in
    let small = position-below p (search rules) (search rules) (λ i. search rules) (search rules) in
    let sought = c.number-sought.ensures ∙ ap (value 256 0) c.bytes_of.ensures in
    let bound = rw sought at c.lower_bound-at.ensures in
    let place =
    place-found a.records a.list.now c.requires (λ i. (c.type_inv.list i).fits) p (bytes-length p six) small
    c.lower_bound-at.result
    bound
    c.if-at-records.found in
    elim c.if-at-records.branch [
      | then-at-records w ↦
          let same = rw (w.number_at.ensures, sought) at w.found-is in
          c.then_some.ensures
          ∙ place (λ e. (w.if-at-records.true, eqb-true _ _ (sym same ∙ e))) (λ e _. eqb-false _ _ (sym same ∙ e))
      | else-at-records w ↦
          c.then_some.ensures
          ∙ place (λ e. absurd (omega (arith, ltb-true _ _ (sym w.found-is ∙ e)))) (λ _ h. absurd (omega (arith, w.if-at-records.false)))
    ]
