-- the numbers of positions' bytes order them
use Rattle.std.proofs.Common.{◌≡◌, ◌∙◌, sym, rules, length}
use borrow.Author.Tests.{ltb-true, lt-ltb}
use Rattle.fra.specs.Position.{bytes, before}
use Rattle.fra_laws.proofs.Tests.{same_test}
use Rattle.listing.proofs.Digits.{value-below, value-order}
use Rattle.listing.proofs.PositionNumbers.{position-below, bytes-length}
use Rattle.listing.proofs.before.Goals as goal

pub returns : goal.returns
unfolding before
returns c =
    let p = c.args.p in
    let q = c.args.q in
    let left : length p.partners ≡ 6 = search rules in
    let right : length q.partners ≡ 6 = search rules in
    let long = bytes-length p left ∙ sym (bytes-length q right) in
    let a = position-below p (search rules) (search rules) (λ i. search rules) (search rules) in
    let b = position-below q (search rules) (search rules) (λ i. search rules) (search rules) in
    rw (c.number.ensures, c.number-2.ensures, c.bytes_of.ensures, c.bytes_of-2.ensures)
    (same_test _ _ (λ h. (value-order 256 0 (bytes p) (bytes q) long a b).0 (ltb-true _ _ h))
    (λ h. lt-ltb _ _ (value-below 256 0 (bytes p) (bytes q) long a b h)))
