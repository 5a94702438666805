use Rattle.std.proofs.Common.{◌≡◌, ap, rules, ℕ, List, [], ◌∷◌, ◌++◌, length}
use Rattle.fra.specs.Lists.{count}
use Rattle.fra.specs.Position.{bytes}
use Rattle.fra_laws.proofs.ByPlace.{elements}
use Rattle.listing.proofs.bytes_of.Goals as goal

pub returns : goal.returns
unfolding bytes count
returns c =
    let p = c.args.p in
    let six : length p.partners ≡ 6 = search rules in
    ap (λ (l : List ℕ). p.left ∷ p.right ∷ l ++ p.history ∷ []) (elements 6 p.partners 0 six)
