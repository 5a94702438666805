use Rattle.std.proofs.Common.{◌≡◌, ℕ, List, [], ◌∷◌, nat_eq, eqb, refl, ◌∙◌, arith}
use Rattle.std.specs.List.{list_any}
use Rattle.std.proofs.lemmas.Bool.Decides.{nat_tests}
use Rattle.fra.specs.Lists.{any}
use Rattle.task_lookup.proofs.bytes.contains.Goals as goal

-- the library's test, and that of the definitions
any_of : (byte : ℕ) (s : List ℕ) → list_any (λ y. nat_eq y byte) s ≡ any (eqb byte) s
unfolding any
any_of byte [] = refl
any_of byte (x ∷ s) =
    let rest = any_of byte s in
    grind (arith, nat_tests, rest)

pub returns : goal.returns
returns c = c.contains.ensures.value ∙ any_of c.args.byte c.args.s.now
