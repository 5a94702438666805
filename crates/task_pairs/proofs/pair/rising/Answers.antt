use Rattle.std.proofs.Common.{◌≡◌, ℕ, ◌-◌, Bool, not, List, [], ◌∷◌, drop, ltb, refl, ap, ◌∙◌, rules, tests}
use Rattle.std.specs.List.{list_any}
use Rattle.std.proofs.lemmas.Iterator.{YieldsList-from_slice}
use Rattle.std.proofs.lemmas.Iterator.Adapters.{YieldsList-from_skip}
use Rattle.std.proofs.lemmas.Iterator.Search.{any_from_yields_List}
use Rattle.fra.specs.Lists.{any}
use Rattle.task.specs.TaskFile.{rising}
use Rattle.task_pairs.proofs.pair.rising.Goals as goal

-- the library's test, and that of the definitions
any_of : (f : ℕ → Bool) (l : List ℕ) → list_any f l ≡ any f l
unfolding any
any_of f [] = refl
any_of f (x ∷ l) = rw (any_of f l)

pub returns : goal.returns
unfolding rising
returns c =
    ap not
    (any_from_yields_List (ltb 0) _ _ c.any.result c.any.ensures.ran
    (YieldsList-from_skip (c.args.left - 1) (YieldsList-from_slice c.args.partners cc) cc)
    (λ x b q k. search (rules, tests))
    ∙ any_of (ltb 0) (drop (c.args.left - 1) c.args.partners))
