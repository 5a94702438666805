use Rattle.std.proofs.Common.{refl, arith}
use Rattle.std.specs.Ordering.{nat_cmp, is_lt}
use Rattle.std.proofs.lemmas.Cmp.{same_from_slice_cmp_tested}
use Rattle.std.proofs.lemmas.Bool.Decides.{nat_tests}
use Rattle.fra.specs.Lists.{below}
use Rattle.task_lookup.proofs.bytes.below.Goals as goal

pub returns : goal.returns
unfolding below
returns c =
    same_from_slice_cmp_tested nat_cmp is_lt below refl (λ _ _. refl) (λ _ _. refl) (λ x y xs ys o h. grind (arith, nat_tests)) c.args.a.now c.args.b.now
    c.lt.result c.lt.ensures
