use Rattle.std.proofs.Common.{◌≡◌, ◌≤◌, ℕ, Bool, true, false, not, cond, ◌||◌, eqb, refl, sym, ◌∙◌, Result, Ok, Err}
use Rattle.fra.specs.Lists.{any}
use Rattle.fra.specs.Registers.{has}
use Rattle.fra.specs.Model.{set_of}
use Rattle.fra.specs.declared.Task.{Task}
use Rattle.fra_laws.proofs.Registers.{has_positive}
use Rattle.task.specs.TaskFile.{rising, pair_refusal}
use Rattle.task.specs.declared.Refusal.{Refusal}
use Rattle.task.specs.declared.Refusal.TheVariants.{BadPair}
use Rattle.task_pairs.proofs.pair.step_of.Goals as goal

-- a pair that is taken has a left register
positive : (t : Task) (l r : ℕ) → pair_refusal t l r ≡ Ok tt → 1 ≤ l
unfolding pair_refusal
positive t l r e =
    has_positive (set_of t.left t.left.start) l
    (held (has (set_of t.left t.left.start) l) (has (set_of t.right t.right.start) r) (rising t.start.partners l)
    (any (eqb r) t.start.partners) e)
  where
    held : (a b c d : Bool)
        → ◌≡◌ {A = Result (Unit {0}) Refusal} (cond (not a || not b || not c || d) (Err BadPair) (Ok tt)) (Ok tt)
        → a ≡ true
    held true b c d e = refl
    held false b c d e = cc

pub with_pair-requires : goal.with_pair-requires
with_pair-requires c =
    positive c.args.p.task c.at-left.result c.at-right.result (sym c.admit.ensures ∙ c.in_ok-admit.was)
