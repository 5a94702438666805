use Rattle.std.proofs.Common.{◌≡◌, false, eqb, refl, sym, ◌∙◌}
use Rattle.fra.specs.Lists.{any}
use Rattle.fra.specs.Model.{set_of}
use Rattle.fra_laws.proofs.Registers.{has_positive}
use Rattle.task.specs.TaskFile.{pair_refusal}
use Rattle.task_pairs.proofs.pair.admit.Goals as goal

pub rising-requires : goal.rising-requires
rising-requires c =
    has_positive (set_of c.args.t.left c.args.t.left.start) c.args.left (sym c.held.ensures ∙ c.if-held.true)

pub returns-then-not-contains : goal.returns-then-not-contains
unfolding pair_refusal
returns-then-not-contains c =
    let unused : any (eqb c.args.right) c.args.t.start.partners ≡ false = sym c.if-not-contains.ensures in
    rw (sym c.if-held.ensures, sym c.if-held-2.ensures, sym c.if-rising.ensures, unused) refl
