-- The table can be searched all the while, and an entry leads on exactly if it has k rounds and a mark.
use Rattle.std.proofs.Common.{◌≡◌, sym, ◌∙◌, refl}
use Rattle.game_index.specs.Reading.{task_in, rules_in}
use Rattle.comparer_certify_laws.specs.Marking.{rounds_of, passed}
use Rattle.comparer_certify_laws.proofs.Marking.{pass_taken, pass_left}
use Rattle.comparer_certify_laws.proofs.StillSearchable.{kept-passed, fitting-kept, searchable-kept}
use Rattle.comparer_leads.proofs.pass.Goals as goal
use Rattle.comparer_leads.proofs.pass.Goals.{then-rounds_at-k, else-rounds_at-k}

pub loop-i-init : goal.loop-i-init
unfolding passed
loop-i-init c = refl

pub rounds_at-requires : goal.rounds_at-requires
rounds_at-requires c =
    let kept = kept-passed (rules_in c.args.index.now.bytes) (task_in c.args.index.now.bytes) c.args.n c.args.k c.loop-i.i c.args.table.now in
    rw (c.of_table-entries.ensures, c.loop-i.invariant) (fitting-kept c.requires.searchable.fitting kept, c.loop-i-test.true)

pub lead-requires : goal.lead-requires
lead-requires c =
    let kept = kept-passed (rules_in c.args.index.now.bytes) (task_in c.args.index.now.bytes) c.args.n c.args.k c.loop-i.i c.args.table.now in
    record {
      searchable = rw c.loop-i.invariant (searchable-kept c.requires.searchable kept);
      bounds = (c.requires.bounds, c.loop-i-test.true);
    }

pub loop-i-preserved : goal.loop-i-preserved
loop-i-preserved c =
    let read : c.rounds_at.result ≡ rounds_of c.loop-i.table c.loop-i.i =
    c.rounds_at.ensures ∙ rw c.of_table-entries.ensures in
    elim c.if-rounds_at-k.branch [
      | then-rounds_at-k w ↦
          w.table-is ∙ w.lead.ensures ∙ pass_taken _ _ _ _ _ _ _ c.loop-i.invariant (sym read ∙ w.if-rounds_at-k.true)
      | else-rounds_at-k w ↦
          w.table-is ∙ pass_left _ _ _ _ _ _ _ c.loop-i.invariant (λ e. w.if-rounds_at-k.false (read ∙ e))
    ]
