-- Positions can be looked up all the while.
use Rattle.game_index.specs.Reading.{task_in}
use Rattle.comparer_certify_laws.specs.MarkedRounds.{doubled}
use Rattle.comparer_certify_laws.specs.Marking.{prepared}
use Rattle.comparer_certify_laws.proofs.StillSearchable.{kept_trans, kept-changed, kept-marked, searchable-kept}
use Rattle.comparer_leads.proofs.prepare.Goals as goal

pub mark-requires : goal.mark-requires
mark-requires c =
    let changes = c.rescale.ensures doubled (λ w r h e. e) in
    rw changes (searchable-kept c.requires.searchable (kept-changed doubled c.args.n c.args.n c.args.table.now))

pub mark_down-requires : goal.mark_down-requires
mark_down-requires c =
    let changes = c.rescale.ensures doubled (λ w r h e. e) in
    let kept = kept-changed doubled c.args.n c.args.n c.args.table.now in
    record {
      searchable = rw (c.mark.ensures, changes) (searchable-kept c.requires.searchable (kept_trans kept (kept-marked c.args.n _ _)));
      bounds = c.requires.bounds;
    }

pub returns : goal.returns
unfolding prepared task_in
returns c =
    rw (c.mark_down.ensures, c.mark.ensures, c.start.ensures, c.rescale.ensures doubled (λ w r h e. e))
