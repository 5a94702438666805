-- Test by test: entry i gains rounds exactly if its states are worth a look, it has no rounds, and the search finds an attack.
use Rattle.std.proofs.Common.{◌≡◌, is_some, sym, ◌∙◌}
use Rattle.comparer_rank.specs.RankPasses.{gains}
use Rattle.comparer_rank.proofs.EntryGains.{gains_unseen, gains-nothing, gains-found}
use Rattle.comparer_rank.proofs.mark.Goals as goal
use Rattle.comparer_rank.proofs.mark.Goals.{After-first_win-win}

-- a search decides for an entry without rounds
searched : (c : After-first_win-win)
    → gains c.args.index.now.bytes c.args.table.now c.args.n c.args.losing.now c.args.worth.now c.args.k c.args.i
    ≡ is_some c.first_win-win.result
searched c =
    let listed = c.of_table-records.ensures in
    let here = rw listed at c.position_at-p.ensures in
    let never = sym (rw listed at c.rounds_at.ensures) ∙ c.if-rounds_at.false in
    let seen = sym c.has.ensures ∙ c.if-not-has.false in
    gains-found _ _ _ _ _ _ _ here seen never (rw listed at c.first_win-win.ensures)

pub returns-then-not-has-clause-value : goal.returns-then-not-has-clause-value
returns-then-not-has-clause-value c =
    let here = rw c.of_table-records.ensures at c.position_at-p.ensures in
    sym (gains_unseen _ _ _ _ _ _ _ here (sym c.has.ensures ∙ c.if-not-has.true))

pub returns-then-rounds_at-clause-value : goal.returns-then-rounds_at-clause-value
returns-then-rounds_at-clause-value c =
    let here = rw c.of_table-records.ensures at c.position_at-p.ensures in
    let counted = rw c.of_table-records.ensures at c.rounds_at.ensures in
    let seen = sym c.has.ensures ∙ c.if-not-has.false in
    sym (gains-nothing _ _ _ _ _ _ _ here seen (λ e. c.if-rounds_at.true (counted ∙ e)))

pub returns-then-is_none-clause-value : goal.returns-then-is_none-clause-value
returns-then-is_none-clause-value c =
    sym (searched (goal.at.returns-then-is_none-clause-value c).After-first_win-win
    ∙ rw c.if-is_none.true at c.is_none.ensures)

pub returns-clause-value : goal.returns-clause-value
returns-clause-value c =
    sym (searched (goal.at.returns-clause-value c).After-first_win-win
    ∙ rw c.if-is_none.false at c.is_none.ensures)

pub returns-clause-table_after : goal.returns-clause-table_after
returns-clause-table_after c = c.put_word.ensures
