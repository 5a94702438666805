-- With rounds left, the attack is the first that wins.
use Rattle.std.proofs.Common.{◌*◌, ◌∙◌, eq-eqb}
use borrow.Author.Tests.{ne_eqb}
use Rattle.game_index.specs.Reading.{task_in, rules_in}
use Rattle.game_replies.proofs.SameWinner.{winner-same}
use Rattle.game_wins.proofs.AllPairs.{among-all}
use Rattle.comparer_certify_laws.specs.Marking.{lost_before, attack_by}
use Rattle.comparer_leads.proofs.attack_of.Goals as goal

pub returns-then-k-eq0 : goal.returns-then-k-eq0
unfolding attack_by
returns-then-k-eq0 c = rw (eq-eqb _ _ c.if-k-eq0.true)

pub first_win-requires : goal.first_win-requires
first_win-requires c = rw c.of_table-records.ensures c.requires.searchable

pub returns : goal.returns
unfolding attack_by
returns c =
    rw (ne_eqb _ _ c.if-k-eq0.false)
    (c.first_win.ensures
    ∙ rw c.of_table-records.ensures
    (winner-same (rules_in c.args.index.now.bytes) (task_in c.args.index.now.bytes) _ (lost_before c.args.table.now c.args.n (c.args.k * 2)) c.args.p
    (λ b m j r. among-all _ _ _)))
