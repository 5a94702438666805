-- the range decides on state, tag and edge number, and then the kind does
use mathlib.Core.Path.{sym, ◌∙◌}
use mathlib.Core.Logic.{⊎_elim}
use lib.Dec.{ltb, leb}
use borrow.Author.Tests.{ltb-true, leb-true, ltb-false, leb-false}
use Rattle.fra.specs.Rules.{other}
use Rattle.fra_laws.proofs.Tests.{or_cases, or_false_left, or_false_right}
use Rattle.game_index.proofs.Reading.{model_in_lem}
use Rattle.game_replies.proofs.AttackReplies.{none_before, none_past, by_kind}
use Rattle.game_replies.proofs.Challenge.is_reply.Goals as goal

pub returns-then-k-edges : goal.returns-then-k-edges
returns-then-k-edges c = λ p a e.
    let k = c.args.k in
    let edges = c.args.self.edges in
    ⊎_elim (λ h. sym (none_before c.args.index.now.of_a_task p a k (rw e at (ltb-true k edges.first h))))
    (λ h. sym (none_past c.args.index.now.of_a_task p a k (rw e at (leb-true edges.end k h))))
    (or_cases (ltb k edges.first) (leb edges.end k) c.if-k-edges.true)

pub returns : goal.returns
returns c = λ p a e.
    let k = c.args.k in
    let edges = c.args.self.edges in
    let first = ltb-false k edges.first (or_false_left _ (leb edges.end k) c.if-k-edges.false) in
    let end = leb-false edges.end k (or_false_right (ltb k edges.first) _ c.if-k-edges.false) in
    c.answers.ensures
    ∙ rw (c.kind_at-kind.ensures, c.other.ensures, e, ← model_in_lem c.args.index.now.bytes (other a.side))
    (sym (by_kind c.args.index.now.of_a_task p a k (rw e at first) (rw e at end)))
