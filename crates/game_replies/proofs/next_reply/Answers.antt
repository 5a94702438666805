use Rattle.std.proofs.Common.{sym, ◌∙◌, ◌<◌, arith}
use Rattle.fra.specs.Rules.{other}
use Rattle.fra_laws.proofs.AttackMembers.{reply_facts}
use Rattle.game_index.specs.Reading.{task_in}
use Rattle.game_index.proofs.Reading.{model_in_lem}
use Rattle.game_replies.proofs.AttackReplies.{placed, none_before, none_past}
use Rattle.game_replies.proofs.ReplySearch.{reply_here, reply_later, reply_none, reply_skip}
use Rattle.game_replies.proofs.next_reply.Goals as goal

pub loop-k-init : goal.loop-k-init
loop-k-init c = λ p a e.
    rw c.max-k.ensures
    (reply_skip _ p a _ _ (omega arith)
    (λ j l h.
    let before : j < c.args.challenge.edges.first = omega arith in
    none_before c.args.index.now.of_a_task p a j (rw e at before)))

pub returns-then-found : goal.returns-then-found
returns-then-found c = λ p a e.
    let b = c.args.index.now.bytes in
    let k = c.loop-k.k in
    let found = sym (c.is_reply-found.ensures p a e) ∙ c.if-found.true in
    let same = placed c.args.index.now.of_a_task p a k (reply_facts (task_in b) p a k found).exists in
    sym
    (c.loop-k.invariant p a e
    ∙ reply_here (task_in b) p a k found
    ∙ rw (c.target_at-target.ensures, same, c.other-away.ensures, e, model_in_lem b (other a.side)))

pub loop-k-preserved : goal.loop-k-preserved
loop-k-preserved c = λ p a e.
    c.loop-k.invariant p a e ∙ reply_later _ p a c.loop-k.k (sym (c.is_reply-found.ensures p a e) ∙ c.if-found.false)

pub returns : goal.returns
returns c = λ p a e.
    let past = rw e at c.loop-k-test.false in
    let index = c.args.index.now.of_a_task in
    sym (c.loop-k.invariant p a e ∙ reply_none _ p a c.loop-k.k (λ j h. none_past index p a j (omega arith)))
