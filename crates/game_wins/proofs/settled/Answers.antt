use Rattle.std.proofs.Common.{sym, ◌∙◌, rules, arith}
use Rattle.fra.specs.Rules.{other}
use Rattle.game_index.proofs.Reading.{few_edges}
use Rattle.game_replies.specs.Challenges.{attack_of}
use Rattle.game_replies.proofs.ReplySearch.{reply_found}
use Rattle.game_wins.proofs.SettledAttacks.{wins-unanswered, wins-answered, wins-all}
use Rattle.game_wins.proofs.settled.Goals as goal

pub loop-reply-init : goal.loop-reply-init
loop-reply-init c = wins-all _ _ _ _

pub returns-in_default : goal.returns-in_default
returns-in_default c =
    let asked = c.requires.asked in
    let answer = c.next_reply.ensures c.args.p (attack_of c.args.challenge) asked in
    sym (c.loop-reply.invariant ∙ wins-unanswered _ _ _ _ _ asked answer c.in_default.is)

pub returns-then-not-leads_to_lost : goal.returns-then-not-leads_to_lost
returns-then-not-leads_to_lost c =
    let asked = c.requires.asked in
    let answer = c.next_reply.ensures c.args.p (attack_of c.args.challenge) asked in
    let next = wins-answered _ _ _ _ _ asked answer c.in-Some.is in
    sym (c.loop-reply.invariant ∙ next ∙ rw (← c.leads_to_lost.ensures, c.if-not-leads_to_lost.true))

pub overflow_add-from : goal.overflow_add-from
overflow_add-from c =
    let asked = c.requires.asked in
    let answer = c.next_reply.ensures c.args.p (attack_of c.args.challenge) asked in
    let exists = (reply_found _ _ _ _ answer c.in-Some.is).exists in
    let few = few_edges c.args.index.now.of_a_task (other c.args.challenge.side) in
    search (rules, exists, few)

pub loop-reply-smaller : goal.loop-reply-smaller
loop-reply-smaller c =
    let asked = c.requires.asked in
    let answer = c.next_reply.ensures c.args.p (attack_of c.args.challenge) asked in
    rw (reply_found _ _ _ _ answer c.in-Some.is).first (omega arith)

pub loop-reply-preserved : goal.loop-reply-preserved
loop-reply-preserved c =
    let asked = c.requires.asked in
    let answer = c.next_reply.ensures c.args.p (attack_of c.args.challenge) asked in
    let next = wins-answered _ _ _ _ _ asked answer c.in-Some.is in
    c.loop-reply.invariant ∙ next ∙ rw (← c.leads_to_lost.ensures, c.if-not-leads_to_lost.false)
