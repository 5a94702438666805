-- Each reply that is found is the next one, and what it leads to is marked next.
use Rattle.std.proofs.Common.{◌≡◌, refl, ◌∙◌, arith, rules}
use Rattle.fra.specs.Rules.{other}
use Rattle.game_index.specs.Reading.{task_in}
use Rattle.game_index.proofs.Reading.{few_edges}
use Rattle.game_replies.specs.Challenges.{challenge_of, attack_of}
use Rattle.game_replies.proofs.ReplySearch.{NextReply, reply_found, reply_missing}
use Rattle.comparer_certify_laws.specs.Marking.{marked_all}
use Rattle.comparer_certify_laws.proofs.StillSearchable.{kept_refl, kept_trans, kept-marked, searchable-kept}
use Rattle.comparer_leads.proofs.ReplyLeads.{leads-next, leads-all}
use Rattle.comparer_leads.proofs.mark_replies.Goals as goal
use Rattle.comparer_leads.proofs.mark_replies.Goals.{After-of-challenge, In-Some}

-- what is asked is what the attack asks
asked : (c : After-of-challenge)
    → c.of-challenge.result ≡ challenge_of (task_in c.args.index.now.bytes) c.args.p (attack_of c.of-challenge.result)
asked c = rw c.of-challenge.ensures

-- the reply that was found is the next one
next : (c : In-Some)
    → NextReply (task_in c.args.index.now.bytes) c.args.p (attack_of c.of-challenge.result) c.loop-reply.from c.in-Some.reply.edge
    c.in-Some.reply.target
next c = reply_found _ _ _ _ (c.next_reply.ensures _ _ (rw c.of-challenge.ensures)) c.in-Some.is

pub loop-reply-init : goal.loop-reply-init
loop-reply-init c = record { kept = kept_refl _ _; left = refl }

pub mark-requires : goal.mark-requires
mark-requires c = searchable-kept c.requires c.loop-reply.invariant.kept

pub overflow_add-from : goal.overflow_add-from
overflow_add-from c =
    let exists = (next (goal.at.overflow_add-from c).In-Some).exists in
    let few = few_edges c.args.index.now.of_a_task (other c.of-challenge.result.side) in
    search (rules, exists, few)

pub loop-reply-smaller : goal.loop-reply-smaller
loop-reply-smaller c = rw (next (goal.at.loop-reply-smaller c).In-Some).first (omega arith)

pub loop-reply-preserved : goal.loop-reply-preserved
unfolding marked_all
loop-reply-preserved c =
    let here = goal.at.loop-reply-preserved c in
    record {
      kept = kept_trans c.loop-reply.invariant.kept (rw c.mark.ensures (kept-marked c.args.n _ c.loop-reply.table));
      left = rw (c.mark.ensures, c.after.ensures)
          (rw (leads-next _ _ _ (asked here.After-of-challenge) _ (next here.In-Some)) at c.loop-reply.invariant.left);
    }

pub returns : goal.returns
unfolding marked_all
returns c =
    let asks = asked (goal.at.returns c).After-of-challenge in
    let none_left = reply_missing _ _ _ _ (c.next_reply.ensures _ _ asks) c.in_default.is in
    rw none_left at c.loop-reply.invariant.left
    ∙ rw (c.of-challenge.ensures, leads-all (task_in c.args.index.now.bytes) c.args.p c.args.a)
