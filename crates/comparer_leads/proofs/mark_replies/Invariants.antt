-- What the replies from edge `from` on lead to is left to mark. The measure is how many these are.
use Rattle.std.proofs.Common.{◌≡◌, length}
use Rattle.game_index.specs.Reading.{task_in}
use Rattle.game_replies.specs.Challenges.{attack_of}
use Rattle.game_replies.specs.ReplySearch.{replies_from}
use Rattle.comparer_certify_laws.specs.Marking.{marked_all}
use Rattle.comparer_certify_laws.proofs.StillSearchable.{Kept}
use Rattle.comparer_leads.proofs.ReplyLeads.{leads_from}
use Rattle.comparer_leads.proofs.mark_replies.Given as goal

abbrev pub invariant-loop-reply : goal.invariant-loop-reply
invariant-loop-reply l =
    let leads = leads_from (task_in l.index.bytes) l.p (attack_of l.challenge) in
    record {
      kept : Kept l.n l.fn.table l.table;
      left : marked_all l.n (leads l.from) l.table ≡ marked_all l.n (leads 0) l.fn.table;
    }

abbrev pub decreases-loop-reply : goal.decreases-loop-reply
decreases-loop-reply l = length (replies_from (task_in l.index.bytes) l.p (attack_of l.challenge) l.from)
