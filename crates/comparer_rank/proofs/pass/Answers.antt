-- An entry is marked exactly if its position has rank k, and the answer is whether one was.
use Rattle.std.proofs.Common.{◌≡◌, ◌<◌, sym, ◌∙◌, refl, arith}
use mathlib.Core.Bool.{◌||◌, or-true, or-false}
use Rattle.game_index.specs.Reading.{task_in}
use Rattle.comparer_rank.proofs.PartWay.{part_start, part_searchable, part_end, pass_gains, pass_next}
use Rattle.comparer_rank.proofs.AnyPassed.{any_next, any-end}
use Rattle.comparer_rank.proofs.pass.Goals as goal
use Rattle.comparer_rank.proofs.pass.Goals.{then-mark, else-mark}

pub loop-i-init : goal.loop-i-init
loop-i-init c = record { part = part_start c.args.index.now.of_a_task _ _ c.requires.begins; seen = refl }

pub mark-requires : goal.mark-requires
mark-requires c =
    (part_searchable c.args.index.now.of_a_task _ _ c.requires.begins c.loop-i.invariant.part, omega arith)

pub loop-i-preserved : goal.loop-i-preserved
loop-i-preserved c =
    let index = c.args.index.now.of_a_task in
    let ready = c.requires in
    let part = c.loop-i.invariant.part in
    let inside : c.loop-i.i < c.args.n = omega arith in
    let z = (task_in c.args.index.now.bytes).start in
    let gained = c.mark.ensures.value in
    let earlier = c.loop-i.marked in
    -- an entry is marked if one was before or this one is
    let now : c.if-mark.marked ≡ earlier || c.mark.result =
    elim c.if-mark.branch [
      | then-mark w ↦ w.marked-is ∙ rw w.if-mark.true (sym (or-true earlier))
      | else-mark w ↦ w.marked-is ∙ rw w.if-mark.false (sym (or-false earlier))
    ] in
    record {
      part = rw (c.mark.ensures.table_after, gained) (pass_next index ready part z inside);
      seen =
          any_next _ _ c.loop-i.i z earlier c.if-mark.marked (rw ready.begins.counted at inside)
          (rw (← gained ∙ pass_gains index ready part z inside) now)
          c.loop-i.invariant.seen;
    }

pub returns : goal.returns
returns c =
    let index = c.args.index.now.of_a_task in
    let ready = c.requires in
    record {
      value = any-end _ _ c.loop-i.i c.loop-i.marked (omega (arith, ready.begins.counted)) c.loop-i.invariant.seen;
      leveled = part_end index _ _ ready.begins c.loop-i.invariant.part (omega arith);
    }
