-- Each turn expands the entry that is next in the queue.
use Rattle.std.proofs.Common.{ℕ, ◌≡◌, List, sym, ◌∙◌, ap, ap₂, subst, arith}
use Rattle.std.specs.Prelude.{Result, Ok, Err}
use Rattle.std.proofs.lemmas.Result.{err_from_is_err_and}
use Rattle.outcome.specs.Compare.{capacity}
use Rattle.game_index.specs.Reading.{task_in, rules_in}
use Rattle.table_keys.specs.Keys.{key_count, position_from, radix_of}
use Rattle.table_keys.proofs.Keys.{radix_sized}
use Rattle.table_laws.specs.Table.{key_at}
use Rattle.key_set.specs.declared.Full.{Full}
use Rattle.key_set_laws.specs.Stored.{Stored}
use Rattle.comparer_explore_laws.specs.Exploring.{SuccessorKey, Expandable}
use Rattle.comparer_explore_laws.proofs.Exploring.{exploring_expandable, exploring_goes_on, next_overflows}
use Rattle.comparer_explore.specs.ExploreAnswers.{Visited}
use Rattle.comparer_explore.proofs.Explores.{explores_all, explores_too_many}
use Rattle.comparer_explore.proofs.expand_all.Goals as goal
use Rattle.comparer_explore.proofs.expand_all.Goals.{After-has_room-room}

pub key_count-keys-requires : goal.key_count-keys-requires
key_count-keys-requires c = rw c.requires.radix_value (radix_sized c.args.index.now.of_a_task)

pub overflow_mul-done : goal.overflow_mul-done
unfolding capacity
overflow_mul-done c =
    let inv = c.loop-done.invariant in
    omega (arith, inv.stored.room, inv.long)

pub word_at-requires : goal.word_at-requires
unfolding capacity
word_at-requires c = omega (arith, c.loop-done.invariant.stored.room)

pub position-position-requires : goal.position-position-requires
position-position-requires c =
    rw (c.requires.radix_value, c.word_at.ensures)
    (radix_sized c.args.index.now.of_a_task, c.loop-done.invariant.stored.small c.loop-done.done c.loop-done-test.true)

pub overflow_add-done : goal.overflow_add-done
unfolding capacity
overflow_add-done c =
    let inv = c.loop-done.invariant in
    omega (arith, inv.stored.room, inv.long)

pub loop-done-smaller : goal.loop-done-smaller
unfolding capacity
loop-done-smaller c =
    let inv = c.loop-done.invariant in
    omega (arith, inv.stored.room, inv.long)

-- the position that is expanded
read : (c : After-has_room-room)
    → c.position-position.result
    ≡ position_from (radix_of (task_in c.args.index.now.bytes)) (key_at c.loop-done.table c.loop-done.done)
read c = c.position-position.ensures ∙ ap₂ position_from c.requires.radix_value c.word_at.ensures

count : (c : After-has_room-room) → c.key_count-keys.result ≡ key_count (radix_of (task_in c.args.index.now.bytes))
count c = c.key_count-keys.ensures ∙ ap key_count c.requires.radix_value

pub visit_successors-requires-clause-stored : goal.visit_successors-requires-clause-stored
visit_successors-requires-clause-stored c =
    let at = (goal.at.visit_successors-requires-clause-stored c).After-has_room-room in
    subst (λ k. Stored k c.loop-done.found c.loop-done.table) (sym (count at)) c.loop-done.invariant.stored

pub visit_successors-requires-clause-source_value : goal.visit_successors-requires-clause-source_value
visit_successors-requires-clause-source_value c =
    let at = (goal.at.visit_successors-requires-clause-source_value c).After-has_room-room in (
      λ i. record { position = c.position-position.result; room = c.has_room-room.ensures i; radix = c.requires.radix_value i; keys = count at i },
      subst (Expandable (task_in c.args.index.now.bytes)) (sym (read at))
          (exploring_expandable c.args.index.now.of_a_task c.loop-done.invariant c.loop-done-test.true),
    )

-- what was visited
visited : (c : After-has_room-room) (r : Result ℕ Full) (new : List ℕ)
    → let t = task_in c.args.index.now.bytes in
    let g = rules_in c.args.index.now.bytes in
    Visited c.key_count-keys.result (SuccessorKey g t c.position-position.result) c.loop-done.found c.loop-done.table r new
    → Visited (key_count (radix_of t)) (SuccessorKey g t (position_from (radix_of t) (key_at c.loop-done.table c.loop-done.done)))
    c.loop-done.found c.loop-done.table r new
visited c r new v = rw (read c, count c) at v

pub returns-in_err-found : goal.returns-in_err-found
returns-in_err-found c =
    let at = (goal.at.returns-in_err-found c).After-has_room-room in
    let p = err_from_is_err_and c.from_residual.result c.from_residual.ensures.1 in
    let new = c.visit_successors.new.table in
    rw p.1
    (explores_too_many p.0
    (next_overflows c.args.index.now.of_a_task c.args.table.now c.loop-done.invariant c.loop-done-test.true
    (visited at (Err (record {})) new c.in_err-found.ensures))
    (c.visit_successors.auto.table ∙ c.loop-done.invariant.long))

pub loop-done-preserved : goal.loop-done-preserved
loop-done-preserved c =
    let at = (goal.at.loop-done-preserved c).After-has_room-room in
    exploring_goes_on c.args.index.now.of_a_task c.loop-done.invariant c.loop-done-test.true
    (visited at (Ok c.in_ok-found.found) c.visit_successors.new.table c.in_ok-found.ensures)

pub returns : goal.returns
returns c = explores_all c.args.table.now c.args.index.now.of_a_task c.loop-done.invariant c.loop-done-test.false
