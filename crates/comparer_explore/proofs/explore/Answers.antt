-- A cleared table holds no key, so the start is the first, and the rest is exploring on.
use Rattle.std.proofs.Common.{ℕ, ◌≡◌, List, sym, ◌∙◌, ap, ap₂, subst, arith}
use Rattle.std.specs.Prelude.{Result, Ok, Err}
use Rattle.std.proofs.lemmas.Result.{err_from_is_err_and}
use Rattle.game_index.specs.Reading.{task_in}
use Rattle.table_keys.specs.Keys.{key_of, key_count, radix_of, Fits}
use Rattle.table_keys.proofs.Keys.{key_count-small, radix_sized}
use Rattle.key_set.specs.declared.Full.{Full}
use Rattle.key_set_laws.specs.Stored.{Stored}
use Rattle.key_set_laws.proofs.EmptySet.{stored_none}
use Rattle.comparer_explore_laws.proofs.Exploring.{start_fits, start-below, exploring_begins, first_overflows}
use Rattle.comparer_explore.specs.ExploreAnswers.{Visited}
use Rattle.comparer_explore.proofs.Visited.{visited_as}
use Rattle.comparer_explore.proofs.Explores.{explores_too_many, explores_from}
use Rattle.comparer_explore.proofs.explore.Goals as goal
use Rattle.comparer_explore.proofs.explore.Goals.{After-start, After-key_count}

start_is : (c : After-start) → c.start.result ≡ (task_in c.args.index.now.bytes).start
unfolding task_in
start_is c = c.start.ensures

-- the first visit is of the start's key
module _ (c : After-key_count) where
  key_is : c.key-first.result ≡ key_of (radix_of (task_in c.args.index.now.bytes)) (task_in c.args.index.now.bytes).start
  unfolding task_in
  key_is = c.key-first.ensures ∙ ap₂ key_of c.of-radix.ensures c.start.ensures

  count : c.key_count.result ≡ key_count (radix_of (task_in c.args.index.now.bytes))
  count = c.key_count.ensures ∙ ap key_count c.of-radix.ensures

  visited : (r : Result ℕ Full) (new : List ℕ) → Visited c.key_count.result (λ k. k ≡ c.key-first.result) 0 c.clear.new.table r new
      → let t = task_in c.args.index.now.bytes in
      Visited (key_count (radix_of t)) (λ k. k ≡ key_of (radix_of t) t.start) 0 c.clear.new.table r new
  visited r new v =
      visited_as (key_count (radix_of (task_in c.args.index.now.bytes))) 0 c.clear.new.table r new (λ k d. d ∙ key_is) (λ k d. d ∙ sym key_is)
      (subst (λ n. Visited n (λ k. k ≡ c.key-first.result) 0 c.clear.new.table r new) count v)

pub key-first-requires : goal.key-first-requires
key-first-requires c =
    let t = task_in c.args.index.now.bytes in
    let at = (goal.at.key-first-requires c).After-start in (
      rw c.of-radix.ensures (radix_sized c.args.index.now.of_a_task),
      subst (λ x. Fits x c.start.result) (sym c.of-radix.ensures) (subst (Fits (radix_of t)) (sym (start_is at)) (start_fits c.args.index.now.of_a_task)),
    )

pub key_count-requires : goal.key_count-requires
key_count-requires c = rw c.of-radix.ensures (radix_sized c.args.index.now.of_a_task)

pub visit-requires : goal.visit-requires
visit-requires c =
    let at = (goal.at.visit-requires c).After-key_count in
    let none = stored_none c.key_count.result c.args.table.now in (
      subst (λ l. Stored c.key_count.result 0 l) (sym c.clear.ensures) none,
      omega (arith, key_is at, count at, start-below c.args.index.now.of_a_task),
      omega (arith, count at, key_count-small (radix_sized c.args.index.now.of_a_task)),
    )

pub returns-in_err-n : goal.returns-in_err-n
returns-in_err-n c =
    let at = (goal.at.returns-in_err-n c).After-key_count in
    let p = err_from_is_err_and c.from_residual.result c.from_residual.ensures.1 in
    rw p.1
    (explores_from (Err p.0) c.clear.auto.table
    (explores_too_many p.0
    (first_overflows c.args.index.now.of_a_task (visited at (Err (record {})) c.visit.new.table c.in_err-n.ensures))
    c.visit.auto.table))

pub expand_all-requires-clause-exploring : goal.expand_all-requires-clause-exploring
expand_all-requires-clause-exploring c =
    let at = (goal.at.expand_all-requires-clause-exploring c).After-key_count in
    exploring_begins c.args.index.now.of_a_task (visited at (Ok c.in_ok-n.n) c.visit.new.table c.in_ok-n.ensures)

pub returns : goal.returns
returns c = explores_from c.expand_all.result (c.visit.auto.table ∙ c.clear.auto.table) c.expand_all.ensures
