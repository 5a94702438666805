-- Every record keeps what is known of the state that is due. Assumes nothing.
use Prim.Native.Nat.{ℕ, ◌+◌}
use mathlib.Core.Path.{◌≡◌, refl}
use mathlib.Core.Bool.{Bool, true, false}
use mathlib.Core.List.{List}
use native.Mathlib.Omega.{arith}
use lib.ListN.{get_or}
use lib.Dec.{eqb}
use borrow.Author.Tests.{eqb-false}
use Rattle.std.specs.Prelude.{Result, Ok, Err}
use Rattle.fra.specs.Rules.{model_of}
use Rattle.fra.specs.declared.Model.{Model}
use Rattle.fra.specs.declared.Side.{Side}
use Rattle.fra.specs.declared.Side.TheVariants.{Left, Right}
use Rattle.fra.specs.declared.Task.{Task}
use Rattle.task.specs.TaskFile.{with_model, header_refusal, headed, with_header, header_at, header, state_refusal, with_state, after_state, state_at, state, edge_refusal, edge_at, edge, pair_refusal, pair_at, pair, history_refusal, history_at, history, end_at, end, step}
use Rattle.task.specs.declared.Kind.{Kind}
use Rattle.task.specs.declared.Kind.TheVariants.{Header, State, Edge, Pair, History, End}
use Rattle.task.specs.declared.Refusal.{Refusal}
use Rattle.task.specs.declared.Stage.{Stage}
use Rattle.task.specs.declared.Stage.TheVariants.{Start, States, Edges, Pairs, Sized, Ended}
use Rattle.task.specs.declared.Progress.{Progress}
use Rattle.task_progress.specs.Due.{Due}
use Rattle.task_laws.proofs.Checks.{header-fits}
use Rattle.task_laws.proofs.RunsAndHalts.{decided}
use Rattle.task_laws.proofs.ReadValid.{model_of-with_model}

-- what a step leaves, unless it refuses
abbrev pub Kept : Result Progress Refusal → Type 0
Kept (Ok after) = Due after.stage after.task
Kept (Err r) = Unit {0}

-- what is left after a check
checked : (c : Result (Unit {0}) Refusal) (after : Progress) → (c ≡ Ok tt → Due after.stage after.task) → Kept (decided c after)
checked (Ok x) after h = h refl
checked (Err r) after h = tt

-- after a state the next one of its model is due, if there is one
after_due : (t : Task) (s : Side) (q : ℕ) → Due (States s q) t → (m : Model) → m.state_count ≡ (model_of t s).state_count
    → Due (after_state (model_of t s) s q) (with_model t s m)
unfolding after_state
after_due t s q d m c = by (eqb (q + 1) (model_of t s).state_count) refl
  where
    by : (b : Bool) → eqb (q + 1) (model_of t s).state_count ≡ b → Due (after_state (model_of t s) s q) (with_model t s m)
    by true e = rw e tt
    by false e =
        let more = eqb-false (q + 1) (model_of t s).state_count e in
        rw (e, model_of-with_model t s m) (omega arith, omega arith)

module _ (p : Progress) (body : List ℕ) where
  header-at : (s : Side) → Kept (header_at s p body)
  unfolding header_at with_header headed
  header-at Left =
      checked (header_refusal (get_or body 0 0) (get_or body 1 0) (get_or body 2 0)) _
      (λ z. let f = header-fits _ _ _ z in (omega (arith, f.start), f.states))
  header-at Right =
      checked (header_refusal (get_or body 0 0) (get_or body 1 0) (get_or body 2 0)) _
      (λ z. let f = header-fits _ _ _ z in (omega (arith, f.start), f.states))

  state-at : (s : Side) (q : ℕ) → Due (States s q) p.task → Kept (state_at s q p body)
  unfolding state_at with_state
  state-at s q d =
      checked (state_refusal (model_of p.task s) q (get_or body 0 0) (get_or body 1 0) (get_or body 2 0)) _
      (λ z. after_due p.task s q d (with_state (model_of p.task s) q (get_or body 1 0) (get_or body 2 0)) refl)

  edge-at : (s : Side) → Kept (edge_at s p body)
  unfolding edge_at
  edge-at s = checked (edge_refusal (model_of p.task s) body) _ (λ z. tt)

  pair-at : Kept (pair_at p body)
  unfolding pair_at
  pair-at = checked (pair_refusal p.task (get_or body 0 0) (get_or body 1 0)) _ (λ z. tt)

  history-at : Kept (history_at p body)
  unfolding history_at
  history-at = checked (history_refusal p.task (get_or body 0 0)) _ (λ z. tt)

  end-at : Kept (end_at p)
  unfolding end_at
  end-at = tt

  header-kept : (s : Stage) → Kept (header s p body)
  unfolding header
  header-kept Start = header-at Left
  header-kept (States s q) = tt
  header-kept (Edges Left) = header-at Right
  header-kept (Edges Right) = tt
  header-kept Pairs = tt
  header-kept Sized = tt
  header-kept Ended = tt

  state-kept : (s : Stage) → Due s p.task → Kept (state s p body)
  unfolding state
  state-kept Start d = tt
  state-kept (States s q) d = state-at s q d
  state-kept (Edges s) d = tt
  state-kept Pairs d = tt
  state-kept Sized d = tt
  state-kept Ended d = tt

  edge_kept : (s : Stage) → Kept (edge s p body)
  unfolding edge
  edge_kept Start = tt
  edge_kept (States s q) = tt
  edge_kept (Edges s) = edge-at s
  edge_kept Pairs = tt
  edge_kept Sized = tt
  edge_kept Ended = tt

  pair-kept : (s : Stage) → Kept (pair s p body)
  unfolding pair
  pair-kept Start = tt
  pair-kept (States s q) = tt
  pair-kept (Edges Left) = tt
  pair-kept (Edges Right) = pair-at
  pair-kept Pairs = pair-at
  pair-kept Sized = tt
  pair-kept Ended = tt

  history-kept : (s : Stage) → Kept (history s p body)
  unfolding history
  history-kept Start = tt
  history-kept (States s q) = tt
  history-kept (Edges Left) = tt
  history-kept (Edges Right) = history-at
  history-kept Pairs = history-at
  history-kept Sized = tt
  history-kept Ended = tt

  end_kept : (s : Stage) → Kept (end s p)
  unfolding end
  end_kept Start = tt
  end_kept (States s q) = tt
  end_kept (Edges Left) = tt
  end_kept (Edges Right) = end-at
  end_kept Pairs = end-at
  end_kept Sized = end-at
  end_kept Ended = tt

  pub kept : (k : Kind) → Due p.stage p.task → Kept (step k p body)
  unfolding step
  kept Header d = header-kept p.stage
  kept State d = state-kept p.stage d
  kept Edge d = edge_kept p.stage
  kept Pair d = pair-kept p.stage
  kept History d = history-kept p.stage
  kept End d = end_kept p.stage
