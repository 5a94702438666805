-- What a turn of the reader's loop comes to, from what its calls say. Assumes nothing.
use Rattle.std.proofs.Common.{◌≡◌, ℕ, List, [], ◌∷◌, ap, subst, Result, Ok, Err}
use Rattle.std.specs.Result.{IsErrAnd}
use Rattle.task.specs.TaskFile.{at_start, step}
use Rattle.task.specs.Records.{header, state, edge, pair, history, end}
use Rattle.task.specs.declared.Kind.TheVariants.{Header, State, Edge, Pair, History, End}
use Rattle.task.specs.declared.Refusal.{Refusal}
use Rattle.task.specs.declared.Progress.{Progress}
use Rattle.task_progress.specs.Due.{Due}
use Rattle.task_laws.proofs.RunsAndHalts.{Run, begin, onward}
use Rattle.task_reader.proofs.StateDueKept.{Kept, kept}

-- the state that is due, if one is, has its place
pub due : {file rest : List ℕ} {p : Progress} → Run file p rest → Due p.stage p.task
unfolding at_start step
due begin = tt
due (onward {p = p} (header r s q) run e) = subst Kept e (kept p (r ∷ s ∷ q ∷ []) Header (due run))
due (onward {p = p} (state n set mark) run e) = subst Kept e (kept p (n ∷ set ∷ mark ∷ []) State (due run))
due (onward {p = p} (edge from tag kind i to) run e) =
    subst Kept e (kept p (from ∷ tag ∷ kind ∷ i ∷ to ∷ []) Edge (due run))
due (onward {p = p} (pair a b) run e) = subst Kept e (kept p (a ∷ b ∷ []) Pair (due run))
due (onward {p = p} (history n) run e) = subst Kept e (kept p (n ∷ []) History (due run))
due (onward {p = p} end run e) = subst Kept e (kept p [] End (due run))

-- an error that `?` hands on
pub handed_on : {A : Type 0} (o : Result A Refusal) (r : Refusal) → IsErrAnd o (λ e. e ≡ r) → o ≡ Err r
handed_on (Ok a) r h = absurd h
handed_on (Err e) r h = ap Err h
