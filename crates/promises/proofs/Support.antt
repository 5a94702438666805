-- What a verdict on a task's bytes says of the task that they hold. Assumes nothing.
use Prim.Native.Nat.{ℕ, ◌*◌, ◌-◌, ◌≤◌, ◌<◌, ◌^◌}
use Rattle.std.specs.Prelude.{Result, Ok, Err}
use mathlib.Core.Path.{◌≡◌, refl, sym, ◌∙◌, ap}
use mathlib.Core.Bool.{true}
use mathlib.Core.List.{List}
use native.Mathlib.Omega.{arith}
use lib.ListN.{length}
use Rattle.fra.specs.Lists.{◌∈◌, Unique}
use Rattle.fra.specs.Rules.{Rules}
use Rattle.fra.specs.Position.{legal}
use Rattle.fra.specs.Reach.{Reached, reached}
use Rattle.fra.specs.Valid.{Valid}
use Rattle.fra.specs.declared.Position.{Position}
use Rattle.fra.specs.declared.Task.{Task}
use Rattle.fra.specs.declared.Side.TheVariants.{Left, Right}
use Rattle.fra_laws.proofs.Tests.{clash}
use Rattle.task.specs.TaskFile.{read_task, task_of, max_registers}
use Rattle.task.specs.declared.Refusal.{Refusal}
use Rattle.outcome.specs.Verdicts.{Contest}
use Rattle.outcome.specs.Compare.{Outcome, compare_task, compare_read, compare}
use Rattle.outcome.specs.Check.{check_task, check}
use Rattle.outcome.specs.declared.Verdict.{Verdict}
use Rattle.fra_laws.proofs.LegalPositions.{most-positions, most_positions-from}
use Rattle.fra_laws.proofs.Reached.{history-grows, reached-exactly, reached-unique, reached-legal}
use Rattle.task_laws.proofs.ReadValid.{read-valid, read_limits}
use Rattle.task_laws.proofs.ReadAnswers.{answer-read, read_answer}
use Rattle.outcome_laws.proofs.Compare.{Says, verdict_says}

-- ── From bytes to the task ──

module _ (c : Contest) (file table buffer : List ℕ) where
  -- a file that is read is compared by its task
  pub compared-read : {t : Task} → read_task file ≡ Ok t → compare c file table buffer ≡ compare_task c t table buffer
  unfolding compare compare_read
  compared-read e = rw e

  -- one that is not is refused, and no buffer changes
  pub compared_unread : (e : Refusal) → read_task file ≡ Err e
      → compare c file table buffer ≡ record { answer = Err e; table = table; certificate = buffer }
  unfolding compare compare_read
  compared_unread e f = rw f

  -- a verdict is given on a file that is read
  pub decided-read : (v : Verdict) (positions n size : ℕ)
      → (compare c file table buffer).answer ≡ Ok (record { verdict = v; positions = positions; rounds = n; length = size })
      → (read_task file ≡ Ok (task_of file)) × Says c (task_of file) table buffer v positions n size
  decided-read v positions n size e = by (read_task file) refl
    where
      by : (r : Result Task Refusal) → read_task file ≡ r
          → (read_task file ≡ Ok (task_of file)) × Says c (task_of file) table buffer v positions n size
      by (Ok t) f =
          let read = read_answer file (answer-read file f) in (
            read,
            verdict_says c (task_of file) table buffer v positions n size
                (ap (λ (o : Outcome). o.answer) (sym (compared-read read)) ∙ e),
          )
      by (Err m) f =
          let d = ap (λ (o : Outcome). o.answer) (compared_unread m f) in
          clash (cc)

-- ── The checker, from bytes to the task ──

module _ (c : Contest) (file certificate : List ℕ) where
  pub checked_read : {t : Task} → read_task file ≡ Ok t → check c file certificate ≡ check_task max_registers c t certificate
  unfolding check
  checked_read e = rw e

  pub checked_unread : (e : Refusal) → read_task file ≡ Err e → check c file certificate ≡ Err e
  unfolding check
  checked_unread e f = rw f

-- ── How many positions are reached ──

module _ (g : Rules) (file : List ℕ) (read : read_task file ≡ Ok (task_of file)) where
  abbrev t : Task
  t = task_of file

  valid : Valid max_registers t
  valid = read-valid file read

  is_legal : (p : Position) → Reached g t p → legal max_registers t p ≡ true
  is_legal p c = reached-legal valid g p ((reached-exactly valid g p).1 c)

  -- of one history size
  pub size-most : (size : ℕ) (l : List Position) → Unique l → ((p : Position) → p ∈ l → Reached g t p × (p.history ≡ size))
      → length l ≤ 3411712
  size-most size l u h =
      most-positions valid (read_limits file read Left).0 (read_limits file read Right).0 size l u
      (λ p m. let (c, e) = h p m in (is_legal p c, e))

  -- of all sizes from the start's on
  pub count_most : length (reached g t) ≤ (14 - t.start.history) * 3411712
  count_most =
      most_positions-from valid (read_limits file read Left).0 (read_limits file read Right).0 t.start.history
      (reached g t)
      (reached-unique valid g)
      (λ p m. (reached-legal valid g p m, history-grows g t ((reached-exactly valid g p).0 m)))

pub count_fits : (g : Rules) (file : List ℕ) → read_task file ≡ Ok (task_of file) → length (reached g (task_of file)) < 2 ^ 32
count_fits g file read = let most = count_most g file read in omega arith
