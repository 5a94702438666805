-- The promises on reading a file: which are turned back and with which number, and what is read. Assumes nothing.
use Prim.Native.Nat.{ℕ, ◌<◌}
use Rattle.std.specs.Prelude.{Result, Ok, Err}
use mathlib.Core.Path.{◌≡◌, refl, sym, ◌∙◌, ap, subst}
use mathlib.Core.Logic.{◌↔◌}
use mathlib.Core.List.{List}
use native.Mathlib.Omega.{arith}
use Rattle.fra.specs.declared.Task.{Task}
use Rattle.std.specs.Result.{result_unwrap_or}
use Rattle.task.specs.TaskFile.{no_task, read_task, task_of, refusal_of, IsRead}
use Rattle.task.specs.TaskBytes.{encode_task, Writable}
use Rattle.task.specs.Records.{TurnedBack}
use Rattle.task.specs.declared.Refusal.{Refusal}
use Rattle.fra_laws.proofs.Tests.{clash}
use Rattle.task_laws.proofs.ReadExactly.{read-exactly}
use Rattle.task_laws.proofs.ReadAnswers.{answer-read, read_answer}
use Rattle.task_laws.proofs.FileRefusals.{turned_back_refused, refused-exactly as unread-exactly}

module _ (file : List ℕ) where
  -- a file that is turned back is not read
  pub not_read : (n : ℕ) → TurnedBack n file → IsRead file → ⊥
  not_read n back h =
      let (e, d, f) = turned_back_refused file n back in
      let read = read_answer file h in
      clash (cc)

  pub reader_refuses : (n : ℕ) → 0 < n → (refusal_of (read_task file) ≡ n) ↔ TurnedBack n file
  reader_refuses n least = (by (read_task file) refl, back)
    where
      by : (r : Result Task Refusal) → read_task file ≡ r → refusal_of (read_task file) ≡ n → TurnedBack n file
      by (Ok t) e h = let d : 0 ≡ n = sym (ap refusal_of e) ∙ h in absurd (omega arith)
      by (Err m) e h =
          subst (λ (k : ℕ). TurnedBack k file) (sym (ap refusal_of e) ∙ h) ((unread-exactly file m).0 e)

      back : TurnedBack n file → refusal_of (read_task file) ≡ n
      back b = let (e, d, f) = turned_back_refused file n b in ap refusal_of f ∙ d

  pub reader_reads : (t : Task) → (IsRead file × (task_of file ≡ t)) ↔ ((file ≡ encode_task t) × Writable t)
  reader_reads t = (
    λ (h, e). (read-exactly file t).0 (rw e at (read_answer file h)),
    λ h. let e = (read-exactly file t).1 h in (answer-read file e, ap (λ (r : Result Task Refusal). result_unwrap_or r no_task) e),
  )
