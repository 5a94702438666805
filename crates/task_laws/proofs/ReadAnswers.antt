-- The reader's answer and its number: a file is read exactly if the answer says so, since no refusal has the number 0. Assumes
-- nothing.
use Prim.Native.Nat.{ℕ, ◌≤◌, ◌<◌}
use mathlib.Core.Path.{◌≡◌, refl, ap}
use mathlib.Core.Logic.{◌⊎◌, inl, inr}
use mathlib.Core.List.{List}
use native.Mathlib.Omega.{arith}
use Rattle.task.specs.Records.{TurnedBack}
use Rattle.std.specs.Prelude.{Result, Ok, Err}
use Rattle.fra.specs.declared.Task.{Task}
use Rattle.task.specs.declared.Refusal.{Refusal}
use Rattle.task.specs.TaskFile.{read_task, task_of, refusal_of, IsRead}
use Rattle.task_laws.proofs.Judging.{number-least, number_apart}
use Rattle.task_laws.proofs.RefusalNumbers.{number_of-least}

pub turned_back_number : (n : ℕ) (file : List ℕ) → TurnedBack n file → 0 < n
unfolding TurnedBack
turned_back_number n file (inl (e, h)) = omega arith
turned_back_number n file (inr (inl (e, h))) = omega arith
turned_back_number n file (inr (inr (rule, e, h))) = omega (arith, number-least rule)

-- a file is not turned back with what is said of tables and certificates
pub turned_back_apart : (n : ℕ) (file : List ℕ) → TurnedBack n file → (n ≤ 10) ⊎ (15 ≤ n)
unfolding TurnedBack
turned_back_apart n file (inl (e, h)) = inl (omega arith)
turned_back_apart n file (inr (inl (e, h))) = inl (omega arith)
turned_back_apart n file (inr (inr (rule, e, h))) = rw e (number_apart rule)

module _ (file : List ℕ) where
  pub answer-read : {t : Task} → read_task file ≡ Ok t → IsRead file
  answer-read e = ap refusal_of e

  pub read_answer : IsRead file → read_task file ≡ Ok (task_of file)
  read_answer h = by (read_task file) refl h
    where
      by : (r : Result Task Refusal) → read_task file ≡ r → refusal_of r ≡ 0 → read_task file ≡ Ok (task_of file)
      by (Ok t) e h = rw e refl
      by (Err m) e h = absurd (omega (arith, number_of-least m))
