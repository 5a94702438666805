-- What is left of a file decides what is read of all of it, record by record. Assumes nothing.
use Prim.Native.Nat.{ℕ, zero, suc, ◌≤◌, ◌<◌}
use mathlib.Core.Path.{◌≡◌, refl, ◌∙◌}
use mathlib.Core.List.{List, [], ◌∷◌}
use Rattle.std.specs.Prelude.{Ok, Err}
use native.Mathlib.Omega.{arith}
use lib.ListN.{length, take, drop, length-drop}
use borrow.Author.Tests.{ne_eqb, lt-ltb, le-ltb}
use Rattle.fra.specs.declared.Task.{Task}
use Rattle.task.specs.TaskFile.{◌>>=◌, record_kind, body_length, body_of, step, at_start, at_end, read_rest, read_task}
use Rattle.task.specs.declared.Kind.{Kind}
use Rattle.task.specs.declared.Refusal.{Refusal}
use Rattle.task.specs.declared.Refusal.TheVariants.{UnknownKind, CutShort}
use Rattle.task.specs.declared.Stage.{Stage}
use Rattle.task.specs.declared.Stage.TheVariants.{Start, States, Edges, Pairs, Sized, Ended}
use Rattle.task.specs.declared.Progress.{Progress}

-- the file is read as far as `rest`, with this progress, and the spare fuel is enough for what is left
pub record ReadTo (file : List ℕ) (p : Progress) (rest : List ℕ) : Type 0 where
  pub spare : ℕ
  pub enough : length rest ≤ spare
  pub left : read_task file ≡ read_rest (suc spare) p rest

pub begins : (file : List ℕ) → ReadTo file at_start file
unfolding read_task
begins file = record { spare = length file; enough = omega arith; left = refl }

-- a file that ends before its end record
pub unended : (stage : Stage) (t : Task) → (stage ≡ Ended → ⊥) → at_end stage t ≡ Err CutShort
unfolding at_end
unended Start t h = refl
unended (States s q) t h = refl
unended (Edges s) t h = refl
unended Pairs t h = refl
unended Sized t h = refl
unended Ended t h = absurd (h refl)

-- ── One record of the rest ──

pub no_kind : (b : ℕ) → (b ≡ 1 → ⊥) → (b ≡ 2 → ⊥) → (b ≡ 3 → ⊥) → (b ≡ 4 → ⊥) → (b ≡ 5 → ⊥) → (b ≡ 15 → ⊥)
    → record_kind b ≡ Err UnknownKind
no_kind b h₁ h₂ h₃ h₄ h₅ h₆ =
    rw (ne_eqb b 1 h₁, ne_eqb b 2 h₂, ne_eqb b 3 h₃, ne_eqb b 4 h₄, ne_eqb b 5 h₅, ne_eqb b 15 h₆)

module _ (n : ℕ) (p : Progress) (b : ℕ) (l : List ℕ) where
  pub rest-unknown : {r : Refusal} → record_kind b ≡ Err r → read_rest (suc n) p (b ∷ l) ≡ Err r
  unfolding read_rest
  rest-unknown e = rw (e, read_rest)

  module _ {k : Kind} (e : record_kind b ≡ Ok k) where
    pub rest-cut : length l < body_length k → read_rest (suc n) p (b ∷ l) ≡ Err CutShort
    unfolding read_rest body_of
    rest-cut h = rw (e, lt-ltb (length l) (body_length k) h, read_rest)

    pub rest-stepped : body_length k ≤ length l
        → read_rest (suc n) p (b ∷ l) ≡ (step k p (take (body_length k) l) >>= (λ after. read_rest n after (drop (body_length k) l)))
    unfolding read_rest body_of
    rest-stepped h = rw (e, le-ltb (length l) (body_length k) h, read_rest)

-- ── The same of a file that is read as far as there ──

module _ {file : List ℕ} {p : Progress} where
  pub over : ReadTo file p [] → read_task file ≡ at_end p.stage p.task
  unfolding read_rest
  over r = r.left

  module _ {b : ℕ} {l : List ℕ} (r : ReadTo file p (b ∷ l)) where
    pub unknown : {e : Refusal} → record_kind b ≡ Err e → read_task file ≡ Err e
    unknown none = r.left ∙ rest-unknown r.spare p b l none

    module _ {k : Kind} (known : record_kind b ≡ Ok k) where
      pub cut : length l < body_length k → read_task file ≡ Err CutShort
      cut h = r.left ∙ rest-cut r.spare p b l known h

      module _ (fits : body_length k ≤ length l) where
        pub turned_back : {e : Refusal} → step k p (take (body_length k) l) ≡ Err e → read_task file ≡ Err e
        turned_back stepped = r.left ∙ rest-stepped r.spare p b l known fits ∙ rw stepped

        pub goes_on : {q : Progress} → step k p (take (body_length k) l) ≡ Ok q → ReadTo file q (drop (body_length k) l)
        goes_on {q} stepped = by r.spare r.enough (r.left ∙ rest-stepped r.spare p b l known fits ∙ rw stepped)
          where
            by : (n : ℕ) → length (b ∷ l) ≤ n → read_task file ≡ read_rest n q (drop (body_length k) l)
                → ReadTo file q (drop (body_length k) l)
            by zero f e = absurd (omega arith)
            by (suc n) f e = record { spare = n; enough = rw length-drop (omega arith); left = e }
