-- The numbers that two readers hold together at the start are those that the records say. Assumes nothing.
use Prim.Native.Nat.{ℕ, ◌≤◌, ◌<◌}
use mathlib.Core.Path.{◌≡◌, refl, sym, ◌∙◌, ap}
use mathlib.Core.Logic.{◌⊎◌, inl, inr}
use mathlib.Core.Bool.{Bool, true, false, not, ◌&&◌, false≢true}
use mathlib.Core.List.Memᴰ
use mathlib.Core.List.{List, [], ◌∷◌}
use native.Mathlib.Omega.{arith}
use native.Mathlib.Decide.{dec_lt}
use lib.Dec.{eqb}
use borrow.Author.Tests.{eqb-true, eq-eqb, ne_eqb}
use Rattle.fra.specs.Lists.{◌∈◌, count}
use Rattle.fra.specs.Registers.{has}
use Rattle.fra.specs.Model.{set_of}
use Rattle.fra.specs.Position.{left_partner, is_unshared, held_in, held}
use Rattle.fra.specs.declared.Model.{Model}
use Rattle.fra.specs.declared.Task.{Task}
use Rattle.task.specs.Records.{Record, header, state, edge, pair, history, end, earlier, set_in, start_set, paired, held_at_start}
use Rattle.task.specs.TaskFile.{max_registers}
use Rattle.fra_laws.proofs.Tests.{or_cases, or_left, or_right, not_both}
use Rattle.fra_laws.proofs.Lists.{count_elim}
use Rattle.fra_laws.proofs.KeptLists.{keep_same}
use Rattle.fra_laws.proofs.Registers.{left_partner-exists, right_of-left}
use Rattle.task_laws.proofs.ReadValid.{Finished}
use Rattle.task_laws.proofs.Ties.{Written, Paired}

-- the register set of a model's start state
pub start-set : (l : List Record) (m : Model) → Written l m → set_of m m.start ≡ start_set l
start-set l m w = w.set_at m.start ∙ ap (set_in l) w.start

-- ── A right register is in some pair ──

further : {x : Record} {l : List Record} {j : ℕ} → (a : ℕ) × (pair a j ∈ l) → (a : ℕ) × (pair a j ∈ x ∷ l)
further w = (w.0, Memᴰ.tail w.1)

paired-found : (l : List Record) (j : ℕ) → paired l j ≡ true → (a : ℕ) × (pair a j ∈ l)
unfolding paired
paired-found [] j h = absurd (false≢true h)
paired-found (header r n q ∷ l) j h = further (paired-found l j h)
paired-found (state n set mark ∷ l) j h = further (paired-found l j h)
paired-found (edge from tag kind i to ∷ l) j h = further (paired-found l j h)
paired-found (pair a b ∷ l) j h = at (paired-found l j) (or_cases (eqb b j) (paired l j) h)
  where
    at : (paired l j ≡ true → (c : ℕ) × (pair c j ∈ l)) → (eqb b j ≡ true) ⊎ (paired l j ≡ true)
        → (c : ℕ) × (pair c j ∈ pair a b ∷ l)
    at rest (inl e) = (a, Memᴰ.head (ap (pair a) (sym (eqb-true b j e))))
    at rest (inr e) = further (rest e)
paired-found (history n ∷ l) j h = further (paired-found l j h)
paired-found (end ∷ l) j h = further (paired-found l j h)

paired-later : (x : Record) (l : List Record) (j : ℕ) → paired l j ≡ true → paired (x ∷ l) j ≡ true
unfolding paired
paired-later (header r n q) l j h = h
paired-later (state n set mark) l j h = h
paired-later (edge from tag kind i to) l j h = h
paired-later (pair a b) l j h = or_right (eqb b j) (paired l j) h
paired-later (history n) l j h = h
paired-later end l j h = h

paired_intro : {j a : ℕ} {l : List Record} → pair a j ∈ l → paired l j ≡ true
unfolding paired
paired_intro {j = j} (Memᴰ.head {xs = l} e) = rw (← e) (or_left (eqb j j) (paired l j) (eq-eqb j j refl))
paired_intro {j = j} (Memᴰ.tail {x = x} {xs = l} m) = paired-later x l j (paired_intro m)

-- ── Counting ──

-- a right register has no left partner exactly if no pair has it
alone : {l : List Record} {partners : List ℕ} → Paired l partners → (j : ℕ) → 1 ≤ j
    → eqb (left_partner 1 partners j) 0 ≡ not (paired l j)
alone {l} {partners} h j least = at (paired l j) refl (dec_lt 0 (left_partner 1 partners j))
  where
    at : (b : Bool) → paired l j ≡ b → Dec (0 < left_partner 1 partners j) → eqb (left_partner 1 partners j) 0 ≡ not b
    at true e d =
        let w = paired-found l j e in
        let some = left_partner-exists partners w.0 j least (h.joined w.0 j w.1).1 in
        ne_eqb (left_partner 1 partners j) 0 (omega arith)
    at false e (yes d) =
        let joined = h.read (left_partner 1 partners j) j (right_of-left partners j d) least in
        absurd (not_both (paired l j) (paired_intro joined) e)
    at false e (no d) = eq-eqb (left_partner 1 partners j) 0 (omega arith)

pub held_said : {l : List Record} {t : Task} → Finished t → Written (earlier l) t.left → Written l t.right
    → Paired l t.start.partners
    → held t t.start ≡ held_at_start l
unfolding held_in held_at_start is_unshared
held_said {l} {t} f left right pairs =
    rw (
      f.start_left,
      f.start_right,
      start-set (earlier l) t.left left,
      start-set l t.right right,
      f.partner_array,
      keep_same (is_unshared (start_set l) t.start.partners) (λ j. has (start_set l) j && not (paired l j)) (count 1 max_registers)
          (λ j m. ap (λ (b : Bool). has (start_set l) j && b) (alone pairs j (count_elim 1 max_registers j m).0)),
    )
