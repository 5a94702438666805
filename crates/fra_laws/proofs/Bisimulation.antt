-- Symbolic bisimulations and lost positions: a position of a closed list of legal positions is never lost exactly if it is
-- in a symbolic bisimulation. For any rules, task and register count. Assumes nothing.
use Prim.Native.Nat.{ℕ, suc}
use mathlib.Core.Path.{◌≡◌, sym, ◌∙◌, ap}
use mathlib.Core.Logic.{◌↔◌}
use mathlib.Core.Bool.{true, not}
use mathlib.Core.List.{List}
use lib.ListN.{length}
use borrow.Author.Tests.{not-true}
use Rattle.fra.specs.Lists.{◌∈◌, keep}
use Rattle.fra.specs.Rules.{Rules}
use Rattle.fra.specs.Position.{legal}
use Rattle.fra.specs.Game.{lost_within, NeverLost, Bisimulation}
use Rattle.fra.specs.declared.Position.{Position}
use Rattle.fra.specs.declared.Task.{Task}
use Rattle.fra_laws.proofs.Tests.{not_both}
use Rattle.fra_laws.proofs.Lists.{keep_intro, keep_elim}
use Rattle.fra_laws.proofs.Lost.{lost_at_once_lem, not_lost-step, answered_never_lost}
use Rattle.fra_laws.proofs.Ranks.{Closed, never_lost_by-length}

-- the members that are not lost within as many rounds as there are members
abbrev pub kept_members : Rules → Task → List Position → List Position
kept_members g t l = keep (λ p. not (lost_within g t (length l) p)) l

-- they are the members that are never lost
pub kept_never_lost : (g : Rules) (t : Task) (l : List Position) → Closed g t l → (p : Position)
    → (p ∈ kept_members g t l) ↔ ((p ∈ l) × NeverLost g t p)
kept_never_lost g t l c p = (
  λ k.
      let (m, e) = keep_elim _ p l k in
      (m, never_lost_by-length g t l c p m (not-true _ e)),
  λ (m, never). keep_intro _ m (ap not (never (length l))),
)

module _ (g : Rules) (r : ℕ) (t : Task) where
  -- no member of a symbolic bisimulation is ever lost
  pub bisimulation_never_lost : (R : Position → Type 0) → Bisimulation g r t R → (p : Position) → R p → NeverLost g t p
  bisimulation_never_lost R b = answered_never_lost g t R b.not_lost b.answered

  -- the members of a closed list of legal positions that are never lost are a symbolic bisimulation
  pub kept-bisimulation : (l : List Position) → Closed g t l → ((p : Position) → p ∈ l → legal r t p ≡ true)
      → Bisimulation g r t (λ p. p ∈ kept_members g t l)
  kept-bisimulation l c h =
      record {
        are_legal = λ p k. h p ((kept_never_lost g t l c p).0 k).0;
        not_lost = λ p k. sym (lost_at_once_lem g t p) ∙ ((kept_never_lost g t l c p).0 k).1 0;
        answered =
            λ p k a i.
            let (m, never) = (kept_never_lost g t l c p).0 k in
            let (j, d, e) = ((not_lost-step g t (length l) p).0 (never (suc (length l)))).1 a i in
            (j, d, keep_intro _ (c p m a i j d) (ap not e));
      }

  -- ── Never lost, or in no symbolic bisimulation ──

  -- a lost position is in no symbolic bisimulation, whatever set of positions that is
  pub lost_in_no_bisimulation : (n : ℕ) (p : Position) → lost_within g t n p ≡ true
      → (R : Position → Type 0) → Bisimulation g r t R → R p → ⊥
  lost_in_no_bisimulation n p h R b m = not_both (lost_within g t n p) h (bisimulation_never_lost R b p m n)

  -- a position of a closed list of legal positions that is never lost is in one, a list
  pub never_lost_in-bisimulation : (l : List Position) → Closed g t l → ((p : Position) → p ∈ l → legal r t p ≡ true)
      → (p : Position) → p ∈ l → NeverLost g t p
      → Bisimulation g r t (λ q. q ∈ kept_members g t l) × (p ∈ kept_members g t l)
  never_lost_in-bisimulation l c h p m never = (kept-bisimulation l c h, (kept_never_lost g t l c p).1 (m, never))
