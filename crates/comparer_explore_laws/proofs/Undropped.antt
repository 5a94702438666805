-- Where neither edge drops a register, every pair is in both to sets after the round, so none is tested for. Assumes nothing.
use Prim.Native.Nat.{ℕ, suc, ◌+◌, ◌≤◌, ◌<◌}
use mathlib.Core.Path.{◌≡◌, refl, ◌∙◌, ap, ap₂}
use mathlib.Core.Bool.{Bool, true, false, not, cond, ◌&&◌}
use mathlib.Core.List.{List, [], ◌∷◌}
use native.Mathlib.Nat.{add-zero}
use native.Mathlib.Omega.{arith}
use native.Mathlib.Decide.{dec_le, ℕ_discrete}
use lib.ListN.{get_or}
use lib.Dec.{eqb}
use borrow.Author.Tests.{eq-eqb}
use Rattle.fra.specs.Registers.{has, with}
use Rattle.fra.specs.Model.{set_of, edge_of, register_of}
use Rattle.fra.specs.Position.{right_partner, legal}
use Rattle.fra.specs.Game.{rejoined}
use Rattle.fra.specs.Valid.{ValidModel}
use Rattle.fra.specs.declared.Edge.{Edge}
use Rattle.fra.specs.declared.Model.{Model}
use Rattle.fra.specs.declared.Position.{Position}
use Rattle.fra.specs.declared.Side.TheVariants.{Left, Right}
use Rattle.fra_laws.proofs.Tests.{and_intro, or_left, or_right, passes_unless}
use Rattle.fra_laws.proofs.Lists.{any_none, count_intro}
use Rattle.fra_laws.proofs.Registers.{has_positive, Matching, rejoined-written, rejoined-taken, rejoined-kept}
use Rattle.fra_laws.proofs.Legal.{legal_facts}
use Rattle.game_moves.specs.declared.rounds.Target.{Target}
use Rattle.game_index.specs.Reading.{model_in, task_in}
use Rattle.game_index.specs.Transitions.{transition_of}
use Rattle.game_index.specs.Writing.{drops, Index}
use Rattle.game_index.proofs.Reading.{index-model}
use Rattle.comparer_explore_laws.specs.HalfRounds.{in_set, kept_at, kept_by, joined_by}
use Rattle.comparer_explore_laws.specs.PartnerSums.{rejoined_by}

-- a register held before the round, or taken in it, is held after it
module _ {r : ℕ} {m : Model} (v : ValidModel r m) (k : ℕ) (exists : k < m.edge_count)
    (keeps : drops m (edge_of m k) ≡ false)
  where
    abbrev e : Edge
    e = edge_of m k

    abbrev register : ℕ
    register = register_of e.kind

    held_after_lem : (i : ℕ) → 1 ≤ i → i ≤ m.registers → with (set_of m e.from) register i ≡ true → has (set_of m e.to) i ≡ true
    unfolding drops
    held_after_lem i some few h =
        passes_unless (has (set_of m e.to) i)
        (λ out.
        any_none (λ j. with (set_of m e.from) register j && not (has (set_of m e.to) j)) keeps
        (count_intro 1 m.registers i some (omega arith))
        (and_intro (with (set_of m e.from) register i) _ h (ap not out)))

    pub taken-kept : has (set_of m e.to) register ≡ true
    unfolding with
    taken-kept =
        held_after_lem register (v.edges k exists).least (v.edges k exists).greatest
        (or_right (has (set_of m e.from) register) (eqb register register) (eq-eqb register register refl))

    pub held_kept : (i : ℕ) → has (set_of m e.from) i ≡ true → has (set_of m e.to) i ≡ true
    unfolding with
    held_kept i h =
        held_after_lem i (has_positive (set_of m e.from) i h) ((v.states e.from (v.edges k exists).from).existing i h)
        (or_left (has (set_of m e.from) i) (eqb register i) h)

-- ── The two halves ──

no_partner : (b : Bool) → ◌≡◌ {A = ℕ} (cond b 0 0) 0
no_partner true = refl
no_partner false = refl

-- a left edge in whose to set all registers are that have a partner leaves all partners
pub kept-all : (set i : ℕ) (l : List ℕ) → ((k : ℕ) → 1 ≤ get_or l k 0 → has set (i + k) ≡ true) → kept_by set i l ≡ l
unfolding kept_by
kept-all set i [] h = refl
kept-all set i (x ∷ xs) h =
    ap₂ (λ (y : ℕ) (ys : List ℕ). y ∷ ys) (step (dec_le 1 x))
    (kept-all set (suc i) xs (λ k p. let e : suc i + k ≡ i + suc k = omega arith in rw e (h (suc k) p)))
  where
    step : Dec (1 ≤ x) → kept_at set i x ≡ x
    step (yes p) = let e : has set i ≡ true = rw (add-zero i) at (h 0 p) in rw e
    step (no p) = let e : x ≡ 0 = omega arith in rw e (no_partner (has set i))

-- a right edge in whose to set all partners are, and the register that it takes, leaves all that are rejoined
pub joined-all : (set a b i : ℕ) (l : List ℕ) → has set b ≡ true → ((k : ℕ) → 1 ≤ get_or l k 0 → has set (get_or l k 0) ≡ true)
    → joined_by set a b i l ≡ rejoined_by a b i l
unfolding joined_by rejoined_by
joined-all set a b i [] own h = refl
joined-all set a b i (x ∷ xs) own h =
    ap₂ (λ (y : ℕ) (ys : List ℕ). y ∷ ys) (step (ℕ_discrete i a) (ℕ_discrete x b) (dec_le 1 x))
    (joined-all set a b (suc i) xs own (λ k. h (suc k)))
  where
    step : Dec (i ≡ a) → Dec (x ≡ b) → Dec (1 ≤ x) → in_set set (rejoined a b i x) ≡ rejoined a b i x
    step (yes d) e p = let f : rejoined a b i x ≡ b = rw d (rejoined-written a b x) in rw (f, own)
    step (no d) (yes e) p = let f : rejoined a b i x ≡ 0 = rw e (rejoined-taken a b i d) in rw f (no_partner (has set 0))
    step (no d) (no e) (yes p) = rw (rejoined-kept a b i x d e, h 0 p)
    step (no d) (no e) (no p) =
        let f : rejoined a b i x ≡ 0 = rejoined-kept a b i x d e ∙ omega arith in
        rw f (no_partner (has set 0))

-- ── Edges of a legal position ──

module _ {b : List ℕ} (index : Index b) (p : Position) (legal-p : legal 6 (task_in b) p ≡ true) where
  matches : Matching (set_of (model_in b Left) p.left) (set_of (model_in b Right) p.right) p.partners
  unfolding task_in
  matches = (legal_facts 6 (task_in b) p legal-p).matches

  -- a left edge from its left state that drops no register
  module _ (i : ℕ) (exists : i < (model_in b Left).edge_count) (starts : (edge_of (model_in b Left) i).from ≡ p.left)
      (keeps : drops (model_in b Left) (edge_of (model_in b Left) i) ≡ false)
    where
      abbrev l : Target
      l = (transition_of (model_in b Left) i).target

      pub left_keeps : kept_by l.set 1 p.partners ≡ p.partners
      unfolding right_partner
      left_keeps =
          kept-all l.set 1 p.partners
          (λ k h.
          let e : 1 + k ≡ suc k = omega arith in
          rw e (held_kept (index-model index Left).valid i exists keeps (suc k) (rw starts (matches.left-has (suc k) h))))

      pub left-takes : in_set l.set l.register ≡ l.register
      left-takes = rw (taken-kept (index-model index Left).valid i exists keeps)

  -- a right edge from its right state that drops no register
  module _ (j : ℕ) (exists : j < (model_in b Right).edge_count) (starts : (edge_of (model_in b Right) j).from ≡ p.right)
      (keeps : drops (model_in b Right) (edge_of (model_in b Right) j) ≡ false)
    where
      abbrev r : Target
      r = (transition_of (model_in b Right) j).target

      pub right_keeps : (a : ℕ) → joined_by r.set a r.register 1 p.partners ≡ rejoined_by a r.register 1 p.partners
      unfolding right_partner
      right_keeps a =
          joined-all r.set a r.register 1 p.partners (taken-kept (index-model index Right).valid j exists keeps)
          (λ k h. held_kept (index-model index Right).valid j exists keeps _ (rw starts (matches.right-has (suc k) h)))
