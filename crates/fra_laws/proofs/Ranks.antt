-- The rounds of a position: its rank, the least count of rounds that is enough, as `rank` finds it. In a closed list no rank
-- exceeds the count of members, and none is skipped from 1 on. For any rules, task and register count. Assumes nothing.
use Prim.Native.Nat.{ℕ, zero, suc, ◌+◌, ◌≤◌, ◌<◌}
use mathlib.Core.Path.{◌≡◌, refl, sym, ◌∙◌, ap}
use mathlib.Core.Logic.{inr, ⊎_elim, ◌↔◌}
use mathlib.Core.Bool.{Bool, true, false, not}
use mathlib.Core.List.{List}
use Rattle.std.specs.Prelude.{Option, None, Some}
use native.Mathlib.Omega.{arith}
use native.Mathlib.Decide.{dec_le}
use lib.ListN.{length}
use borrow.Author.Tests.{not-true}
use Rattle.fra.specs.Lists.{◌∈◌, keep}
use Rattle.fra.specs.Rules.{Rules}
use Rattle.fra.specs.Game.{attacks, replies, after, lost_at_once, lost_within, NeverLost, HasRank}
use Rattle.fra.specs.Reach.{rank}
use Rattle.fra.specs.declared.Position.{Position}
use Rattle.fra.specs.declared.Task.{Task}
use Rattle.fra.specs.declared.Attack.{Attack}
use Rattle.fra_laws.proofs.Tests.{not_both, passes_unless}
use Rattle.fra_laws.proofs.Lists.{keep_intro, keep_elim, least-found, least_none}
use Rattle.fra_laws.proofs.Lengths.{keep_shortens}
use Rattle.fra_laws.proofs.Lost.{Winnable, Answerable, lost_at_once_lem, lost-step, not_lost-step, lost_within-more, not_lost_within-fewer, answered_never_lost}

-- what attacks and replies lead to from a member is a member
abbrev pub Closed : Rules → Task → List Position → Type 0
Closed g t l =
    (p : Position) → p ∈ l → (a : Attack) → a ∈ attacks g t p → (k : ℕ) → k ∈ replies t p a → after t p a k ∈ l

module _ (g : Rules) (t : Task) where
  -- ── The rank of any position ──

  pub rank-least : {p : Position} {j : ℕ} (k : ℕ) → HasRank g t p j → lost_within g t k p ≡ true → j ≤ k
  rank-least {p} {j} k r h = elim (dec_le j k) [ yes d ↦ d | no d ↦ absurd (not_both _ h (r.not_before k (omega arith))) ]

  -- a position has one rank
  pub same_rank : {p : Position} {n m : ℕ} → HasRank g t p n → HasRank g t p m → n ≡ m
  same_rank {n = n} {m = m} a b =
      let x = rank-least m a b.lost in
      let y = rank-least n b a.lost in
      omega arith

  pub rank-some : (n : ℕ) (p : Position) (k : ℕ) → rank g t n p ≡ Some k → HasRank g t p k × (k ≤ n)
  unfolding rank
  rank-some n p k e =
      let (h, b, u) = least-found (λ j. lost_within g t j p) 0 (suc n) k e in
      (record { lost = h; not_before = λ j. u j (omega arith) }, omega arith)

  pub rank_none : (n : ℕ) (p : Position) → rank g t n p ≡ None → lost_within g t n p ≡ false
  unfolding rank
  rank_none n p e = least_none (λ j. lost_within g t j p) 0 (suc n) e n (omega arith) (omega arith)

  -- a position that is lost within n rounds has a rank, at most n
  pub lost-ranked : (n : ℕ) (p : Position) → lost_within g t n p ≡ true → (k : ℕ) × HasRank g t p k × (k ≤ n)
  lost-ranked n p h = found (rank g t n p) refl
    where
      found : (o : Option ℕ) → rank g t n p ≡ o → (k : ℕ) × HasRank g t p k × (k ≤ n)
      found None e = absurd (not_both _ h (rank_none n p e))
      found (Some k) e = let (r, b) = rank-some n p k e in (k, r, b)

  -- `rank` finds the rank
  pub rank-exactly : (n : ℕ) (p : Position) (k : ℕ) → (rank g t n p ≡ Some k) ↔ (HasRank g t p k × (k ≤ n))
  rank-exactly n p k = (rank-some n p k, λ (r, b). found (rank g t n p) refl r b)
    where
      found : (o : Option ℕ) → rank g t n p ≡ o → HasRank g t p k → k ≤ n → rank g t n p ≡ Some k
      found None e r b = absurd (not_both _ (lost_within-more g t k n p b r.lost) (rank_none n p e))
      found (Some j) e r b =
          e ∙ ap {B = Option ℕ} Some (same_rank (rank-some n p j e).0 r)

  -- a position has rank k + 1 exactly if it is not lost at once, some attack wins within k rounds and none wins within fewer
  pub rank-rounds : (p : Position) (k : ℕ)
      → HasRank g t p (suc k)
      ↔ ((lost_at_once g t p ≡ false) × Winnable g t k p × ((j : ℕ) → j < k → Answerable g t j p))
  rank-rounds p k = (
    λ r. (
      sym (lost_at_once_lem g t p) ∙ r.not_before 0 (omega arith),
      ⊎_elim (λ h. absurd (not_both _ h (r.not_before k (omega arith)))) (λ w. w) ((lost-step g t k p).0 r.lost),
      λ j b. ((not_lost-step g t j p).0 (r.not_before (suc j) (omega arith))).1,
    ),
    λ (e, w, u). record { lost = (lost-step g t k p).1 (inr w); not_before = λ j b. not_before e u j (omega arith) },
  )
    where
      not_before : lost_at_once g t p ≡ false → ((j : ℕ) → j < k → Answerable g t j p)
          → (j : ℕ) → j ≤ k → lost_within g t j p ≡ false
      not_before e u zero b = lost_at_once_lem g t p ∙ e
      not_before e u (suc j) b = (not_lost-step g t j p).1 (not_before e u j (omega arith), u j b)

  -- where the rank is k + 1 and k is not 0, some attack and reply lead to a position of rank k
  pub rank_reply : (p : Position) (k : ℕ) → 1 ≤ k → HasRank g t p (suc k)
      → (a : Attack) × (a ∈ attacks g t p) × (j : ℕ) × (j ∈ replies t p a) × HasRank g t (after t p a j) k
  rank_reply p zero b r = absurd (omega arith)
  rank_reply p (suc k) b r =
      let (e, (a, i, w), u) = (rank-rounds p (suc k)).0 r in
      let (j, d, f) = u k (omega arith) a i in
      (a, i, j, d, record { lost = w j d; not_before = λ h c. not_lost_within-fewer g t h k (after t p a j) (omega arith) f })

  module _ (l : List Position) (closed : Closed g t l) where
    -- ── Levels of a closed list: at each level a member is newly lost, until none is any more ──

    -- a member not lost within k rounds is not lost within k + 1
    abbrev pub Settled : ℕ → Type 0
    Settled k = (p : Position) → p ∈ l → lost_within g t k p ≡ false → lost_within g t (suc k) p ≡ false

    pub settled_never_lost : (k : ℕ) → Settled k → (p : Position) → p ∈ l → lost_within g t k p ≡ false → NeverLost g t p
    settled_never_lost k s p m h =
        answered_never_lost g t (λ q. (q ∈ l) × (lost_within g t k q ≡ false))
        (λ q (i, e). sym (lost_at_once_lem g t q) ∙ not_lost_within-fewer g t 0 k q (omega arith) e)
        (λ q (i, e) a d.
        let (j, r, f) = ((not_lost-step g t k q).0 (s q i e)).1 a d in
        (j, r, (closed q i a d j r, f)))
        p (m, h)

    abbrev unlost : ℕ → Position → Bool
    unlost k p = not (lost_within g t k p)

    -- all members not lost within k rounds stand in the list
    abbrev Covers : List Position → ℕ → Type 0
    Covers rest k = (p : Position) → p ∈ l → lost_within g t k p ≡ false → p ∈ rest

    -- where they stand in a list of fewer than n positions, one of n levels from k on is settled
    settles : (n k : ℕ) (rest : List Position) → length rest < n → Covers rest k → (j : ℕ) × (j < k + n) × Settled j
    settles zero k rest b c = absurd (omega arith)
    settles (suc n) k rest b c =
        ⊎_elim
        (λ r.
        let (j, d, s) = settles n (suc k) (keep (unlost (suc k)) rest) (omega arith) still in
        (j, omega arith, s))
        (λ r. (k, omega arith, λ p m e. not-true _ (keep_elim (unlost (suc k)) p rest (rw r (c p m e))).1))
        (keep_shortens (unlost (suc k)) rest)
      where
        still : Covers (keep (unlost (suc k)) rest) (suc k)
        still p m e = keep_intro (unlost (suc k)) (c p m ((not_lost-step g t k p).0 e).0) (ap not e)

    -- ── The rounds of the members of a closed list ──

    pub never_lost_by-length : (p : Position) → p ∈ l → lost_within g t (length l) p ≡ false → NeverLost g t p
    never_lost_by-length p m e =
        let (k, b, s) = settles (suc (length l)) 0 l (omega arith) (λ q i d. i) in
        settled_never_lost k s p m (not_lost_within-fewer g t k (length l) p (omega arith) e)

    pub lost_within-length : (n : ℕ) (p : Position) → p ∈ l → lost_within g t n p ≡ true → lost_within g t (length l) p ≡ true
    lost_within-length n p m h = passes_unless _ (λ e. not_both _ h (never_lost_by-length p m e n))

    pub rank_never : (p : Position) → p ∈ l → (rank g t (length l) p ≡ None) ↔ NeverLost g t p
    rank_never p m =
        (λ e. never_lost_by-length p m (rank_none (length l) p e), λ never. unranked never (rank g t (length l) p) refl)
      where
        unranked : NeverLost g t p → (o : Option ℕ) → rank g t (length l) p ≡ o → rank g t (length l) p ≡ None
        unranked never None e = e
        unranked never (Some k) e = absurd (not_both _ (rank-some (length l) p k e).0.lost (never k))

    pub rank-at-most-length : (p : Position) → p ∈ l → (k : ℕ) → HasRank g t p k → k ≤ length l
    rank-at-most-length p m k r = rank-least (length l) r (lost_within-length k p m r.lost)
