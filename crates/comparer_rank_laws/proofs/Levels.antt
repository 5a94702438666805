-- Levels: how one pass finds the next, what they say of positions lost within k rounds, and when they are final. For any rules,
-- task and register count. Assumes nothing.
use Prim.Native.Nat.{ℕ, suc, ◌^◌, ◌≤◌, ◌<◌}
use mathlib.Core.Path.{◌≡◌, refl, sym, ◌∙◌, ap, subst}
use mathlib.Core.Logic.{inr, ⊎_elim}
use mathlib.Core.Bool.{Bool, true, false, cond, ◌&&◌}
use mathlib.Core.List.{List}
use Rattle.std.specs.Prelude.{Option, None, Some}
use native.Mathlib.Omega.{arith}
use native.Mathlib.Decide.{dec_le}
use lib.ListN.{length}
use lib.Dec.{ltb, eqb}
use borrow.Author.Tests.{lt-ltb, le-ltb, eq-eqb, ne_eqb, eqb-true, eqb-false}
use Rattle.fra.specs.Lists.{◌∈◌, any, least}
use Rattle.fra.specs.Rules.{Rules}
use Rattle.fra.specs.Game.{attacks, replies, after, lost_at_once, lost_within, HasRank}
use Rattle.fra.specs.Reach.{successors, rank}
use Rattle.fra.specs.declared.Position.{Position}
use Rattle.fra.specs.declared.Task.{Task}
use Rattle.fra.specs.declared.Attack.{Attack}
use Rattle.fra_laws.proofs.Tests.{not_both, fails_unless}
use Rattle.fra_laws.proofs.Lists.{any_witness, any_none, all-at, all_intro, first_found, first_none}
use Rattle.fra_laws.proofs.Lost.{lost-step, not_lost_within-fewer, lost_within-more}
use Rattle.fra_laws.proofs.Reached.{successors_intro}
use Rattle.fra_laws.proofs.Ranks.{Closed, Settled, rank-some, rank_none, rank-exactly, rank_reply, rank_never, settled_never_lost, rank-at-most-length}
use Rattle.outcome.specs.Bytes.{all_ones}
use Rattle.outcome.specs.Certificate.{rounds_or_never, wins, chosen}
use Rattle.game_replies.specs.Winner.{wins_by, winner, is_found}
use Rattle.comparer_rank_laws.specs.Levels.{level, ranked}

module _ (g : Rules) (t : Task) where
  -- the chosen attack of n rounds is the first that wins under "lost within n rounds"
  pub chosen-winner : (n : ℕ) (p : Position) → chosen g t n p ≡ winner g t (lost_within g t n) p
  unfolding chosen wins winner wins_by
  chosen-winner n p = refl

  -- ── The next rank ──

  pub rank-kept : (k : ℕ) (p : Position) (j : ℕ) → rank g t k p ≡ Some j → rank g t (suc k) p ≡ Some j
  rank-kept k p j e =
      let (r, b) = rank-some g t k p j e in
      (rank-exactly g t (suc k) p j).1 (r, omega arith)

  -- a position not lost within k rounds is lost within k + 1 if an attack wins within k
  pub rank-won : (k : ℕ) (p : Position) (a : Attack) → rank g t k p ≡ None → chosen g t k p ≡ Some a
      → rank g t (suc k) p ≡ Some (suc k)
  unfolding chosen wins
  rank-won k p a e f =
      let (m, w) = first_found (wins g t k p) (attacks g t p) a f in
      (rank-exactly g t (suc k) p (suc k)).1 (
        record {
          lost = (lost-step g t k p).1 (inr (a, m, λ j. all-at _ w));
          not_before = λ j b. not_lost_within-fewer g t j k p (omega arith) (rank_none g t k p e);
        },
        omega arith,
      )

  -- not lost within n rounds: no rank is found
  unlost_unranked : (n : ℕ) (p : Position) → lost_within g t n p ≡ false → rank g t n p ≡ None
  unlost_unranked n p e = step (rank g t n p) refl
    where
      step : (o : Option ℕ) → rank g t n p ≡ o → rank g t n p ≡ None
      step None d = d
      step (Some j) d =
          let (r, b) = rank-some g t n p j d in
          absurd (not_both _ (lost_within-more g t j n p b r.lost) e)

  -- and is not if none does
  pub rank_open : (k : ℕ) (p : Position) → rank g t k p ≡ None → chosen g t k p ≡ None → rank g t (suc k) p ≡ None
  unfolding chosen wins
  rank_open k p e f =
      unlost_unranked (suc k) p
      (fails_unless _
      (λ h.
      ⊎_elim (λ d. not_both _ d (rank_none g t k p e))
      (λ (a, m, w). any_none (wins g t k p) (first_none (wins g t k p) (attacks g t p) f) m (all_intro _ (replies t p a) w))
      ((lost-step g t k p).0 h)))

  -- ── Levels ──

  -- a position is ranked k exactly if k is its rank
  pub rank-ranked : (k : ℕ) (p : Position) → HasRank g t p k → ranked g t k p ≡ true
  unfolding level
  rank-ranked k p r = eq-eqb _ _ (ap rounds_or_never ((rank-exactly g t k p k).1 (r, omega arith)))

  pub ranked-rank : (k : ℕ) (p : Position) → k < all_ones → ranked g t k p ≡ true → HasRank g t p k
  unfolding level
  ranked-rank k p b h = step (rank g t k p) refl (eqb-true (level g t k p) k h)
    where
      step : (o : Option ℕ) → rank g t k p ≡ o → rounds_or_never (rank g t k p) ≡ k → HasRank g t p k
      step None e d = absurd (omega (arith, sym (ap rounds_or_never e) ∙ d))
      step (Some j) e d = subst (HasRank g t p) (sym (ap rounds_or_never e) ∙ d) (rank-some g t k p j e).0

  -- where k is not 0, a position ranked k + 1 leads to one ranked k
  pub ranked_successor : (k : ℕ) (p : Position) → 1 ≤ k → suc k < all_ones → ranked g t (suc k) p ≡ true
      → (q : Position) × (q ∈ successors g t p) × (ranked g t k q ≡ true)
  ranked_successor k p b c h =
      let (a, i, j, d, r) = rank_reply g t p k b (ranked-rank (suc k) p c h) in
      (after t p a j, successors_intro g t p a j i d, rank-ranked k (after t p a j) r)

  -- a level fits four bytes
  pub level-small : (k : ℕ) (p : Position) → k < all_ones → level g t k p < 2 ^ 32
  unfolding level
  level-small k p b = step (rank g t k p) refl
    where
      step : (o : Option ℕ) → rank g t k p ≡ o → rounds_or_never (rank g t k p) < 2 ^ 32
      step None e = rw e (omega arith)
      step (Some j) e = rw e (omega (arith, (rank-some g t k p j e).1))

  -- what the level of k rounds or of more says of k rounds: so a table that holds both levels judges replies rightly
  pub level_judges : (k n : ℕ) (q : Position) → k ≤ n → k < all_ones → ltb (level g t n q) (suc k) ≡ lost_within g t k q
  unfolding level
  level_judges k n q b c = step (rank g t n q) refl
    where
      step : (o : Option ℕ) → rank g t n q ≡ o → ltb (rounds_or_never (rank g t n q)) (suc k) ≡ lost_within g t k q
      step None e =
          rw (e, not_lost_within-fewer g t k n q b (rank_none g t n q e)) (le-ltb all_ones (suc k) (omega arith))
      step (Some j) e =
          let (r, d) = rank-some g t n q j e in
          rw e
          (elim (dec_le j k) [
            | yes d ↦ lt-ltb j (suc k) (omega arith) ∙ sym (lost_within-more g t j k q d r.lost)
            | no d ↦ le-ltb j (suc k) (omega arith) ∙ sym (r.not_before k (omega arith))
          ])

  -- a position gets rank k + 1 where it has no lower one and an attack wins within k rounds
  pub ranked-step : (k : ℕ) (p : Position) → suc k < all_ones
      → ranked g t (suc k) p ≡ eqb (level g t k p) all_ones && is_found (chosen g t k p)
  unfolding level
  ranked-step k p b = step (rank g t k p) refl (chosen g t k p) refl
    where
      step : (o : Option ℕ) → rank g t k p ≡ o → (w : Option Attack) → chosen g t k p ≡ w
          → eqb (rounds_or_never (rank g t (suc k) p)) (suc k)
          ≡ eqb (rounds_or_never (rank g t k p)) all_ones && is_found (chosen g t k p)
      step None e None f = rw (rank_open k p e f, e, f) (ne_eqb all_ones (suc k) (λ d. omega arith))
      step None e (Some a) f = rw (rank-won k p a e f, e, f) (eq-eqb (suc k) (suc k) refl)
      step (Some j) e w f =
          let (r, d) = rank-some g t k p j e in
          rw (rank-kept k p j e, e, ne_eqb j (suc k) (λ c. omega arith), ne_eqb j all_ones (λ c. omega arith))

  -- all other levels stay
  pub level-step : (k : ℕ) (p : Position) → level g t (suc k) p ≡ cond (ranked g t (suc k) p) (suc k) (level g t k p)
  unfolding level
  level-step k p = step (ranked g t (suc k) p) refl (rank g t k p) refl
    where
      step : (b : Bool) → ranked g t (suc k) p ≡ b → (o : Option ℕ) → rank g t k p ≡ o
          → level g t (suc k) p ≡ cond (ranked g t (suc k) p) (suc k) (level g t k p)
      step true e o f = rw e (eqb-true (level g t (suc k) p) (suc k) e)
      step false e (Some j) f = rw (e, rank-kept k p j f, f)
      step false e None f = ap rounds_or_never (still (chosen g t k p) refl ∙ sym f) ∙ rw e
        where
          still : (w : Option Attack) → chosen g t k p ≡ w → rank g t (suc k) p ≡ None
          still None d = rank_open k p f d
          still (Some a) d =
              absurd (eqb-false (level g t (suc k) p) (suc k) e (ap rounds_or_never (rank-won k p a f d)))

  -- before the first round only end marks lose
  pub level_zero : (p : Position) → level g t 0 p ≡ cond (lost_at_once g t p) 0 all_ones
  unfolding level rank least lost_within
  level_zero p = step (lost_at_once g t p) refl
    where
      step : (b : Bool) → lost_at_once g t p ≡ b → level g t 0 p ≡ cond (lost_at_once g t p) 0 all_ones
      step true e = rw (e, least)
      step false e = rw (e, least)

  module _ (l : List Position) (closed : Closed g t l) where
    -- a rank that a member of a closed list has is at most the count of members: so passes end
    pub ranked_bound : (k : ℕ) → k < all_ones → any (ranked g t k) l ≡ true → k ≤ length l
    ranked_bound k b h =
        let (p, m, e) = any_witness (ranked g t k) l h in
        rank-at-most-length g t l closed p m k (ranked-rank k p b e)

    -- where no member has rank k + 1, the level of k + 1 rounds is final
    pub level_final : (k : ℕ) → any (ranked g t (suc k)) l ≡ false
        → (p : Position) → p ∈ l → level g t (suc k) p ≡ level g t (length l) p
    unfolding level
    level_final k h p m = ap rounds_or_never (step (rank g t (suc k) p) refl)
      where
        settled : Settled g t l closed k
        settled q i e =
            fails_unless _
            (λ d.
            any_none (ranked g t (suc k)) h i
            (rank-ranked (suc k) q (record { lost = d; not_before = λ j b. not_lost_within-fewer g t j k q (omega arith) e })))

        step : (o : Option ℕ) → rank g t (suc k) p ≡ o → rank g t (suc k) p ≡ rank g t (length l) p
        step None e =
            let unlost = not_lost_within-fewer g t k (suc k) p (omega arith) (rank_none g t (suc k) p e) in
            e ∙ sym ((rank_never g t l closed p m).1 (settled_never_lost g t l closed k settled p m unlost))
        step (Some j) e =
            let (r, b) = rank-some g t (suc k) p j e in
            e ∙ sym ((rank-exactly g t (length l) p j).1 (r, rank-at-most-length g t l closed p m j r))
