-- Marked positions, given by a test: if the start is marked and, from its rounds down, what the attacks of marked positions lead
-- to, then those marked are the positions of the certificate. For any rules and register count. Assumes nothing.
use Prim.Native.Nat.{ℕ, zero, suc, ◌≤◌, ◌<◌}
use mathlib.Core.Path.{◌≡◌, refl, sym, ◌∙◌, ap, subst}
use mathlib.Core.Logic.{◌⊎◌, inl, inr, ⊎_elim}
use mathlib.Core.Bool.{Bool, true, false, ◌||◌, false≢true}
use mathlib.Core.List.Memᴰ
use mathlib.Core.List.{List, [], ◌∷◌}
use Rattle.std.specs.Prelude.{Option, None, Some}
use native.Mathlib.Omega.{arith}
use native.Mathlib.Decide.{dec_lt}
use lib.ListN.{length}
use Rattle.fra.specs.Lists.{◌∈◌, keep}
use Rattle.fra.specs.Rules.{Rules}
use Rattle.fra.specs.Game.{attacks, replies, after, lost_within}
use Rattle.fra.specs.Reach.{Closure, begin, onward, reached, rank, rounds}
use Rattle.fra.specs.Valid.{Valid}
use Rattle.fra.specs.declared.Position.{Position}
use Rattle.fra.specs.declared.Task.{Task}
use Rattle.fra.specs.declared.Attack.{Attack}
use Rattle.fra_laws.proofs.Tests.{or_cases, or_left, or_right}
use Rattle.fra_laws.proofs.Lists.{all-at, keep_intro, keep_elim, first_found}
use Rattle.fra_laws.proofs.Closure.{closure_keeps}
use Rattle.fra_laws.proofs.Reached.{reached-rising}
use Rattle.fra_laws.proofs.Ranks.{rank-some, rank-least}
use Rattle.fra_laws.proofs.Order.{keep-rising}
use Rattle.outcome.specs.Check.{same}
use Rattle.outcome.specs.Certificate.{wins, chosen, attack_of, attack_leads, loss_step}
use Rattle.outcome_laws.proofs.Accepted.{same_passes}
use Rattle.outcome_laws.proofs.WrittenLists.{listed, listed_computes, listed-lost}
use Rattle.comparer_certify_laws.proofs.RisingMembers.{rising-same}

-- ── More marks ──

-- with one position more
abbrev pub also : Position → (Position → Bool) → Position → Bool
also q M p = M p || same p q

abbrev pub also_all : List Position → (Position → Bool) → Position → Bool
also_all [] M = M
also_all (q ∷ qs) M = also_all qs (also q M)

module _ (M : Position → Bool) (p : Position) where
  pub also-has : also p M p ≡ true
  also-has = or_right (M p) (same p p) ((same_passes p p).1 refl)

  pub also_elim : (q : Position) → also q M p ≡ true → (M p ≡ true) ⊎ (p ≡ q)
  also_elim q h = ⊎_elim inl (λ e. inr (sym ((same_passes p q).0 e))) (or_cases (M p) (same p q) h)

pub all_keeps : (qs : List Position) (M : Position → Bool) (p : Position) → M p ≡ true → also_all qs M p ≡ true
all_keeps [] M p h = h
all_keeps (q ∷ qs) M p h = all_keeps qs (also q M) p (or_left (M p) (same p q) h)

pub all-has : (qs : List Position) (M : Position → Bool) (p : Position) → p ∈ qs → also_all qs M p ≡ true
all-has [] M p m = absurd (Memᴰ.not-nil m)
all-has (q ∷ qs) M p m =
    step (all-has qs (also q M) p) (Memᴰ.cases_cons m)
  where
    step : (p ∈ qs → also_all qs (also q M) p ≡ true) → (p ≡ q) ⊎ (p ∈ qs) → also_all qs (also q M) p ≡ true
    step rest (inl e) = all_keeps qs (also q M) p (or_right (M p) (same p q) ((same_passes p q).1 (sym e)))
    step rest (inr n) = rest n

pub all_elim : (qs : List Position) (M : Position → Bool) (p : Position) → also_all qs M p ≡ true → (M p ≡ true) ⊎ (p ∈ qs)
all_elim [] M p h = inl h
all_elim (q ∷ qs) M p h = step (all_elim qs (also q M) p h)
  where
    step : (also q M p ≡ true) ⊎ (p ∈ qs) → (M p ≡ true) ⊎ (p ∈ q ∷ qs)
    step (inl e) = ⊎_elim inl (λ d. inr (Memᴰ.head d)) (also_elim M p q e)
    step (inr m) = inr (Memᴰ.tail m)

module _ {r : ℕ} {t : Task} (valid : Valid r t) (g : Rules) where
  abbrev pub rank_of : Position → Option ℕ
  rank_of p = rank g t (length (reached g t)) p

  abbrev pub leads : Position → List Position
  leads p = loss_step g t (length (reached g t)) p

  -- ── Where attacks lead ──

  pub leads-chosen : (p : Position) (k : ℕ) → rank_of p ≡ Some (suc k) → leads p ≡ attack_leads t p (chosen g t k p)
  unfolding loss_step attack_of
  leads-chosen p k e = rw e

  pub leads_nowhere : (p q : Position) → (rank_of p ≡ None) ⊎ (rank_of p ≡ Some 0) → q ∈ leads p → ⊥
  unfolding loss_step attack_of attack_leads
  leads_nowhere p q (inl e) m = Memᴰ.not-nil (rw e at m)
  leads_nowhere p q (inr e) m = Memᴰ.not-nil (rw e at m)

  -- from k + 1 rounds to at most k
  pub leads_down : (p q : Position) (k j : ℕ) → rank_of p ≡ Some (suc k) → q ∈ leads p → rank_of q ≡ Some j → j ≤ k
  unfolding attack_leads chosen wins
  leads_down p q k j e m d = by (chosen g t k p) refl (subst (λ (l : List Position). q ∈ l) (leads-chosen p k e) m)
    where
      by : (o : Option Attack) → chosen g t k p ≡ o → q ∈ attack_leads t p o → j ≤ k
      by None f n = absurd (Memᴰ.not-nil n)
      by (Some a) f n =
          let (i, u, v) = Memᴰ.of_map (after t p a) (replies t p a) n in
          let won = all-at (λ i. lost_within g t k (after t p a i)) (first_found (wins g t k p) (attacks g t p) a f).1 u in
          rank-least g t k (rank-some g t (length (reached g t)) q j d).0 (rw v at won)

  -- ── Marks down to k rounds ──

  -- the start is marked, nothing but what attacks lead to, and all that those of positions of more than k rounds lead to
  pub record Marks (k : ℕ) (M : Position → Bool) : Type 0 where
    pub sound : (p : Position) → M p ≡ true → Closure leads t.start p
    pub start : M t.start ≡ true
    pub complete : (p q : Position) (j : ℕ) → M p ≡ true → rank_of p ≡ Some j → k < j → q ∈ leads p → M q ≡ true

  -- the start alone is marked
  pub marks-start : (n : ℕ) → rank_of t.start ≡ Some n → Marks n (also t.start (λ p. false))
  marks-start n e =
      record {
        sound = λ p h. rw (only p h) begin;
        start = also-has (λ p. false) t.start;
        complete =
            λ p q j h d b m.
            let c : Some n ≡ Some j = sym e ∙ ap rank_of (sym (only p h)) ∙ d in
            let s : n ≡ j = cc in
            absurd (omega arith);
      }
    where
      only : (p : Position) → also t.start (λ p. false) p ≡ true → p ≡ t.start
      only p h = ⊎_elim (λ e. absurd (false≢true e)) (λ d. d) (also_elim (λ p. false) p t.start h)

  -- what the attack of a marked position of k + 1 rounds leads to is marked too
  pub marks-more : (k : ℕ) (M : Position → Bool) (p : Position) → Marks (suc k) M → M p ≡ true → rank_of p ≡ Some (suc k)
      → Marks (suc k) (also_all (leads p) M)
  marks-more k M p marks h e =
      record {
        sound = λ q i. ⊎_elim (marks.sound q) (λ m. onward (marks.sound p h) m) (all_elim (leads p) M q i);
        start = all_keeps (leads p) M t.start marks.start;
        complete =
            λ q x j i d b m.
            ⊎_elim (λ c. all_keeps (leads p) M x (marks.complete q x j c d b m))
            (λ n. absurd (omega (arith, leads_down p q k j e n d)))
            (all_elim (leads p) M q i);
      }

  -- for this position, if it is marked and has k rounds, what its attack leads to is marked
  abbrev pub Done : ℕ → (Position → Bool) → Position → Type 0
  Done k M p = M p ≡ true → rank_of p ≡ Some k → (q : Position) → q ∈ leads p → M q ≡ true

  pub done_here : (k : ℕ) (M : Position → Bool) (p : Position) → Done k (also_all (leads p) M) p
  done_here k M p h e q m = all-has (leads p) M q m

  -- that stays so: the attack of a position of k + 1 rounds leads to none of these
  pub done_still : (k : ℕ) (M : Position → Bool) (p x : Position) → rank_of p ≡ Some (suc k) → Done (suc k) M x
      → Done (suc k) (also_all (leads p) M) x
  done_still k M p x e done h d q m =
      ⊎_elim (λ c. all_keeps (leads p) M q (done c d q m)) (λ n. absurd (omega (arith, leads_down p x k (suc k) e n d)))
      (all_elim (leads p) M x h)

  -- ── A start that is lost ──

  module _ (n : ℕ) (lost : rounds g t t.start ≡ Some n) where
    -- attacks lead to positions reached that are lost
    pub led_lost : {p : Position} → Closure leads t.start p → (k : ℕ) × (p ∈ reached g t) × (rank_of p ≡ Some k)
    led_lost {p} c =
        let (k, (m, e)) = listed-lost valid g n lost p ((listed_computes valid g).complete p c) in
        (k, m, e)

    pub marks-fewer : (k : ℕ) (M : Position → Bool) → Marks (suc k) M
        → ((p : Position) → p ∈ reached g t → Done (suc k) M p)
        → Marks k M
    marks-fewer k M marks done = record { sound = marks.sound; start = marks.start; complete = complete }
      where
        complete : (p q : Position) (j : ℕ) → M p ≡ true → rank_of p ≡ Some j → k < j → q ∈ leads p → M q ≡ true
        complete p q j h e b m = at (dec_lt (suc k) j)
          where
            at : Dec (suc k < j) → M q ≡ true
            at (yes c) = marks.complete p q j h e c m
            at (no c) =
                let s : j ≡ suc k = omega arith in
                done p (led_lost (marks.sound p h)).1 h (e ∙ ap {B = Option ℕ} Some s) q m

    -- down to no rounds, those marked are the positions of the certificate
    pub marks-listed : (M : Position → Bool) → Marks 0 M → keep M (reached g t) ≡ listed valid g
    marks-listed M marks =
        rising-same (keep M (reached g t)) (listed valid g) (keep-rising M (reached g t) (reached-rising valid g))
        (listed_computes valid g).rising
        (λ p. (
          λ m. (listed_computes valid g).complete p (marks.sound p (keep_elim M p (reached g t) m).1),
          λ m.
              let c = (listed_computes valid g).sound p m in
              keep_intro M (led_lost c).1 (closure_keeps (λ q. M q ≡ true) marks.start closed c),
        ))
      where
        closed : (p q : Position) → M p ≡ true → q ∈ leads p → M q ≡ true
        closed p q h m = by (rank_of p) refl
          where
            by : (o : Option ℕ) → rank_of p ≡ o → M q ≡ true
            by None e = absurd (leads_nowhere p q (inl e) m)
            by (Some zero) e = absurd (leads_nowhere p q (inr e) m)
            by (Some (suc j)) e = marks.complete p q (suc j) h e (omega arith) m
