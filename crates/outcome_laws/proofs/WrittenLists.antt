-- The lists that a comparison writes: the positions kept are those reached that are never lost, and those of a lost start are what
-- the first attacks lead to, all of them lost. Assumes nothing.
use Prim.Native.Nat.{ℕ, zero, suc, ◌≤◌}
use mathlib.Core.Path.{◌≡◌, refl, ap, subst}
use mathlib.Core.Logic.{◌↔◌}
use mathlib.Core.Bool.{true, false≢true}
use mathlib.Core.List.Memᴰ
use mathlib.Core.List.{List, [], ◌∷◌, map}
use Rattle.std.specs.Prelude.{Option, None, Some}
use lib.ListN.{length}
use Rattle.fra.specs.Lists.{◌∈◌}
use Rattle.fra.specs.Rules.{Rules}
use Rattle.fra.specs.Position.{legal, Rising}
use Rattle.fra.specs.Game.{replies, after, NeverLost, HasRank}
use Rattle.fra.specs.Reach.{Closure, begin, onward, Reached, closed, enough, reached, rank, rounds}
use Rattle.fra.specs.Valid.{Valid}
use Rattle.fra.specs.declared.Position.{Position}
use Rattle.fra.specs.declared.Task.{Task}
use Rattle.fra.specs.declared.Attack.{Attack}
use Rattle.fra_laws.proofs.Lists.{keep_intro, keep_elim, map_undone}
use Rattle.fra_laws.proofs.Order.{keep-rising}
use Rattle.fra_laws.proofs.Closure.{Computes}
use Rattle.fra_laws.proofs.LegalRounds.{after-legal}
use Rattle.fra_laws.proofs.Reached.{successors_intro, enough_computes, reached-exactly, reached-start, reached-after, reached-rising}
use Rattle.fra_laws.proofs.Ranks.{Closed, lost-ranked, rank-exactly, rank_never, rank-at-most-length}
use Rattle.outcome.specs.Certificate.{place_of, is_never, kept_positions, chosen, attack_of, attack_leads, loss_step, loss_with, loss_of, losses}
use Rattle.outcome.specs.Listed.{FirstAttack, Led, at-start, by_reply}
use Rattle.outcome_laws.proofs.FirstAttacks.{first-exists, chosen-first}

never_none : (o : Option ℕ) → is_never o ≡ true → o ≡ None
never_none None h = refl
never_none (Some n) h = absurd (false≢true h)

-- the position of a record, whatever attack it names
pub loss_position : (p : Position) (n : Option ℕ) (o : Option Attack) → (loss_with p n o).position ≡ p
unfolding loss_with
loss_position p n None = refl
loss_position p n (Some a) = refl

-- what the first attacks lead to is reached
pub led_is_reached : {g : Rules} {t : Task} {p : Position} → Led g t p → Reached g t p
led_is_reached at-start = begin
led_is_reached {g} {t} (by_reply {p = p} {a = a} {k = k} l h f m) =
    onward (led_is_reached l) (successors_intro g t p a k (first-exists f) m)

-- where the start is lost, so is all that the first attacks lead to
pub led_ranked : {g : Rules} {t : Task} {n : ℕ} → HasRank g t t.start n → {p : Position} → Led g t p → (k : ℕ) × HasRank g t p k
led_ranked {n = n} h at-start = (n, h)
led_ranked {g} {t} h (by_reply {p = p} {n = j} {a = a} {k = i} l d f m) =
    let (k, s, b) = lost-ranked g t j (after t p a i) (f.lost i m) in (k, s)

module _ {r : ℕ} {t : Task} (valid : Valid r t) (g : Rules) where
  abbrev pub N : ℕ
  N = length (reached g t)

  pub reached-closed : Closed g t (reached g t)
  reached-closed p m a n k o = reached-after valid g p a k m n o

  -- the start's rounds: none exactly if it is never lost, and else its rank, at most the count of positions reached
  pub rounds_never : (rounds g t t.start ≡ None) ↔ NeverLost g t t.start
  unfolding rounds
  rounds_never = rank_never g t (reached g t) reached-closed t.start (reached-start valid g)

  pub rounds-least : (n : ℕ) → rounds g t t.start ≡ Some n → HasRank g t t.start n × (n ≤ length (reached g t))
  unfolding rounds
  rounds-least n e = (rank-exactly g t (length (reached g t)) t.start n).0 e

  -- a position reached has the rank that is found
  pub rank-found : (p : Position) (k : ℕ) → p ∈ reached g t → (rank g t N p ≡ Some k) ↔ HasRank g t p k
  rank-found p k m = (
    λ e. ((rank-exactly g t N p k).0 e).0,
    λ h. (rank-exactly g t N p k).1 (h, rank-at-most-length g t (reached g t) reached-closed p m k h),
  )

  -- ── The positions kept ──

  pub kept-exactly : (p : Position) → p ∈ kept_positions g t ↔ Reached g t p × NeverLost g t p
  unfolding kept_positions
  kept-exactly p = (
    λ k.
        let (m, e) = keep_elim (λ q. is_never (rank g t N q)) p (reached g t) k in (
          (reached-exactly valid g p).0 m,
          (rank_never g t (reached g t) reached-closed p m).0 (never_none (rank g t N p) e),
        ),
    λ (i, h).
        let m = (reached-exactly valid g p).1 i in
        keep_intro (λ q. is_never (rank g t N q)) m (ap is_never ((rank_never g t (reached g t) reached-closed p m).1 h)),
  )

  pub kept-rising : Rising (kept_positions g t)
  unfolding kept_positions
  kept-rising = keep-rising (λ p. is_never (rank g t N p)) (reached g t) (reached-rising valid g)

  -- ── The positions of a lost start ──

  -- where a step leads: from a position of rank j + 1 to what a reply to its first attack leads to
  record Stepped (p q : Position) : Type 0 where
    rounds-left : ℕ
    attack : Attack
    reply : ℕ
    has-rank : HasRank g t p (suc rounds-left)
    first : FirstAttack g t p rounds-left attack
    replies-to : reply ∈ replies t p attack
    leads : after t p attack reply ≡ q

  step_elim : (p q : Position) → q ∈ loss_step g t N p → Stepped p q
  unfolding loss_step attack_of attack_leads
  step_elim p q n = by_rank (rank g t N p) refl n
    where
      by_attack : (j : ℕ) → rank g t N p ≡ Some (suc j) → (o : Option Attack) → chosen g t j p ≡ o
          → q ∈ attack_leads t p o
          → Stepped p q
      by_attack j e None f m = absurd (Memᴰ.not-nil m)
      by_attack j e (Some a) f m =
          let (i, u, v) = Memᴰ.of_map (after t p a) (replies t p a) m in
          record {
            rounds-left = j;
            attack = a;
            reply = i;
            has-rank = ((rank-exactly g t N p (suc j)).0 e).0;
            first = (chosen-first g t j p a).0 f;
            replies-to = u;
            leads = v;
          }

      by_rank : (o : Option ℕ) → rank g t N p ≡ o → q ∈ attack_leads t p (attack_of g t p o) → Stepped p q
      by_rank None e m = absurd (Memᴰ.not-nil m)
      by_rank (Some zero) e m = absurd (Memᴰ.not-nil m)
      by_rank (Some (suc j)) e m = by_attack j e (chosen g t j p) refl m

  step_intro : (p : Position) (j : ℕ) (a : Attack) (k : ℕ) → rank g t N p ≡ Some (suc j) → FirstAttack g t p j a
      → k ∈ replies t p a
      → after t p a k ∈ loss_step g t N p
  unfolding loss_step attack_of attack_leads
  step_intro p j a k e f m = rw (e, (chosen-first g t j p a).1 f) (Memᴰ.map (after t p a) m)

  -- the positions of the certificate
  abbrev pub listed : List Position
  listed = closed (loss_step g t N) (enough t) (t.start ∷ [])

  pub listed_computes : Computes (loss_step g t N) t.start listed
  listed_computes =
      enough_computes valid (loss_step g t N)
      (λ p q h n.
      let s = step_elim p q n in
      subst (λ (x : Position). legal r t x ≡ true) s.leads
      (after-legal valid g p s.attack s.reply h (first-exists s.first) s.replies-to))

  pub led_reached : {p : Position} → Led g t p → p ∈ reached g t
  led_reached {p} l = (reached-exactly valid g p).1 (led_is_reached l)

  -- they are what the first attacks lead to
  pub led_exactly : (p : Position) → (p ∈ listed) ↔ Led g t p
  led_exactly p = (λ m. to (listed_computes.sound p m), λ l. listed_computes.complete p (from l))
    where
      to : {q : Position} → Closure (loss_step g t N) t.start q → Led g t q
      to begin = at-start
      to (onward {p = p} {q = q} c m) =
          let s = step_elim p q m in
          subst (Led g t) s.leads (by_reply (to c) s.has-rank s.first s.replies-to)

      from : {q : Position} → Led g t q → Closure (loss_step g t N) t.start q
      from at-start = begin
      from (by_reply {p = p} {n = n} {a = a} {k = k} l h f m) =
          onward (from l) (step_intro p n a k ((rank-found p (suc n) (led_reached l)).1 h) f m)

  -- and the records have these positions
  pub losses-places : map place_of (losses g t) ≡ listed
  unfolding losses loss_of
  losses-places = map_undone (loss_of g t N) place_of listed (λ p m. loss_position p _ _)

  -- a position reached that is lost, with its rank
  abbrev pub LostIn : Position → ℕ → Type 0
  LostIn p k = (p ∈ reached g t) × (rank g t N p ≡ Some k)

  -- every listed position of a lost start is lost
  pub listed-lost : (n : ℕ) → rounds g t t.start ≡ Some n → (p : Position) → p ∈ listed → (k : ℕ) × LostIn p k
  listed-lost n e p m =
      let l = (led_exactly p).0 m in
      let (k, h) = led_ranked (rounds-least n e).0 l in
      (k, (led_reached l, (rank-found p k (led_reached l)).1 h))
