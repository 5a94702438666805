-- How many records a certificate has, and so how large a buffer is always enough: that of a start which is never lost has no more
-- than there are positions reached, that of a lost start no more than there are among them that are lost. For any contest and any
-- task. Assumes nothing.
use Prim.Native.Nat.{ℕ, ◌*◌, ◌/◌, ◌≤◌}
use mathlib.Core.Path.{refl, subst}
use mathlib.Core.Logic.{◌↔◌}
use mathlib.Core.Bool.{Bool}
use mathlib.Core.List.Memᴰ
use mathlib.Core.List.{List, map}
use native.Mathlib.Decide.{dec_le}
use native.Mathlib.Omega.{arith}
use lib.ListN.{length}
use Rattle.fra.specs.Lists.{◌∈◌, Unique, keep}
use Rattle.fra.specs.Rules.{Rules}
use Rattle.fra.specs.Game.{lost_within, EverLost}
use Rattle.fra.specs.Reach.{Reached, reached}
use Rattle.fra.specs.Valid.{Valid}
use Rattle.fra.specs.declared.Position.{Position}
use Rattle.fra.specs.declared.Task.{Task}
use Rattle.fra_laws.proofs.Lists.{keep_intro, keep_elim}
use Rattle.fra_laws.proofs.Lengths.{keep-unique, unique-length}
use Rattle.fra_laws.proofs.Closure.{rising-unique}
use Rattle.fra_laws.proofs.Lost.{lost_within-more}
use Rattle.fra_laws.proofs.Ranks.{lost-ranked, rank-at-most-length}
use Rattle.fra_laws.proofs.Reached.{reached-exactly, reached-unique}
use Rattle.outcome.specs.Verdicts.{Contest}
use Rattle.outcome.specs.Certificate.{place_of}
use Rattle.outcome.specs.Compare.{capacity}
use Rattle.outcome.specs.Listed.{Counted, KeptWritten, LossesWritten}
use Rattle.outcome.specs.Refusals.{TableTooSmall, CertificateTooLong, kept-too_long, lost-too_long}
use Rattle.outcome_laws.proofs.WrittenLists.{led_is_reached, N, reached-closed}

-- ── Counts ──

-- no list without duplicates of positions with a property outnumbers them
counted-most : {has : Position → Type 0} {n : ℕ} → Counted has n
    → (l : List Position) → Unique l → ((p : Position) → p ∈ l → has p)
    → length l ≤ n
counted-most k l u h =
    let b = unique-length l k.positions u (λ p m. (k.exactly p).1 (h p m)) in
    rw k.number b

-- a position that is reached and lost
abbrev pub LostReached : Rules → Task → Position → Type 0
LostReached g t p = Reached g t p × EverLost g t p

-- no more are lost than are reached
pub lost_few : (g : Rules) (t : Task) {lost n : ℕ} → Counted (LostReached g t) lost → Counted (Reached g t) n → lost ≤ n
lost_few g t l k =
    let b = counted-most k l.positions l.unique (λ p m. ((l.exactly p).0 m).0) in
    omega (arith, l.number)

module _ {r : ℕ} {t : Task} (valid : Valid r t) (g : Rules) where
  -- those that are lost are lost within as many rounds as positions are reached
  pub lost-counted : (n : ℕ) × Counted (LostReached g t) n
  lost-counted = (
    length (keep within (reached g t)),
    record {
      positions = keep within (reached g t);
      unique = keep-unique within (reached g t) (reached-unique valid g);
      exactly = exactly;
      number = refl;
    },
  )
    where
      within : Position → Bool
      within p = lost_within g t (N valid g) p

      exactly : (p : Position) → p ∈ keep within (reached g t) ↔ LostReached g t p
      exactly p = (
        λ m. let (i, h) = keep_elim within p (reached g t) m in ((reached-exactly valid g p).0 i, (N valid g, h)),
        λ (i, (n, h)).
            let m = (reached-exactly valid g p).1 i in
            let (k, rank, few) = lost-ranked g t n p h in
            let most = rank-at-most-length g t (reached g t) (reached-closed valid g) p m k rank in
            keep_intro within m (lost_within-more g t k (N valid g) p most rank.lost),
      )

-- ── Records ──

module _ {c : Contest} {t : Task} {n : ℕ} {written : List ℕ} where
  pub kept_few : (w : KeptWritten c t written) → Counted (Reached c.rules t) n → length w.positions ≤ n
  kept_few w k =
      counted-most k w.positions (rising-unique w.positions w.rising) (λ p m. ((w.exactly p).0 m).0)

  -- a listed position is lost within the rounds of its record
  pub losses_few : (w : LossesWritten c t written) → Counted (LostReached c.rules t) n
      → length (map place_of w.losses) ≤ n
  losses_few w k = counted-most k (map place_of w.losses) (rising-unique (map place_of w.losses) w.rising) lost
    where
      lost : (p : Position) → p ∈ map place_of w.losses → LostReached c.rules t p
      lost p m =
          let (x, i, e) = Memᴰ.of_map place_of w.losses m in (
            led_is_reached ((w.exactly p).0 m),
            subst (EverLost c.rules t) e (x.rounds, (w.each x i).has-rank.lost),
          )

-- ── The buffer ──

-- where no list of positions reached outnumbers the table's entries, of 13 bytes each, 17 bytes for each of them are enough
pub never_too_long : {g : Rules} {t : Task} (table buffer : List ℕ) → 17 * (length table / 13) ≤ length buffer
    → (TableTooSmall g t table → ⊥)
    → CertificateTooLong g t buffer
    → ⊥
unfolding capacity
never_too_long {g} {t} table buffer lent fits = by
  where
    few : (l : List Position) → Unique l → ((p : Position) → p ∈ l → Reached g t p) → length l ≤ length table / 13
    few l u h =
        elim (dec_le (length l) (length table / 13)) [
          | yes d ↦ d
          | no d ↦ absurd (fits (record { positions = l; unique = u; all-reached = h; more = omega arith }))
        ]

    by : CertificateTooLong g t buffer → ⊥
    by (kept-too_long never l u h more) = let b = few l u (λ p m. (h p m).0) in omega arith
    by (lost-too_long lost l u h more) = let b = few l u (λ p m. led_is_reached (h p m)) in omega arith
