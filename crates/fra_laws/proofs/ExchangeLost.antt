-- The game with the sides exchanged: the turned positions are lost within the same rounds by the mirrored rules, and they are
-- those that are reached. For any rules and register count. Assumes nothing.
use Prim.Native.Nat.{ℕ, zero, suc}
use mathlib.Core.Path.{◌≡◌, refl, sym, ◌∙◌, subst}
use mathlib.Core.Logic.{◌⊎◌, inl, inr, ◌↔◌}
use mathlib.Core.Bool.{Bool, true}
use mathlib.Core.List.Memᴰ
use mathlib.Core.List.{map}
use Rattle.fra.specs.Lists.{◌∈◌}
use Rattle.fra.specs.Rules.{Rules}
use Rattle.fra.specs.Position.{legal}
use Rattle.fra.specs.Game.{attacks, replies, after, lost_at_once, lost_within, NeverLost, HasRank}
use Rattle.fra.specs.Reach.{begin, onward, successors, Reached}
use Rattle.fra.specs.Valid.{Valid}
use Rattle.fra.specs.Exchange.{turned, exchanged, mirrored, mirrored_rules}
use Rattle.fra.specs.declared.Position.{Position}
use Rattle.fra.specs.declared.Task.{Task}
use Rattle.fra_laws.proofs.Tests.{same_test}
use Rattle.fra_laws.proofs.Lists.{flat_map_elim}
use Rattle.fra_laws.proofs.Closure.{closure_keeps}
use Rattle.fra_laws.proofs.Legal.{joined, legal_facts}
use Rattle.fra_laws.proofs.LegalRounds.{after-legal, successors-legal}
use Rattle.fra_laws.proofs.Reached.{successors_intro}
use Rattle.fra_laws.proofs.Lost.{Winnable, lost_at_once_lem, lost-step}
use Rattle.fra_laws.proofs.ExchangePositions.{turned-legal, exchanged-valid, turned_twice, exchanged_twice, mirrored_twice}
use Rattle.fra_laws.proofs.ExchangeRounds.{attacks-mirrored, replies-mirrored, after-mirrored}

-- the end marks that lose at once are the same ones
pub at_once_exchanged : (g : Rules) (t : Task) (p : Position)
    → lost_at_once (mirrored_rules g) (exchanged t) (turned p) ≡ lost_at_once g t p
unfolding lost_at_once exchanged turned
at_once_exchanged g t p = refl

-- ── Lost ──

still_lost : {r : ℕ} {t : Task} → Valid r t → (g : Rules) (n : ℕ) (p : Position) → legal r t p ≡ true
    → lost_within g t n p ≡ true → lost_within (mirrored_rules g) (exchanged t) n (turned p) ≡ true
still_lost {t = t} valid g zero p h e =
    lost_at_once_lem (mirrored_rules g) (exchanged t) (turned p) ∙ at_once_exchanged g t p ∙ sym (lost_at_once_lem g t p) ∙ e
still_lost {r} {t} valid g (suc n) p h e =
    (lost-step (mirrored_rules g) (exchanged t) n (turned p)).1 (step (still_lost valid g n) ((lost-step g t n p).0 e))
  where
    step : ((q : Position) → legal r t q ≡ true
        → lost_within g t n q ≡ true → lost_within (mirrored_rules g) (exchanged t) n (turned q) ≡ true)
        → (lost_within g t n p ≡ true) ⊎ Winnable g t n p
        → (lost_within (mirrored_rules g) (exchanged t) n (turned p) ≡ true)
        ⊎ Winnable (mirrored_rules g) (exchanged t) n (turned p)
    step rest (inl d) = inl (rest p h d)
    step rest (inr (a, m, w)) =
        inr (
          mirrored a,
          attacks-mirrored valid p h g a m,
          λ k i.
              let j = rw (replies-mirrored valid p h g a m) at i in
              rw (after-mirrored valid p h g a k m j)
              (rest (after t p a k) (after-legal valid g p a k h m j) (w k j)),
        )

module _ {r : ℕ} {t : Task} (valid : Valid r t) (g : Rules) (p : Position) (legal-p : legal r t p ≡ true) where
  pub lost-exchanged : (n : ℕ) → lost_within (mirrored_rules g) (exchanged t) n (turned p) ≡ lost_within g t n p
  lost-exchanged n =
      same_test _ _
      (λ h.
      subst (λ (b : Bool). b ≡ true) twice
      (still_lost (exchanged-valid valid) (mirrored_rules g) n (turned p) (turned-legal valid p legal-p) h))
      (still_lost valid g n p legal-p)
    where
      twice : lost_within (mirrored_rules (mirrored_rules g)) (exchanged (exchanged t)) n (turned (turned p)) ≡ lost_within g t n p
      twice = λ i. lost_within (mirrored_twice g i) (exchanged_twice valid i) n (turned_twice valid p (joined (legal_facts r t p legal-p)) i)

  pub never_lost-exchanged : NeverLost (mirrored_rules g) (exchanged t) (turned p) ↔ NeverLost g t p
  never_lost-exchanged = (λ never n. sym (lost-exchanged n) ∙ never n, λ never n. lost-exchanged n ∙ never n)

  pub rank-exchanged : (k : ℕ) → HasRank (mirrored_rules g) (exchanged t) (turned p) k ↔ HasRank g t p k
  rank-exchanged k = (
    λ x.
        record { lost = sym (lost-exchanged k) ∙ x.lost; not_before = λ j b. sym (lost-exchanged j) ∙ x.not_before j b },
    λ x. record { lost = lost-exchanged k ∙ x.lost; not_before = λ j b. lost-exchanged j ∙ x.not_before j b },
  )

-- ── Reached ──

successors-turned : {r : ℕ} {t : Task} → Valid r t → (g : Rules) (p q : Position) → legal r t p ≡ true
    → q ∈ successors g t p → turned q ∈ successors (mirrored_rules g) (exchanged t) (turned p)
unfolding successors
successors-turned {t = t} valid g p q h m =
    let (a, i, n) = flat_map_elim (λ a. map (after t p a) (replies t p a)) (attacks g t p) m in
    let (k, j, e) = Memᴰ.of_map (after t p a) (replies t p a) n in
    rw (← e, ← after-mirrored valid p h g a k i j)
    (successors_intro (mirrored_rules g) (exchanged t) (turned p) (mirrored a) k (attacks-mirrored valid p h g a i)
    (rw (replies-mirrored valid p h g a i) j))

reached-turned : {r : ℕ} {t : Task} → Valid r t → (g : Rules) (p : Position)
    → Reached g t p → Reached (mirrored_rules g) (exchanged t) (turned p)
unfolding exchanged
reached-turned {r} {t} valid g p c =
    (closure_keeps (λ q. (legal r t q ≡ true) × Reached (mirrored_rules g) (exchanged t) (turned q)) (valid.start-legal, begin)
    (λ p q (h, d) m. (successors-legal valid g p q h m, onward d (successors-turned valid g p q h m))) c).1

pub reached-exchanged : {r : ℕ} {t : Task} → Valid r t → (g : Rules) (p : Position) → legal r t p ≡ true
    → Reached (mirrored_rules g) (exchanged t) (turned p) ↔ Reached g t p
reached-exchanged {r} {t} valid g p h = (
  λ c.
      subst (λ (x : Rules × Task × Position). Reached x.0 x.1 x.2)
      (λ i. (mirrored_twice g i, exchanged_twice valid i, turned_twice valid p (joined (legal_facts r t p h)) i))
      (reached-turned (exchanged-valid valid) (mirrored_rules g) (turned p) c),
  reached-turned valid g p,
)
