-- The checker's test for a list of legal positions that rise strictly passes exactly on such lists, and where it fails
-- there is an illegal position or a pair of neighbours that do not rise. Assumes nothing.
use Prim.Native.Nat.{ℕ}
use mathlib.Core.Path.{◌≡◌, refl, ap}
use mathlib.Core.Logic.Iff
use mathlib.Core.Logic.{◌⊎◌, inl, inr, ⊎_elim, ◌↔◌}
use mathlib.Core.Bool.{true, false, true≢false}
use mathlib.Core.List.Memᴰ
use mathlib.Core.List.{List, [], ◌∷◌, ◌++◌, map}
use Rattle.fra.specs.Lists.{◌∈◌, all}
use Rattle.fra.specs.Position.{legal, before, Rising}
use Rattle.fra.specs.declared.Position.{Position}
use Rattle.fra.specs.declared.Task.{Task}
use Rattle.fra_laws.proofs.Tests.{and_left, and_right, and_intro, and_false, not_both, fails_unless}
use Rattle.fra_laws.proofs.Lists.{all_counterexample}
use Rattle.fra_laws.proofs.Order.{before_transitive}
use Rattle.outcome.specs.Check.{rising, orderly}
use Rattle.outcome_laws.proofs.PassedTests.{tests}

rising_passes : (l : List Position) → (rising l ≡ true) ↔ Rising l
unfolding rising
rising_passes [] = (λ h. tt, λ h. refl)
rising_passes (p ∷ []) = (λ h. (λ q m. absurd (Memᴰ.not-nil m), tt), λ h. refl)
rising_passes (p ∷ q ∷ l) = step (rising_passes (q ∷ l))
  where
    step : (rising (q ∷ l) ≡ true) ↔ Rising (q ∷ l) → (rising (p ∷ q ∷ l) ≡ true) ↔ Rising (p ∷ q ∷ l)
    step (to, from) = (
      λ h.
          let first = and_left (before p q) (rising (q ∷ l)) h in
          let rest = to (and_right (before p q) (rising (q ∷ l)) h) in (
            λ x m.
                ⊎_elim (λ (e : x ≡ q). rw e first) (λ n. before_transitive p q x first (rest.0 x n)) (Memᴰ.cases_cons m),
            rest,
          ),
      λ (above, rest). and_intro (before p q) (rising (q ∷ l)) (above q (Memᴰ.head refl)) (from rest),
    )

-- two neighbours in a list whose positions do not rise
pub record Fall {A : Type 0} (position : A → Position) (l : List A) : Type 0 where
  pub earlier : List A
  pub one : A
  pub next : A
  pub later : List A
  pub place : l ≡ earlier ++ one ∷ next ∷ later
  pub falls : before (position one) (position next) ≡ false

module _ {A : Type 0} (position : A → Position) where
  not_rising-falls : (l : List A) → rising (map position l) ≡ false → Fall position l
  unfolding rising
  not_rising-falls [] h = absurd (true≢false h)
  not_rising-falls (a ∷ []) h = absurd (true≢false h)
  not_rising-falls (a ∷ b ∷ l) h =
      step (not_rising-falls (b ∷ l)) (and_false (before (position a) (position b)) (rising (map position (b ∷ l))) h)
    where
      step : (rising (map position (b ∷ l)) ≡ false → Fall position (b ∷ l))
          → (before (position a) (position b) ≡ false) ⊎ (rising (map position (b ∷ l)) ≡ false)
          → Fall position (a ∷ b ∷ l)
      step rest (inl e) = record { earlier = []; one = a; next = b; later = l; place = refl; falls = e }
      step rest (inr e) =
          let f = rest e in
          record {
            earlier = a ∷ f.earlier;
            one = f.one;
            next = f.next;
            later = f.later;
            place = ap {B = List A} (λ m. a ∷ m) f.place;
            falls = f.falls;
          }

  -- neighbours whose positions rise with all others rise
  neighbours_rise : (earlier : List A) (a b : A) (later : List A) → Rising (map position (earlier ++ a ∷ b ∷ later))
      → before (position a) (position b) ≡ true
  neighbours_rise [] a b later (above, rest) = above (position b) (Memᴰ.head refl)
  neighbours_rise (x ∷ earlier) a b later (above, rest) = neighbours_rise earlier a b later rest

-- ── The test passes exactly on legal positions that rise; it fails exactly at an illegal one or a fall ──

module _ (r : ℕ) (t : Task) where
  pub orderly_passes : (l : List Position)
      → (orderly r t l ≡ true) ↔ (((p : Position) → p ∈ l → legal r t p ≡ true) × Rising l)
  unfolding orderly
  orderly_passes l = simp (tests, rising_passes) Iff.rfl

  pub orderly_fails : {A : Type 0} (position : A → Position) (l : List A)
      → (orderly r t (map position l) ≡ false) ↔ ((a : A) × (a ∈ l) × (legal r t (position a) ≡ false)) ⊎ Fall position l
  unfolding orderly
  orderly_fails position l = (
    λ h.
        ⊎_elim
        (λ e.
        let (p, m, f) = all_counterexample (legal r t) (map position l) e in
        let (a, n, g) = Memᴰ.of_map position l m in
        inl (a, n, rw g f))
        (λ e. inr (not_rising-falls position l e))
        (and_false (all (legal r t) (map position l)) (rising (map position l)) h),
    λ o.
        fails_unless (orderly r t (map position l))
        (λ h.
        let (are_legal, rises) = (orderly_passes (map position l)).0 h in
        ⊎_elim (λ (a, m, e). not_both (legal r t (position a)) (are_legal (position a) (Memᴰ.map position m)) e)
        (λ f.
        not_both (before (position f.one) (position f.next))
        (neighbours_rise position f.earlier f.one f.next f.later (rw f.place at rises))
        f.falls)
        o),
  )
