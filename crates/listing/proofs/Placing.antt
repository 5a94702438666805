-- A position's place in a list is Some i exactly if it first stands at place i, and None exactly if it stands at none. Assumes
-- nothing.
use Prim.Native.Nat.{ℕ, zero, suc, ◌+◌, ◌<◌}
use mathlib.Core.Path.{◌≡◌, refl, sym, ◌∙◌, ap}
use mathlib.Core.Bool.{Bool, true, false}
use mathlib.Core.List.{List, [], ◌∷◌}
use native.Mathlib.Omega.{arith}
use native.Mathlib.Nat.{add-zero}
use lib.ListN.{length, get_or}
use Rattle.fra.specs.Position.{bytes}
use Rattle.fra.specs.declared.Position.{Position}
use Rattle.fra_laws.proofs.Tests.{clash, fails_unless}
use Rattle.fra_laws.proofs.Order.{equal_refl, equal-sound, bytes_injective}
use Rattle.outcome.specs.Check.{same}
use Rattle.listing.specs.Lookup.{place_from, place_of}
use Rattle.std.specs.Prelude.{Some, None}

pub same-sound : (p q : Position) → same p q ≡ true → p ≡ q
unfolding same
same-sound p q h = bytes_injective p q (equal-sound (bytes p) (bytes q) h)

-- ── Both ways of a step ──

place_here : (i : ℕ) (p q : Position) (l : List Position) → q ≡ p → place_from i p (q ∷ l) ≡ Some i
unfolding place_from same
place_here i p q l e = rw (e, equal_refl (bytes p), place_from)

place_further : (i : ℕ) (p q : Position) (l : List Position) → (q ≡ p → ⊥) → place_from i p (q ∷ l) ≡ place_from (suc i) p l
unfolding place_from
place_further i p q l d = rw (fails_unless (same p q) (λ h. d (sym (same-sound p q h))), place_from)

-- ── The place ──

place-from : (k : ℕ) (p : Position) (l : List Position) (i : ℕ) (z : Position) → i < length l → get_or l i z ≡ p
    → ((j : ℕ) → j < i → get_or l j z ≡ p → ⊥)
    → place_from k p l ≡ Some (k + i)
place-from k p [] i z h e d = absurd (omega arith)
place-from k p (q ∷ l) zero z h e d = place_here k p q l e ∙ ap Some (sym (add-zero k))
place-from k p (q ∷ l) (suc i) z h e d =
    place_further k p q l (d 0 (omega arith))
    ∙ place-from (suc k) p l i z (omega arith) e (λ j b. d (suc j) (omega arith))
    ∙ ap Some (omega arith)

pub place_at : (p : Position) (l : List Position) (i : ℕ) (z : Position) → i < length l → get_or l i z ≡ p
    → ((j : ℕ) → j < i → get_or l j z ≡ p → ⊥)
    → place_of p l ≡ Some i
place_at p l i z h e d = place-from 0 p l i z h e d ∙ ap Some (omega arith)

place-missing-from : (k : ℕ) (p : Position) (l : List Position) (z : Position)
    → ((j : ℕ) → j < length l → get_or l j z ≡ p → ⊥)
    → place_from k p l ≡ None
unfolding place_from
place-missing-from k p [] z d = refl
place-missing-from k p (q ∷ l) z d =
    place_further k p q l (d 0 (omega arith)) ∙ place-missing-from (suc k) p l z (λ j b. d (suc j) (omega arith))

pub place-missing : (p : Position) (l : List Position) (z : Position) → ((j : ℕ) → j < length l → get_or l j z ≡ p → ⊥)
    → place_of p l ≡ None
place-missing = place-missing-from 0

-- ── A place that is found is one of the list ──

at_none : {i : ℕ} → None ≡ Some i → ⊥
at_none e = clash (cc)

place-below : (k : ℕ) (p : Position) (l : List Position) (i : ℕ) → place_from k p l ≡ Some i → i < k + length l
unfolding place_from
place-below k p [] i e = absurd (at_none e)
place-below k p (q ∷ l) i e = step (same p q) refl (place-below (suc k) p l i)
  where
    step : (b : Bool) → same p q ≡ b → (place_from (suc k) p l ≡ Some i → i < suc k + length l) → i < k + suc (length l)
    step true d rest =
        let f : place_from k p (q ∷ l) ≡ Some k = rw (d, place_from) in
        let s : k ≡ i = cc in
        omega arith
    step false d rest =
        let f : place_from k p (q ∷ l) ≡ place_from (suc k) p l = rw (d, place_from) in
        let r = rest (sym f ∙ e) in
        omega arith

pub place-within : (p : Position) (l : List Position) (i : ℕ) → place_of p l ≡ Some i → i < length l
place-within p l i e = omega (arith, place-below 0 p l i e)
