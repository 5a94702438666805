-- Halving down to the first of some rising numbers that is not below the sought one, and what stands there. Assumes nothing.
use Prim.Native.Nat.{ℕ, ◌+◌, ◌≤◌, ◌<◌}
use mathlib.Core.Path.{◌≡◌, refl, sym, ◌∙◌, ap}
use mathlib.Core.Bool.{Bool, true, false}
use mathlib.Core.List.{List}
use native.Mathlib.Omega.{arith}
use native.Mathlib.Nat.{le_of_eq}
use native.Mathlib.Decide.{dec_lt}
use lib.ListN.{length, get_or}
use Rattle.fra.specs.Position.{bytes}
use Rattle.fra.specs.declared.Position.{Position}
use Rattle.listing.specs.Widths.{position_width}
use Rattle.listing.specs.Digits.{value, Below}
use Rattle.listing.specs.Listing.{positions_in, number_at, Searchable, Bound}
use Rattle.listing.specs.Lookup.{place_of}
use Rattle.listing.specs.declared.Listing.{Listing}
use Rattle.std.specs.Prelude.{Some, None}
use Rattle.std.specs.Bool.{then_some}
use Rattle.listing.proofs.WordLaws.{Bytes}
use Rattle.listing.proofs.PositionNumbers.{positions-length, positions-at, number-bytes, number-found, numbers_rise}
use Rattle.listing.proofs.Placing.{place_at, place-missing}

-- the first place below n at which a rising number reaches the sought one lies from low to high
pub record Bracket (f : ℕ → ℕ) (n sought low high : ℕ) : Type 0 where
  pub ordered : low ≤ high
  pub within : high ≤ n
  pub less : (k : ℕ) → k < low → f k < sought
  pub reached : (k : ℕ) → high ≤ k → k < n → sought ≤ f k

pub bracket_start : (f : ℕ → ℕ) (n sought : ℕ) → Bracket f n sought 0 n
bracket_start f n sought =
    record { ordered = omega arith; within = omega arith; less = λ k h. absurd (omega arith); reached = λ k h i. absurd (omega arith) }

module _ (f : ℕ → ℕ) (n : ℕ) (rises : (i j : ℕ) → i < j → j < n → f i < f j) where
  risen : (i j : ℕ) → i ≤ j → j < n → f i ≤ f j
  risen i j h k = elim (dec_lt i j) [ yes d ↦ omega (arith, rises i j d k) | no d ↦ le_of_eq (ap f (omega arith)) ]

  module _ (sought low high m : ℕ) (b : Bracket f n sought low high) (l : low ≤ m) (u : m < high) where
    pub bracket_up : f m < sought → Bracket f n sought (m + 1) high
    bracket_up h =
        record {
          ordered = omega arith;
          within = b.within;
          less = λ k i. omega (arith, risen k m (omega arith) (omega (arith, b.within)));
          reached = b.reached;
        }

    pub bracket_down : sought ≤ f m → Bracket f n sought low m
    bracket_down h =
        record {
          ordered = l;
          within = omega (arith, b.within);
          less = b.less;
          reached = λ k i j. omega (arith, risen m k i j);
        }

-- ── What stands where the search has ended ──

module _ (y : Listing) (l : List ℕ) (s : Searchable y l) (b : Bytes l) (p : Position) (long : length (bytes p) ≡ position_width) (small : Below 256 (bytes p)) (at : ℕ) (bound : Bound y l (value 256 0 (bytes p)) at) where
  number_of : (k : ℕ) → k < y.count → get_or (positions_in y l) k p ≡ p → number_at y l k ≡ value 256 0 (bytes p)
  number_of k h d =
      number-bytes y l b s.fitting k h
      ∙ ap (λ (q : Position). value 256 0 (bytes q)) (sym (positions-at y l k p h) ∙ d)

  pub found_at : at < y.count → number_at y l at ≡ value 256 0 (bytes p) → place_of p (positions_in y l) ≡ Some at
  found_at h d =
      place_at p (positions_in y l) at p (omega (arith, positions-length y l))
      (positions-at y l at p h ∙ number-found y l b s.fitting at h p long small d)
      (λ j k e. omega (arith, bound.less j k, number_of j (omega arith) e))

  -- past all records, or at a position of another number: the position is nowhere
  pub found_nowhere : (at < y.count → number_at y l at ≡ value 256 0 (bytes p) → ⊥) → place_of p (positions_in y l) ≡ None
  found_nowhere absent =
      place-missing p (positions_in y l) p
      (λ j k e. let h : j < y.count = omega (arith, positions-length y l) in none j h (number_of j h e) (dec_lt j at) (dec_lt at j))
    where
      none : (j : ℕ) → j < y.count → number_at y l j ≡ value 256 0 (bytes p) → Dec (j < at) → Dec (at < j) → ⊥
      none j h e (yes i) c = omega (arith, bound.less j i)
      none j h e (no i) (yes c) =
          omega (arith, bound.reached at (omega arith) (omega arith), numbers_rise y l b s at j c h)
      none j h e (no i) (no c) = absent (omega arith) (ap (number_at y l) (omega arith) ∙ e)

  -- the place where the search has ended, if the position's number stands there
  pub place-found : (found : Bool) → (found ≡ true → (at < y.count) × (number_at y l at ≡ value 256 0 (bytes p)))
      → (found ≡ false → at < y.count → number_at y l at ≡ value 256 0 (bytes p) → ⊥)
      → then_some found at ≡ place_of p (positions_in y l)
  place-found true here absent = let h = here refl in sym (found_at h.0 h.1)
  place-found false here absent = sym (found_nowhere (absent refl))
