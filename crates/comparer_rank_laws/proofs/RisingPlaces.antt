-- A list of positions that rises has each of them once, and a look-up finds it there. Assumes nothing.
use Prim.Native.Nat.{ℕ, ◌<◌}
use mathlib.Core.Path.{◌≡◌, sym, ◌∙◌}
use mathlib.Core.List.{List}
use native.Mathlib.Omega.{arith}
use native.Mathlib.Decide.{dec_lt}
use lib.ListN.{length, get_or}
use Rattle.std.specs.Prelude.{Some}
use Rattle.fra.specs.Lists.{◌∈◌}
use Rattle.fra.specs.Position.{Rising}
use Rattle.fra.specs.declared.Position.{Position}
use Rattle.fra_laws.proofs.Tests.{not_both}
use Rattle.fra_laws.proofs.Order.{before_irreflexive}
use Rattle.fra_laws.proofs.FixedWidth.{member_place}
use Rattle.listing.specs.Lookup.{place_of}
use Rattle.listing.proofs.PositionNumbers.{rising-at}
use Rattle.listing.proofs.Placing.{place_at}

module _ (l : List Position) (z : Position) (rises : Rising l) where
  apart : (i j : ℕ) → i < j → j < length l → get_or l i z ≡ get_or l j z → ⊥
  apart i j b c e = not_both _ (rw e at (rising-at l i j z rises b c)) (before_irreflexive (get_or l j z))

  pub rising_once : (i j : ℕ) → i < length l → j < length l → get_or l i z ≡ get_or l j z → i ≡ j
  rising_once i j b c e = step (dec_lt i j) (dec_lt j i)
    where
      step : Dec (i < j) → Dec (j < i) → i ≡ j
      step (yes d) o = absurd (apart i j d c e)
      step (no d) (yes o) = absurd (apart j i o b (sym e))
      step (no d) (no o) = omega arith

  pub place_found : {q : Position} → q ∈ l → (i : ℕ) × (i < length l) × (get_or l i z ≡ q) × (place_of q l ≡ Some i)
  place_found {q} m =
      let (i, b, e) = member_place z m in
      (i, b, e, place_at q l i z b e (λ j c d. apart j i c b (d ∙ sym e)))
