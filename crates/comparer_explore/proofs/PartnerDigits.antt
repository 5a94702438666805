-- The partners of a position that fits are digits, and what they count is small. Assumes nothing.
use Prim.Native.Nat.{ℕ, zero, suc, ◌*◌, ◌^◌, ◌≤◌, ◌<◌}
use mathlib.Core.Path.{◌≡◌, refl}
use mathlib.Core.List.{List, [], ◌∷◌}
use native.Mathlib.Nat.{one-mul, pow-suc, pow-le-pow_right}
use native.Mathlib.Omega.{arith}
use lib.ListN.{length, get_or}
use lib.Seq.{get_or-take}
use Rattle.fra.specs.declared.Position.{Position}
use Rattle.listing.specs.Digits.{Below}
use Rattle.listing.proofs.Digits.{value_bound}
use Rattle.table_keys.specs.Keys.{partner_base, Sized, Fits}
use Rattle.table_keys.specs.declared.Radix.{Radix}
use Rattle.table_keys.proofs.Keys.{used-length}
use Rattle.comparer_explore_laws.specs.PartnerSums.{place_of, word_of, word_limit}
use Rattle.comparer_explore.specs.Sums.{partners_in}

below_at : (base : ℕ) (l : List ℕ) → Below base l → (i : ℕ) → i < length l → get_or l i 0 < base
below_at base [] b i h = absurd (omega arith)
below_at base (x ∷ l) b zero h = b.0
below_at base (x ∷ l) b (suc i) h = below_at base l b.1 i (omega arith)

-- what a digit counts that at most six follow
pub place-small : (n : ℕ) → n ≤ 6 → place_of n ≤ word_limit
place-small n h = pow-le-pow_right {n = partner_base} (omega arith) {i = n} {j = 6} h

-- it is a power of two
pub place_power : (n : ℕ) → 2 ^ (3 * n) ≡ place_of n
place_power zero = refl
place_power (suc n) =
    let more : 3 * suc n ≡ suc (suc (suc (3 * n))) = omega arith in
    rw (more, pow-suc 2 (suc (suc (3 * n))), pow-suc 2 (suc (3 * n)), pow-suc 2 (3 * n), pow-suc partner_base n, place_power n)
    (omega arith)

module _ {x : Radix} {p : Position} (s : Sized x) (f : Fits x p) where
  pub partner-at : (i : ℕ) → i < x.registers → get_or (partners_in x p) i 0 ≡ get_or p.partners i 0
  partner-at i h = get_or-take x.registers p.partners i 0 h

  pub partner-digit : (i : ℕ) → i < x.registers → get_or p.partners i 0 < partner_base
  partner-digit i h =
      rw (partner-at i h) at (below_at partner_base (partners_in x p) f.partners i (omega (arith, used-length s f)))

  pub word_small : word_of (partners_in x p) < word_limit
  word_small =
      let bound = value_bound partner_base 1 0 (partners_in x p) (omega arith) f.partners in
      let most : 1 * partner_base ^ length (partners_in x p) ≤ word_limit =
      rw (one-mul (partner_base ^ length (partners_in x p)))
      (place-small (length (partners_in x p)) (omega (arith, used-length s f, s.registers))) in
      omega (arith, bound, most)
