-- A table of zeros holds no key. Assumes nothing.
use Prim.Native.Nat.{ℕ, zero, suc, ◌%◌, ◌^◌}
use mathlib.Core.Path.{◌≡◌, refl}
use mathlib.Core.List.{List}
use native.Mathlib.Nat.{zero-div}
use native.Mathlib.Omega.{arith}
use lib.ListN.{length, get_or, replicate}
use Rattle.outcome.specs.Bytes.{word_at, cleared}
use Rattle.outcome.specs.Compare.{capacity}
use Rattle.key_set_laws.specs.Bits.{bit_in, bit_byte, bit_at}
use Rattle.key_set_laws.specs.Stored.{entries_of, Stored}
use Rattle.key_set_laws.proofs.HashChains.{chained_none}

zeros : (n i : ℕ) → get_or {A = ℕ} (replicate n 0) i 0 ≡ 0
zeros zero i = refl
zeros (suc n) zero = refl
zeros (suc n) (suc i) = zeros n i

pub stored_none : (space : ℕ) (table : List ℕ) → Stored space 0 (cleared table)
unfolding cleared word_at bit_in
stored_none space table =
    record {
      room = omega arith;
      distinct = λ i j a b. absurd (omega arith);
      small = λ i a. absurd (omega arith);
      flagged = λ f. record { held = λ k l e. absurd (bit k e); set = λ k h. absurd (omega (arith, h.1)) };
      chained = λ f. chained_none (entries_of (capacity (cleared table)) (cleared table)) (λ b l. simp zeros);
    }
  where
    bit : (k : ℕ) → bit_at (capacity (cleared table)) (cleared table) k ≡ 1 → ⊥
    bit k e = let z = zeros (length table) (bit_byte (capacity (cleared table)) k) in omega (arith, rw (z, zero-div (2 ^ (k % 8))) at e)
