-- A bit that is 0 is set by adding its power of two: the sum is a byte, that bit is 1, and all others stay. Assumes nothing.
use Prim.Native.Nat.{ℕ, suc, ◌+◌, ◌*◌, ◌/◌, ◌%◌, ◌-◌, ◌^◌, ◌≤◌, ◌<◌}
use mathlib.Core.Path.{◌≡◌, sym, ◌∙◌, ap}
use mathlib.Core.List.{List}
use native.Mathlib.Nat.{one-mul, add-mul, mul_comm, mul_assoc, add-mul-div_right, pow-suc, mul-le-mul_right, div-add-mod', mod-lt}
use native.Mathlib.Numerals.{add-one}
use native.Mathlib.Omega.{arith}
use native.Mathlib.Decide.{ℕ_discrete, dec_lt}
use lib.ListN.{length, get_or}
use lib.Seq.{get_or-set_same, get_or-set_other}
use lib.Pow.{pow_pos, pow-add, shr-shr, shr_lt}
use Rattle.outcome.specs.Bytes.{word_at}
use Rattle.listing.specs.Widths.{word_width}
use Rattle.key_set_laws.specs.Bits.{words_each, bit_in, bit_byte, bit_at, with_bit}

-- ── In a byte ──

module _ (b s : ℕ) where
  -- the sum's quotient
  raised : (b + 2 ^ s) / 2 ^ s ≡ b / 2 ^ s + 1
  raised = rw one-mul at (add-mul-div_right b 1 (pow_pos s))

  pub bit_same : bit_in b s ≡ 0 → bit_in (b + 2 ^ s) s ≡ 1
  unfolding bit_in
  bit_same zero = rw raised (omega arith)

  -- a lower bit: the power is a multiple of twice its own
  bit_lower : (j : ℕ) → j < s → bit_in (b + 2 ^ s) j ≡ bit_in b j
  unfolding bit_in
  bit_lower j h =
      let m = s - suc j in
      let place : s ≡ m + suc j = omega arith in
      let power : 2 ^ s ≡ 2 ^ m * 2 * 2 ^ j =
      ap (λ (n : ℕ). 2 ^ n) place ∙ pow-add 2 m (suc j) ∙ ap (λ (n : ℕ). 2 ^ m * n) (pow-suc 2 j ∙ mul_comm (2 ^ j) 2) ∙ sym (mul_assoc (2 ^ m) 2 (2 ^ j)) in
      let quotient : (b + 2 ^ s) / 2 ^ j ≡ b / 2 ^ j + 2 ^ m * 2 = rw power (add-mul-div_right b (2 ^ m * 2) (pow_pos j)) in
      rw quotient (omega arith)

  -- a higher bit: half the quotient by the power is the same, since that is even
  bit_higher : bit_in b s ≡ 0 → (j : ℕ) → s < j → bit_in (b + 2 ^ s) j ≡ bit_in b j
  unfolding bit_in
  bit_higher zero j h =
      let m = j - suc s in
      let place : s + (1 + m) ≡ j = omega arith in
      let half : (b / 2 ^ s + 1) / 2 ^ 1 ≡ b / 2 ^ s / 2 ^ 1 = omega arith in
      ap (λ (n : ℕ). n % 2)
      (sym (by (b + 2 ^ s) m j place) ∙ ap (λ (n : ℕ). n / 2 ^ 1 / 2 ^ m) raised ∙ ap (λ (n : ℕ). n / 2 ^ m) half ∙ by b m j place)
    where
      by : (x m j : ℕ) → s + (1 + m) ≡ j → x / 2 ^ s / 2 ^ 1 / 2 ^ m ≡ x / 2 ^ j
      by x m j e = shr-shr (x / 2 ^ s) 1 m ∙ shr-shr x s (1 + m) ∙ ap (λ (n : ℕ). x / 2 ^ n) e

  pub bit_other : bit_in b s ≡ 0 → (j : ℕ) → (j ≡ s → ⊥) → bit_in (b + 2 ^ s) j ≡ bit_in b j
  bit_other zero j d = elim (dec_lt j s) [ yes h ↦ bit_lower j h | no h ↦ bit_higher zero j (omega arith) ]

  -- the quotient is even and below an even number, so it has room for one more
  pub bit_fits : b < 256 → s < 8 → bit_in b s ≡ 0 → b + 2 ^ s < 256
  unfolding bit_in
  bit_fits small low zero =
      let above = 7 - s in
      let eight : 8 ≡ above + 1 + s = omega arith in
      let all : 256 ≡ 2 ^ (above + 1 + s) = ap (λ (n : ℕ). 2 ^ n) eight in
      let quotient : b / 2 ^ s < 2 ^ (above + 1) = shr_lt {n = b} (above + 1) s (omega arith) in
      let even : 2 ^ (above + 1) ≡ 2 ^ above * 2 = rw add-one (pow-suc 2 above) in
      let more : b / 2 ^ s + 2 ≤ 2 ^ (above + 1) = omega arith in
      let scaled = mul-le-mul_right (2 ^ s) more in
      let sum : (b / 2 ^ s + 2) * 2 ^ s ≡ b / 2 ^ s * 2 ^ s + 2 * 2 ^ s = add-mul (b / 2 ^ s) 2 (2 ^ s) in
      let whole : 2 ^ (above + 1) * 2 ^ s ≡ 256 = sym (all ∙ pow-add 2 (above + 1) s) in
      let part = div-add-mod' b (2 ^ s) in
      let rest = mod-lt b (pow_pos s) in
      omega arith

-- ── In a table ──

module _ (entries : ℕ) (table : List ℕ) (k : ℕ) where
  -- the words before the bits stay
  pub with_bit-word : (at : ℕ) → at + word_width ≤ entries * words_each → word_at (with_bit entries table k) at ≡ word_at table at
  unfolding word_at
  with_bit-word at h = rw (byte at (omega arith), byte (at + 1) (omega arith), byte (at + 2) (omega arith), byte (at + 3) (omega arith))
    where
      byte : (i : ℕ) → i < entries * words_each → get_or (with_bit entries table k) i 0 ≡ get_or table i 0
      byte i l = get_or-set_other table (bit_byte entries k) i _ 0 (λ e. omega arith)

  module _ (inside : bit_byte entries k < length table) (zero : bit_at entries table k ≡ 0) where
    pub with_bit-same : bit_at entries (with_bit entries table k) k ≡ 1
    with_bit-same =
        rw (get_or-set_same table (bit_byte entries k) (get_or table (bit_byte entries k) 0 + 2 ^ (k % 8)) 0 inside)
        (bit_same (get_or table (bit_byte entries k) 0) (k % 8) zero)

    pub with_bit-other : (j : ℕ) → (j ≡ k → ⊥) → bit_at entries (with_bit entries table k) j ≡ bit_at entries table j
    with_bit-other j d = step (ℕ_discrete (bit_byte entries j) (bit_byte entries k))
      where
        step : Dec (bit_byte entries j ≡ bit_byte entries k) → bit_at entries (with_bit entries table k) j ≡ bit_at entries table j
        step (yes e) =
            rw (e, get_or-set_same table (bit_byte entries k) (get_or table (bit_byte entries k) 0 + 2 ^ (k % 8)) 0 inside)
            (bit_other (get_or table (bit_byte entries k) 0) (k % 8) zero (j % 8) (λ f. d (omega arith)))
        step (no f) = rw (get_or-set_other table (bit_byte entries k) (bit_byte entries j) _ 0 f)
