-- A key made digit by digit, from what stands before its digits on. Assumes nothing.
use Prim.Native.Nat.{ℕ, ◌+◌, ◌*◌, ◌≤◌, ◌<◌}
use mathlib.Core.Path.{◌≡◌, sym, ◌∙◌}
use mathlib.Core.List.{List}
use lib.ListN.{length, get_or, drop}
use Rattle.listing.specs.Digits.{value}
use Rattle.table_keys.specs.Keys.{partner_base}
use Rattle.table_keys.proofs.Keys.{value-digit, value-end}

-- the digits from place i on continue a number to what all of them make of the first one
abbrev pub Continues : ℕ → List ℕ → ℕ → ℕ → Type 0
Continues first digits x i = value partner_base x (drop i digits) ≡ value partner_base first digits

module _ (first : ℕ) (digits : List ℕ) (x i : ℕ) (c : Continues first digits x i) where
  -- one digit more
  pub continues_more : i < length digits → Continues first digits (x * partner_base + get_or digits i 0) (i + 1)
  continues_more h = sym (value-digit partner_base x digits i h) ∙ c

  -- no digit is left
  pub continues_end : length digits ≤ i → x ≡ value partner_base first digits
  continues_end h = sym (value-end partner_base x digits i h) ∙ c
