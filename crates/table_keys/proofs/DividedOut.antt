-- A key whose digits are divided out one after the other, the last partner first. Assumes nothing.
use Prim.Native.Nat.{ℕ, zero, suc, ◌+◌, ◌-◌, ◌/◌, ◌%◌, ◌^◌, ◌≤◌, ◌<◌}
use mathlib.Core.Path.{◌≡◌, refl, sym, ◌∙◌, ap}
use mathlib.Core.List.{List, ◌∷◌, ◌++◌}
use native.Mathlib.Nat.{sub_self, sub-zero, pow-suc, pow-zero, one-le-pow, div-one, div-div-eq-div-mul, div-lt_iff_lt-mul}
use native.Mathlib.Omega.{arith}
use lib.ListN.{set, replicate, length-replicate, replicate-append-replicate}
use lib.Seq.{set_at}
use Rattle.listing.specs.Digits.{digits}
use Rattle.table_keys.specs.Keys.{partner_base, sizes_of, key_count, Sized}
use Rattle.table_keys.specs.declared.Radix.{Radix}

-- the last of some zeros
last_zero : (i : ℕ) (l : List ℕ) → replicate (suc i) 0 ++ l ≡ replicate i 0 ++ 0 ∷ l
last_zero zero l = refl
last_zero (suc i) l = ap {B = List ℕ} (λ m. 0 ∷ m) (last_zero i l)

module _ (x : Radix) (k : ℕ) where
  -- what is left when the partners from register i on are divided out
  abbrev pub front_left : ℕ → ℕ
  front_left i = k / sizes_of x / partner_base ^ (x.registers - i)

  -- these partners in their places, and zeros in the others
  abbrev pub partners_out : ℕ → List ℕ
  partners_out i = replicate i 0 ++ (digits partner_base (x.registers - i) (k / sizes_of x) ++ replicate (6 - x.registers) 0)

  -- at first there are none
  pub front_none : k / sizes_of x ≡ front_left x.registers
  front_none = rw (sub_self x.registers, pow-zero) (sym (div-one (k / sizes_of x)))

  pub partners_none : Sized x → replicate 6 0 ≡ partners_out x.registers
  unfolding digits
  partners_none s =
      let all : x.registers + (6 - x.registers) ≡ 6 = omega (arith, s.registers) in
      rw (sub_self x.registers, replicate-append-replicate, all)

  -- one more
  pub front_more : (i : ℕ) → 1 ≤ i → i ≤ x.registers → front_left i / partner_base ≡ front_left (i - 1)
  front_more i a b =
      let e : x.registers - (i - 1) ≡ suc (x.registers - i) = omega arith in
      rw (e, pow-suc, div-div-eq-div-mul)

  pub partners-more : (i : ℕ) → 1 ≤ i → i ≤ x.registers
      → set (partners_out i) (i - 1) (front_left i % partner_base) ≡ partners_out (i - 1)
  unfolding digits
  partners-more zero a b = absurd (omega arith)
  partners-more (suc i) a b =
      let e : x.registers - i ≡ suc (x.registers - suc i) = omega arith in
      let c : suc i - 1 ≡ i = omega arith in
      rw (c, e)
      (ap (λ (l : List ℕ). set l i (front_left (suc i) % partner_base)) (last_zero i _)
      ∙ set_at (replicate i 0) 0 _ _ i (length-replicate i 0))

  -- when all are divided out, the states are left
  pub front_all : front_left 0 ≡ k / sizes_of x / partner_base ^ x.registers
  front_all = rw (sub-zero x.registers)

  pub partners-all : partners_out 0 ≡ digits partner_base x.registers (k / sizes_of x) ++ replicate (6 - x.registers) 0
  partners-all = rw (sub-zero x.registers)

  -- the states that are left are numbers of states
  pub left-exists : Sized x → k < key_count x → k / sizes_of x / partner_base ^ x.registers / x.right < x.left
  unfolding key_count
  left-exists s h =
      let sizes : 1 ≤ sizes_of x = omega (arith, s.least) in
      (div-lt_iff_lt-mul s.some).1
      ((div-lt_iff_lt-mul (one-le-pow x.registers partner_base (omega arith))).1 ((div-lt_iff_lt-mul sizes).1 h))
