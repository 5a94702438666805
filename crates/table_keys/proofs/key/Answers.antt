-- No part of a key is more than the key, which is below the limit.
use Rattle.std.proofs.Common.{◌≡◌, ℕ, ◌+◌, ◌-◌, ◌*◌, ◌<◌, ◌≤◌, List, length, get_or, take, drop, refl, sym, ◌∙◌, arith, rules}
use Rattle.fra.specs.declared.Position.{Position}
use Rattle.listing.specs.Digits.{value}
use Rattle.table_keys.specs.declared.Radix.{Radix}
use Rattle.table_keys.specs.Keys.{partner_base, sizes_of, front_of, key_of, key_limit, Sized, Fits}
use Rattle.table_keys.proofs.Keys.{value-digit, value-end, key-small, key_part_small}
use Rattle.table_keys.proofs.key.Goals as goal

module _ {x : Radix} {p : Position} (s : Sized x) (f : Fits x p) (front i : ℕ)
    (so_far : value partner_base front (drop i (take x.registers p.partners)) ≡ front_of x p) where
  abbrev used : List ℕ
  used = take x.registers p.partners

  next : i < length used → value partner_base (front * 8 + get_or used i 0) (drop (i + 1) used) ≡ front_of x p
  next h = sym (value-digit partner_base front used i h) ∙ so_far

  next_small : i < length used → front * 8 + get_or used i 0 < key_limit
  next_small h = key_part_small s f (front * 8 + get_or used i 0) (drop (i + 1) used) (next h)

  whole : length used ≤ i → (sizes : ℕ) → sizes ≡ sizes_of x → front * sizes + (p.history - x.least) ≡ key_of x p
  unfolding key_of
  whole h sizes e =
      let all : front ≡ front_of x p = sym (value-end partner_base front used i h) ∙ so_far in
      rw (all, e)

  whole_small : length used ≤ i → (sizes : ℕ) → sizes ≡ sizes_of x → front * sizes + (p.history - x.least) < key_limit
  whole_small h sizes e = rw (whole h sizes e) (key-small s f)

pub loop-x-init : goal.loop-x-init
loop-x-init c = refl

pub overflow_mul-front-in-loop-x : goal.overflow_mul-front-in-loop-x
overflow_mul-front-in-loop-x c =
    let h = next_small c.requires.0 c.requires.1 c.loop-x.front c.loop-x.x-index c.loop-x.invariant c.loop-x-test.true in
    let part : c.loop-x.front * 8 < key_limit = omega (arith, h) in
    search rules

pub overflow_add-front-in-loop-x : goal.overflow_add-front-in-loop-x
overflow_add-front-in-loop-x c =
    let h = next_small c.requires.0 c.requires.1 c.loop-x.front c.loop-x.x-index c.loop-x.invariant c.loop-x-test.true in
    search rules

pub loop-x-preserved : goal.loop-x-preserved
loop-x-preserved c =
    next c.requires.0 c.requires.1 c.loop-x.front c.loop-x.x-index c.loop-x.invariant c.loop-x-test.true

pub overflow_mul-result : goal.overflow_mul-result
overflow_mul-result c =
    let h = whole_small c.requires.0 c.requires.1 c.loop-x.front c.loop-x.x-index c.loop-x.invariant c.loop-x-test.false c.sizes.result c.sizes.ensures in
    let part : c.loop-x.front * c.sizes.result < key_limit = omega (arith, h) in
    search rules

pub overflow_add-result : goal.overflow_add-result
overflow_add-result c =
    let h = whole_small c.requires.0 c.requires.1 c.loop-x.front c.loop-x.x-index c.loop-x.invariant c.loop-x-test.false c.sizes.result c.sizes.ensures in
    search rules

pub returns : goal.returns
returns c =
    whole c.requires.0 c.requires.1 c.loop-x.front c.loop-x.x-index c.loop-x.invariant c.loop-x-test.false c.sizes.result c.sizes.ensures
