-- The states count what 8 to the power of the registers says, and the sums say what the partners count. No part of a key is more
-- than the key.
use Rattle.std.proofs.Common.{ℕ, ◌+◌, ◌*◌, ◌-◌, ◌≤◌, ◌<◌, ◌≡◌, [], length, get_or, refl, sym, ◌∙◌, ap, arith, rules}
use Rattle.std.proofs.Math.Nat.{mul-le-mul_left, one-le-pow}
use Rattle.game_moves.specs.declared.rounds.Target.{Target}
use Rattle.listing.specs.Digits.{value}
use Rattle.table_keys.specs.Keys.{partner_base, sizes_of, front_of, key_of, key_limit, Sized, Fits}
use Rattle.table_keys.specs.declared.Radix.{Radix}
use Rattle.table_keys.proofs.Keys.{used-length, key-small, key_part_small}
use Rattle.comparer_explore_laws.specs.PartnerSums.{place_of, word_of, word_limit}
use Rattle.comparer_explore_laws.proofs.PartnerSums.{value_front}
use Rattle.comparer_explore.specs.HalfRounds.{joined_to, Summed}
use Rattle.comparer_explore.specs.declared.expand.Half.{Half}
use Rattle.comparer_explore.specs.declared.sums.Rest.{Rest}
use Rattle.comparer_explore.proofs.PartnerDigits.{word_small}
use Rattle.comparer_explore.proofs.RoundDigits.{digits, states}
use Rattle.comparer_explore.proofs.expand.Half.key_after.Goals as goal

module _ (x : Radix) (half : Half) (size : ℕ) (right : Target) (s : Sized x) (f : Fits x (joined_to half size right))
    (rest : Rest) (sums : Summed x half rest right) where
  -- the partners after the round as one number, and what is added up
  abbrev word : ℕ
  word = word_of (digits x half right)

  abbrev summed : ℕ
  summed = rest.word + right.register * rest.place

  abbrev added : ℕ
  added = get_or rest.adds right.register 0

  few : word < word_limit
  unfolding joined_to
  few = word_small s f

  front : states x half right * place_of x.registers + word ≡ front_of x (joined_to half size right)
  unfolding joined_to
  front =
      let long : length (digits x half right) ≡ x.registers = used-length s f in
      sym (value_front partner_base (states x half right) (digits x half right)
      ∙ ap (λ (n : ℕ). states x half right * place_of n + word) long)

  front_small : states x half right * place_of x.registers + word < key_limit
  unfolding value
  front_small = key_part_small s f (states x half right * place_of x.registers + word) [] front

  states_small : states x half right < key_limit
  states_small =
      let once : states x half right * 1 ≤ states x half right * place_of x.registers =
      mul-le-mul_left (states x half right) (one-le-pow _ partner_base (omega arith)) in
      omega (arith, front_small)

  summed_small : summed < key_limit
  summed_small = omega (arith, sums.sum, few, sums.small)

  enough : added ≤ summed
  enough = omega (arith, sums.sum)

  joined : summed - added ≡ word
  joined = omega (arith, sums.sum)

  module _ (place sizes : ℕ) (p : place ≡ place_of x.registers) (e : sizes ≡ sizes_of x) where
    front_fits : states x half right * place + (summed - added) < key_limit
    front_fits = rw (p, joined) front_small

    whole : (states x half right * place + (summed - added)) * sizes + (size - x.least) ≡ key_of x (joined_to half size right)
    unfolding key_of joined_to
    whole = rw (p, joined, e) (ap (λ (n : ℕ). n * sizes_of x + (size - x.least)) front)

    whole_small : (states x half right * place + (summed - added)) * sizes + (size - x.least) < key_limit
    whole_small = rw whole (key-small s f)

pub overflow_mul-joined : goal.overflow_mul-joined
overflow_mul-joined c =
    let (s, f) = c.requires.sized in
    let a = c.args in
    let rest = c.in-Some.rest in
    let sums = c.requires.summed c.if-not-drops.true rest c.in-Some.is in
    let h : a.right.register * rest.place < key_limit = omega (arith, summed_small a.radix a.self a.size a.right s f rest sums) in
    search (rules, h)

pub overflow_add-joined : goal.overflow_add-joined
overflow_add-joined c =
    let (s, f) = c.requires.sized in
    let a = c.args in
    let rest = c.in-Some.rest in
    let sums = c.requires.summed c.if-not-drops.true rest c.in-Some.is in
    let h = summed_small a.radix a.self a.size a.right s f rest sums in
    search (rules, h)

pub overflow_mul-front : goal.overflow_mul-front
overflow_mul-front c =
    let (s, f) = c.requires.sized in
    let a = c.args in
    let rest = c.in-Some.rest in
    let sums = c.requires.summed c.if-not-drops.true rest c.in-Some.is in
    let h = front_fits a.radix a.self a.size a.right s f rest sums c.place_of.result (sizes_of a.radix) c.place_of.ensures refl in
    let part : states a.radix a.self a.right * c.place_of.result < key_limit = omega (arith, h) in
    search (rules, part)

pub overflow_add-front : goal.overflow_add-front
overflow_add-front c =
    let (s, f) = c.requires.sized in
    let a = c.args in
    let rest = c.in-Some.rest in
    let sums = c.requires.summed c.if-not-drops.true rest c.in-Some.is in
    let h = front_fits a.radix a.self a.size a.right s f rest sums c.place_of.result (sizes_of a.radix) c.place_of.ensures refl in
    search (rules, h)

pub overflow_mul-result : goal.overflow_mul-result
overflow_mul-result c =
    let (s, f) = c.requires.sized in
    let a = c.args in
    let rest = c.in-Some.rest in
    let sums = c.requires.summed c.if-not-drops.true rest c.in-Some.is in
    let h = whole_small a.radix a.self a.size a.right s f rest sums c.place_of.result c.sizes.result c.place_of.ensures c.sizes.ensures in
    let part : (states a.radix a.self a.right * c.place_of.result + (summed a.radix a.self a.size a.right s f rest sums - added a.radix a.self a.size a.right s f rest sums)) * c.sizes.result < key_limit =
    omega (arith, h) in
    search (rules, part)

pub overflow_sub-result : goal.overflow_sub-result
unfolding joined_to
overflow_sub-result c = c.requires.sized.1.least

pub overflow_add-result : goal.overflow_add-result
overflow_add-result c =
    let (s, f) = c.requires.sized in
    let a = c.args in
    let rest = c.in-Some.rest in
    let sums = c.requires.summed c.if-not-drops.true rest c.in-Some.is in
    let h = whole_small a.radix a.self a.size a.right s f rest sums c.place_of.result c.sizes.result c.place_of.ensures c.sizes.ensures in
    search (rules, h)

pub returns-in-Some : goal.returns-in-Some
returns-in-Some c =
    let (s, f) = c.requires.sized in
    let a = c.args in
    let rest = c.in-Some.rest in
    let sums = c.requires.summed c.if-not-drops.true rest c.in-Some.is in
    whole a.radix a.self a.size a.right s f rest sums c.place_of.result c.sizes.result c.place_of.ensures c.sizes.ensures
