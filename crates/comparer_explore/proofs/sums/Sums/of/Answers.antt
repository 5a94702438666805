-- The register before the last one passed adds what its partner counts there, and no number of these is too large.
use Rattle.std.proofs.Common.{ℕ, ◌+◌, ◌*◌, ◌-◌, ◌≤◌, ◌<◌, ◌≡◌, List, [], get_or, set, drop, refl, ◌∙◌, ap, subst, drop_of_length-le, arith, rules}
use Rattle.std.proofs.lemmas.List.{get_or-replicate}
use Rattle.std.proofs.Math.Nat.{sub_self}
use Rattle.fra.specs.declared.Position.{Position}
use Rattle.listing.specs.Digits.{value}
use Rattle.table_keys.specs.Keys.{partner_base, Sized, Fits}
use Rattle.table_keys.specs.declared.Radix.{Radix}
use Rattle.table_keys.proofs.Keys.{used-length}
use Rattle.comparer_explore_laws.specs.PartnerSums.{place_of, word_of, AddsOf, word_limit}
use Rattle.comparer_explore_laws.proofs.PartnerSums.{word-drop, adds_none}
use Rattle.comparer_explore.specs.Sums.{partners_in}
use Rattle.comparer_explore.proofs.PartnerDigits.{place-small, partner-at, partner-digit, word_small}
use Rattle.comparer_explore.proofs.SumsFrom.{From, from-word, from-adds, from_place, from-added}
use Rattle.comparer_explore.proofs.sums.Sums.of.Goals as goal

module _ {x : Radix} {p : Position} (s : Sized x) (f : Fits x p) {word place : ℕ} {adds : List ℕ} (j : ℕ)
    (so_far : From (partners_in x p) x.registers word place adds j) (some : 0 < j) (few : j ≤ x.registers) where
  abbrev l : List ℕ
  l = partners_in x p

  abbrev y : ℕ
  y = get_or p.partners (j - 1) 0

  here : j - 1 < x.registers
  here = omega arith

  own : get_or l (j - 1) 0 ≡ y
  own = partner-at s f (j - 1) here

  digit : y < partner_base
  digit = partner-digit s f (j - 1) here

  digit' : get_or l (j - 1) 0 < partner_base
  digit' = rw own digit

  word_next : word + y * place ≡ word_of (drop (j - 1) l)
  word_next =
      subst (λ (z : ℕ). word + z * place ≡ word_of (drop (j - 1) l)) own (from-word j so_far some few (used-length s f))

  added_next : get_or adds y 0 + y * place ≤ word_of (drop (j - 1) l)
  added_next =
      subst (λ (z : ℕ). get_or adds z 0 + z * place ≤ word_of (drop (j - 1) l)) own
      (from-added j so_far some few (used-length s f) digit')

  adds_next : AddsOf (drop (j - 1) l) (set adds y (get_or adds y 0 + y * place))
  adds_next =
      subst (λ (z : ℕ). AddsOf (drop (j - 1) l) (set adds z (get_or adds z 0 + z * place))) own
      (from-adds j so_far some few (used-length s f) digit')

  small : word_of (drop (j - 1) l) < word_limit
  small = omega (arith, word-drop (j - 1) l, word_small s f)

  part_small : y * place < word_limit
  part_small = omega (arith, word_next, small)

  word_fits : word + y * place < word_limit
  word_fits = rw word_next small

  added_fits : get_or adds y 0 + y * place < word_limit
  added_fits = omega (arith, added_next, small)

  place_next : place * partner_base ≡ place_of (x.registers - (j - 1))
  place_next = from_place j so_far some few

  place_few : place * partner_base ≤ word_limit
  place_few = rw place_next (place-small (x.registers - (j - 1)) (omega (arith, s.registers)))

  next : From l x.registers (word + y * place) (place * 8) (set adds y (get_or adds y 0 + y * place)) (j - 1)
  next = record { place_is = place_next; word_is = word_next; adds_are = adds_next }

empty : 0 ≡ word_of []
unfolding value
empty = refl

pub loop-i-init : goal.loop-i-init
loop-i-init c =
    let a = c.args in
    let l = partners_in a.radix a.p in
    let none = drop_of_length-le l {i = a.radix.registers} (omega (arith, used-length c.requires.0 c.requires.1)) in
    record {
      place_is = rw (sub_self a.radix.registers);
      word_is = rw none empty;
      adds_are = rw none (adds_none _ refl (λ b h. get_or-replicate partner_base b 0 0 h));
    }

pub overflow_mul-part : goal.overflow_mul-part
overflow_mul-part c =
    let h = part_small c.requires.0 c.requires.1 c.loop-i.i c.loop-i.invariant c.loop-i-test.true c.loop-i.auto.i in
    search (rules, h)

pub overflow_add-word : goal.overflow_add-word
overflow_add-word c =
    let h = word_fits c.requires.0 c.requires.1 c.loop-i.i c.loop-i.invariant c.loop-i-test.true c.loop-i.auto.i in
    search (rules, h)

pub bounds-adds-x : goal.bounds-adds-x
bounds-adds-x c = digit c.requires.0 c.requires.1 c.loop-i.i c.loop-i.invariant c.loop-i-test.true c.loop-i.auto.i

pub bounds-adds-x-in-loop-i : goal.bounds-adds-x-in-loop-i
bounds-adds-x-in-loop-i c = digit c.requires.0 c.requires.1 c.loop-i.i c.loop-i.invariant c.loop-i-test.true c.loop-i.auto.i

pub overflow_add-adds : goal.overflow_add-adds
overflow_add-adds c =
    let h = added_fits c.requires.0 c.requires.1 c.loop-i.i c.loop-i.invariant c.loop-i-test.true c.loop-i.auto.i in
    search (rules, h)

pub overflow_mul-place : goal.overflow_mul-place
overflow_mul-place c =
    let h = place_few c.requires.0 c.requires.1 c.loop-i.i c.loop-i.invariant c.loop-i-test.true c.loop-i.auto.i in
    search (rules, h)

pub loop-i-preserved : goal.loop-i-preserved
loop-i-preserved c = next c.requires.0 c.requires.1 c.loop-i.i c.loop-i.invariant c.loop-i-test.true c.loop-i.auto.i

pub returns : goal.returns
returns c =
    let none : c.loop-i.i ≡ 0 = omega arith in
    let l = partners_in c.args.radix c.args.p in
    record {
      word = c.loop-i.invariant.word_is ∙ ap (λ (j : ℕ). word_of (drop j l)) none;
      adds = subst (λ (j : ℕ). AddsOf (drop j l) c.loop-i.adds) none c.loop-i.invariant.adds_are;
    }
