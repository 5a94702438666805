-- The partner of the register that is written is a digit, and counts no more than the pairs of that right register do.
use Rattle.std.proofs.Common.{ℕ, suc, ◌+◌, ◌*◌, ◌-◌, ◌≤◌, ◌<◌, ◌≡◌, List, length, get_or, length-set, ◌∙◌, arith, rules}
use Rattle.fra.specs.declared.Position.{Position}
use Rattle.table_keys.specs.Keys.{partner_base, Sized, Fits}
use Rattle.table_keys.specs.declared.Radix.{Radix}
use Rattle.table_keys.proofs.Keys.{used-length}
use Rattle.comparer_explore_laws.specs.PartnerSums.{place_of, word_of, added_by, word_limit}
use Rattle.comparer_explore_laws.proofs.PartnerSums.{rejoined-take, added-least, added-most, rest_sum, rest-most}
use Rattle.comparer_explore.specs.Sums.{partners_in}
use Rattle.comparer_explore.proofs.PartnerDigits.{partner-at, partner-digit, word_small}
use Rattle.comparer_explore.proofs.sums.Sums.rest.Goals as goal

module _ {x : Radix} {p : Position} (s : Sized x) (f : Fits x p) (a : ℕ) (least : 1 ≤ a) (most : a ≤ x.registers) where
  abbrev l : List ℕ
  l = partners_in x p

  abbrev others : ℕ
  others = x.registers - a

  abbrev y : ℕ
  y = get_or p.partners (a - 1) 0

  used : a - 1 < x.registers
  used = omega arith

  own : get_or l (a - 1) 0 ≡ y
  own = partner-at s f (a - 1) used

  digit : y < partner_base
  digit = partner-digit s f (a - 1) used

  place : others + suc (a - 1) ≡ length l
  place = omega (arith, used-length s f)

  few : y * place_of others ≤ added_by y l
  few = rw own at (added-least (a - 1) others l place)

  all : added_by y l ≤ word_of l
  all = added-most y l

pub overflow_mul-part : goal.overflow_mul-part
overflow_mul-part c =
    let (s, f) = c.requires.sized in
    let (sums, least, most) = c.requires.sums_of in
    let x = get_or c.args.p.partners (c.args.a - 1) 0 in
    let h : x * c.place_of-place.result < word_limit =
    rw c.place_of-place.ensures (omega (arith, few s f c.args.a least most, all s f c.args.a least most, word_small s f)) in
    search (rules, h)

pub bounds-adds-x : goal.bounds-adds-x
bounds-adds-x c = digit c.requires.sized.0 c.requires.sized.1 c.args.a c.requires.sums_of.1 c.requires.sums_of.2

pub bounds-adds-x-2 : goal.bounds-adds-x-2
bounds-adds-x-2 c = digit c.requires.sized.0 c.requires.sized.1 c.args.a c.requires.sums_of.1 c.requires.sums_of.2

pub overflow_sub-adds : goal.overflow_sub-adds
overflow_sub-adds c =
    let (s, f) = c.requires.sized in
    let (sums, least, most) = c.requires.sums_of in
    let x = get_or c.args.p.partners (c.args.a - 1) 0 in
    rw (c.place_of-place.ensures, sums.adds.each x (digit s f c.args.a least most)) (few s f c.args.a least most)

pub overflow_sub-result : goal.overflow_sub-result
overflow_sub-result c =
    let (s, f) = c.requires.sized in
    let (sums, least, most) = c.requires.sums_of in
    rw (c.place_of-place.ensures, sums.word) (omega (arith, few s f c.args.a least most, all s f c.args.a least most))

pub returns : goal.returns
returns c =
    let (s, f) = c.requires.sized in
    let (sums, least, most) = c.requires.sums_of in
    let a = c.args in
    let l = partners_in a.radix a.p in
    let x = get_or a.p.partners (a.a - 1) 0 in
    let mine = own s f a.a least most in
    record {
      long = length-set a.self.adds x _ ∙ sums.adds.long;
      small = λ b h.
          let bound =
          rest-most l a.self.adds sums.adds x (get_or a.self.adds x 0 - x * c.place_of-place.result) (digit s f a.a least most)
          (omega arith) b h in
          omega (arith, bound, word_small s f);
      sum = λ b h.
          let sum =
          rw mine at
          (rest_sum l a.self.adds sums.adds a.a (a.a - 1) (a.radix.registers - a.a) (omega (arith, least)) (place s f a.a least most)
          (rw mine (digit s f a.a least most)) b h) in
          let taken = rejoined-take a.a b 1 a.radix.registers a.p.partners in
          rw (c.place_of-place.ensures, taken, sums.word) sum;
    }
