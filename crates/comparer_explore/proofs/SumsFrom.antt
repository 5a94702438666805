-- The numbers of a position's partners from some register on, and of those from the register before. Assumes nothing.
use Rattle.std.proofs.Common.{ℕ, zero, suc, ◌+◌, ◌*◌, ◌-◌, ◌≤◌, ◌<◌, ◌≡◌, List, length, get_or, set, drop, arith}
use Rattle.std.proofs.Math.Nat.{pow-suc}
use Rattle.std.proofs.Math.Seq.{get_or-set_same}
use Rattle.table_keys.specs.Keys.{partner_base}
use Rattle.comparer_explore_laws.specs.PartnerSums.{place_of, word_of, AddsOf}
use Rattle.comparer_explore_laws.proofs.PartnerSums.{word_more, adds-more, added-most}

pub record From (l : List ℕ) (n word place : ℕ) (adds : List ℕ) (i : ℕ) : Type 0 where
  pub place_is : place ≡ place_of (n - i)
  pub word_is : word ≡ word_of (drop i l)
  pub adds_are : AddsOf (drop i l) adds

-- one register more
module _ {l : List ℕ} {n word place : ℕ} {adds : List ℕ} where
  pub from-word : (j : ℕ) → From l n word place adds j → 1 ≤ j → j ≤ n → length l ≡ n
      → word + get_or l (j - 1) 0 * place ≡ word_of (drop (j - 1) l)
  from-word zero f some few long = absurd (omega arith)
  from-word (suc i) f some few long =
      let c : suc i - 1 ≡ i = omega arith in
      let more = word_more l i (n - suc i) (omega arith) in
      rw (c, f.place_is, f.word_is) (omega (arith, more))

  pub from-adds : (j : ℕ) → From l n word place adds j → 1 ≤ j → j ≤ n → length l ≡ n → get_or l (j - 1) 0 < partner_base
      → AddsOf (drop (j - 1) l) (set adds (get_or l (j - 1) 0) (get_or adds (get_or l (j - 1) 0) 0 + get_or l (j - 1) 0 * place))
  from-adds zero f some few long digit = absurd (omega arith)
  from-adds (suc i) f some few long digit =
      let c : suc i - 1 ≡ i = omega arith in
      let below : get_or l i 0 < partner_base = rw c at digit in
      rw (c, f.place_is) (adds-more l adds i (n - suc i) (omega arith) below f.adds_are)

  pub from_place : (j : ℕ) → From l n word place adds j → 1 ≤ j → j ≤ n → place * partner_base ≡ place_of (n - (j - 1))
  from_place zero f some few = absurd (omega arith)
  from_place (suc i) f some few =
      let c : n - (suc i - 1) ≡ suc (n - suc i) = omega arith in
      rw (c, f.place_is, pow-suc partner_base (n - suc i))

  -- the pairs of its right register, with it, count no more than all that are passed
  pub from-added : (j : ℕ) → From l n word place adds j → 1 ≤ j → j ≤ n → length l ≡ n → get_or l (j - 1) 0 < partner_base
      → get_or adds (get_or l (j - 1) 0) 0 + get_or l (j - 1) 0 * place ≤ word_of (drop (j - 1) l)
  from-added j f some few long digit =
      let x = get_or l (j - 1) 0 in
      let more = (from-adds j f some few long digit).each x digit in
      let same = get_or-set_same adds x (get_or adds x 0 + x * place) 0 (omega (arith, f.adds_are.long)) in
      omega (arith, more, same, added-most x (drop (j - 1) l))
