-- At a setting that stands over a position, the position has room exactly if some number of the history is held by neither
-- reader: the registers that stand for numbers are counted by the numbers in them. Assumes nothing.
use Prim.Native.Nat.{ℕ, zero, suc, ◌<◌}
use mathlib.Core.Path.{◌≡◌, refl, sym}
use mathlib.Core.Logic.{◌↔◌}
use mathlib.Core.Bool.{true}
use mathlib.Core.List.Memᴰ
use mathlib.Core.List.{List, map}
use native.Mathlib.Omega.{arith}
use lib.ListN.{length, length-map}
use borrow.Author.Tests.{ltb-true, lt-ltb}
use Rattle.fra.specs.Lists.{◌∈◌}
use Rattle.fra.specs.Position.{filled, left_partner, partner, held, has_room}
use Rattle.fra.specs.Valid.{Valid}
use Rattle.fra.specs.declared.Position.{Position}
use Rattle.fra.specs.declared.Task.{Task}
use Rattle.fra.specs.declared.Side.{Side}
use Rattle.fra.specs.declared.Side.TheVariants.{Left, Right}
use Rattle.fra_laws.proofs.Lengths.{picks-rest, picks_intro}
use Rattle.fra_laws.proofs.HeldNumbers.{held-most, Stands, standing, standing-length, standing_intro, held-at-most}
use Rattle.numbers.specs.Numbers.{Setting, reader_of}
use Rattle.numbers_laws.proofs.FiniteSets.{pigeonhole}
use Rattle.numbers_laws.proofs.HistorySizes.{below-size}
use Rattle.numbers_laws.proofs.Over.{HoldsAt, Lacks, Over, placed, registers, partner-holds, not_unpartnered}

-- the number n is in the history, and neither side holds it
abbrev pub Free : Task → Setting → ℕ → Type 0
Free t s n = (n ∈ s.history) × ((σ : Side) → Lacks t s σ n)

module _ (r : ℕ) (t : Task) (v : Valid r t) (s : Setting) (p : Position) (o : Over r t s p) where
  -- the number in a register
  abbrev number : Side → ℕ → ℕ
  number σ i = (reader_of s σ).number i

  abbrev StandsHere : Side → ℕ → Type 0
  StandsHere = Stands (filled t p Left) (filled t p Right) p.partners

  -- ── The registers that stand for numbers hold different ones ──

  stands_holds : (σ : Side) (i : ℕ) → StandsHere σ i → HoldsAt t s σ i (number σ i)
  stands_holds Left i h = record { filled = rw (← o.states Left) h.0; holds = refl }
  stands_holds Right j h = record { filled = rw (← o.states Right) h.0; holds = refl }

  across : (i j : ℕ) → StandsHere Left i → StandsHere Right j → number Left i ≡ number Right j → ⊥
  unfolding partner
  across i j h k e =
      not_unpartnered r t s p o Right j i (number Right j) (stands_holds Right j k) (rw e at (stands_holds Left i h)) k.1

  apart : (σ ρ : Side) (i j : ℕ) → StandsHere σ i → StandsHere ρ j → number σ i ≡ number ρ j → (σ ≡ ρ) × (i ≡ j)
  apart Left Left i j h k e =
      (refl, o.setting.left.distinct i j _ (rw e at (stands_holds Left i h)) (stands_holds Left j k))
  apart Left Right i j h k e = absurd (across i j h k e)
  apart Right Left i j h k e = absurd (across j i k h (sym e))
  apart Right Right i j h k e =
      (refl, o.setting.right.distinct i j _ (rw e at (stands_holds Right i h)) (stands_holds Right j k))

  -- ── They hold all numbers that are held ──

  numbers : List ℕ
  numbers = map (λ x. number x.0 x.1) (standing (filled t p Left) (filled t p Right) p.partners)

  numbers-length : length numbers ≡ held t p
  unfolding numbers
  numbers-length = rw length-map (standing-length (filled t p Left) (filled t p Right) p.partners)

  stands_listed : (σ : Side) (i n : ℕ) → HoldsAt t s σ i n → StandsHere σ i → n ∈ numbers
  unfolding numbers
  stands_listed σ i n a h =
      Memᴰ.cast (sym a.holds)
      (Memᴰ.map (λ (x : Side × ℕ). number x.0 x.1)
      (standing_intro (filled t p Left) (filled t p Right) p.partners σ i h))

  left-listed : (i n : ℕ) → HoldsAt t s Left i n → n ∈ numbers
  left-listed i n a =
      stands_listed Left i n a (rw (o.states Left) a.filled, rw o.long (registers r t s p o v Left i n a).1)

  listed : (σ : Side) (i n : ℕ) → HoldsAt t s σ i n → n ∈ numbers
  unfolding partner
  listed Left i n a = left-listed i n a
  listed Right j n a = step (left_partner 1 p.partners j) refl
    where
      step : (k : ℕ) → left_partner 1 p.partners j ≡ k → n ∈ numbers
      step zero e =
          stands_listed Right j n a
          (rw (o.states Right) a.filled, e, rw o.long (registers r t s p o v Right j n a).1)
      step (suc k) e = left-listed (suc k) n (partner-holds r t s p o Right j n k a e)

  -- ── Room ──

  free_number : held t p < length s.history → (n : ℕ) × Free t s n
  free_number h =
      let (n, seen, out) = pigeonhole s.history numbers o.setting.history (rw numbers-length h) in
      (n, (seen, λ σ i a. out (listed σ i n a)))

  -- without a number that is free, the history still has all that are held
  held_below : (n : ℕ) → Free t s n → held t p < length s.history
  held_below n (seen, lacks) =
      let (rest, picked, others) = picks_intro seen in
      let long = picks-rest s.history (n, rest) picked in
      let few =
      held-at-most (filled t p Left) (filled t p Right) p.partners number rest apart
      (λ σ i h.
      let holds = stands_holds σ i h in
      others (number σ i) ((placed t s o.setting σ).seen i (number σ i) holds) (λ e. lacks σ i (rw e at holds))) in
      omega arith

  -- at most 2r numbers are held, so that the position's size tells whether the history has more
  pub room_iff_free : (has_room t p ≡ true) ↔ ((n : ℕ) × Free t s n)
  unfolding has_room
  room_iff_free = (
    λ h. free_number (below.0 (ltb-true (held t p) p.history h)),
    λ (n, free). lt-ltb (held t p) p.history (below.1 (held_below n free)),
  )
    where
      below : (held t p < p.history) ↔ (held t p < length s.history)
      below =
          below-size o.sized (held t p) (rw (← o.long) (held-most (filled t p Left) (filled t p Right) p.partners))
