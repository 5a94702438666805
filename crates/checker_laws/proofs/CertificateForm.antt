-- The test for form passes exactly on whole records of one kind whose positions are in order, and positions that pass it rise.
-- Assumes nothing.
use Prim.Native.Nat.{ℕ, zero, suc, ◌+◌, ◌-◌, ◌*◌, ◌%◌, ◌≤◌, ◌<◌}
use mathlib.Core.Path.{◌≡◌, refl, sym, ◌∙◌, ap}
use mathlib.Core.Logic.{inl, inr}
use mathlib.Core.Bool.{Bool, true, false, ◌&&◌}
use mathlib.Core.List.{List, [], ◌∷◌, ◌++◌, map}
use native.Mathlib.Nat.{suc-mul, mul-mod_left, mul-add-mod_self_right, mod-eq_of_lt, le-div_iff_mul-le}
use native.Mathlib.Omega.{arith}
use native.Mathlib.Decide.{dec_lt}
use lib.ListN.{length, get_or, length-append}
use lib.Seq.{get_or_at}
use lib.Dec.{eqb}
use borrow.Author.Tests.{eq-eqb, eqb-true}
use Rattle.fra.specs.Lists.{◌∈◌, all, count}
use Rattle.fra.specs.Position.{legal, before}
use Rattle.fra.specs.declared.Task.{Task}
use Rattle.fra_laws.proofs.Tests.{and_left, and_right, and_intro, fails_unless}
use Rattle.fra_laws.proofs.Lists.{all-at, all_intro, all_same, all_map, count_intro, count_elim}
use Rattle.outcome.specs.Check.{rising, orderly}
use Rattle.outcome.specs.Refusals.{records}
use Rattle.outcome.specs.declared.Standing.{Standing}
use Rattle.outcome.specs.declared.Standing.TheVariants.{Kept, Lost}
use Rattle.outcome_laws.proofs.Bodies.{Whole, Stops}
use Rattle.outcome_laws.proofs.Orderly.{orderly_passes}
use Rattle.listing.specs.Listing.{position_at, positions_in, Fitting, Searchable}
use Rattle.listing.specs.declared.Listing.{Listing}
use Rattle.checker_laws.specs.CertificateRecords.{records_of, rises_at, formed_at, formed}
use Rattle.checker_laws.proofs.RecordBodies.{whole_in, length-of-records, counted, kind_at}

-- all that pass one test and another
all_both : {A : Type 0} (f g : A → Bool) (l : List A) → all (λ x. f x && g x) l ≡ (all f l && all g l)
unfolding all
all_both f g [] = refl
all_both f g (x ∷ l) = rw (all_both f g l) (exchange (f x) (g x) (all f l) (all g l))
  where
    exchange : (a b c d : Bool) → ((a && b) && (c && d)) ≡ ((a && c) && (b && d))
    exchange true true c d = refl
    exchange true false true d = refl
    exchange true false false d = refl
    exchange false b c d = refl

-- the whole records of a certificate have room for their positions and rounds
pub records_fit : (s : Standing) (l : List ℕ) → Fitting (records_of s (length l)) l
records_fit Kept l = record { room = omega arith; position = omega arith; rounds = omega arith }
records_fit Lost l = record { room = omega arith; position = omega arith; rounds = omega arith }

-- ── Place by place ──

module _ (y : Listing) (l : List ℕ) where
  -- a record that is not the first comes after the one before it
  pub rises-after : (i : ℕ) → 0 < i → rises_at y l i ≡ before (position_at y l (i - 1)) (position_at y l i)
  unfolding rises_at
  rises-after zero h = absurd (omega arith)
  rises-after (suc i) h = let e : suc i - 1 ≡ i = omega arith in rw e

  -- positions rise if each comes after the one before it
  rising_by_places : (n : ℕ) → rising (map (position_at y l) (count 0 n)) ≡ all (rises_at y l) (count 0 n)
  unfolding rising all count rises_at
  rising_by_places zero = refl
  rising_by_places (suc n) = from 0 n
    where
      from : (k n : ℕ) → rising (map (position_at y l) (k ∷ count (suc k) n)) ≡ all (rises_at y l) (count (suc k) n)
      from k zero = refl
      from k (suc n) = ap (λ b. before (position_at y l k) (position_at y l (suc k)) && b) (from (suc k) n)

  module _ (t : Task) where
    -- legal positions that rise
    orderly_by_places : orderly 6 t (positions_in y l)
        ≡ all (λ i. legal 6 t (position_at y l i) && rises_at y l i) (count 0 y.count)
    unfolding orderly positions_in
    orderly_by_places =
        rw (
          all_map (legal 6 t) (position_at y l) (count 0 y.count),
          rising_by_places y.count,
          all_both (λ i. legal 6 t (position_at y l i)) (rises_at y l) (count 0 y.count),
        )

    module _ (kind : ℕ) (h : formed t kind y l ≡ true) where
      formed-at : (i : ℕ) → i ∈ count 0 y.count → formed_at t kind y l i ≡ true
      unfolding formed
      formed-at i m = all-at (formed_at t kind y l) (search and_right) m

      -- a position can be looked up in what passes
      pub formed-searchable : Fitting y l → Searchable y l
      unfolding formed_at
      formed-searchable fitting =
          let ordered : orderly 6 t (positions_in y l) ≡ true =
          rw orderly_by_places
          (all_intro _ (count 0 y.count) (λ i m. search (and_right, and_left, and_intro, formed-at i m))) in
          record { fitting = fitting; rising = ((orderly_passes 6 t (positions_in y l)).0 ordered).1 }

-- ── Whole records of one kind, and bytes that stop being such ──

module _ (t : Task) (kind size rounds : ℕ) (bs : List (List ℕ)) (w : Whole size bs) where
  -- of whole records the order decides
  pub formed-whole : formed t kind (whole_in size rounds (records kind bs)) (records kind bs)
      ≡ orderly 6 t (positions_in (whole_in size rounds (records kind bs)) (records kind bs))
  unfolding formed formed_at
  formed-whole =
      let l = records kind bs in
      let y = whole_in size rounds l in
      let e : length l % suc size ≡ 0 = rw (length-of-records kind size bs w) (mul-mod_left (length bs) (suc size)) in
      rw e
      (all_same (formed_at t kind y l) (λ i. legal 6 t (position_at y l i) && rises_at y l i) (count 0 y.count)
      (λ i m.
      let (_, below) = count_elim 0 y.count i m in
      let k = kind_at kind size bs w i (omega (arith, counted kind size bs w)) in
      rw (eq-eqb (get_or l (i * suc size) 0) kind k))
      ∙ sym (orderly_by_places y l t))

  -- where they stop is no record
  pub formed_stops : (b : ℕ) (rest : List ℕ) → Stops kind size b rest
      → formed t kind (whole_in size rounds (records kind bs ++ b ∷ rest)) (records kind bs ++ b ∷ rest) ≡ false
  unfolding formed formed_at
  formed_stops b rest s = fails_unless (formed t kind y l) (λ h. stop s (more h) (there h))
    where
      l : List ℕ
      l = records kind bs ++ b ∷ rest

      y : Listing
      y = whole_in size rounds l

      long : length l ≡ length bs * suc size + suc (length rest)
      long = length-append (records kind bs) (b ∷ rest) ∙ ap (λ n. n + suc (length rest)) (length-of-records kind size bs w)

      more : formed t kind y l ≡ true → size ≤ length rest
      more h = step (dec_lt (length rest) size)
        where
          step : Dec (length rest < size) → size ≤ length rest
          step (yes short) =
              let e : length l % suc size ≡ 0 = eqb-true (length l % suc size) 0 (search and_left) in
              let f = mul-add-mod_self_right (length bs) (suc size) (suc (length rest)) in
              let g : suc (length rest) % suc size ≡ suc (length rest) = mod-eq_of_lt (omega arith) in
              absurd (omega (arith, rw long at e))
          step (no n) = omega arith

      there : formed t kind y l ≡ true → size ≤ length rest → b ≡ kind
      there h m =
          let i : length bs < y.count =
          (le-div_iff_mul-le {k = suc size} (omega arith)).1 (rw (suc-mul (length bs) (suc size), long) (omega arith)) in
          let e = formed-at y l t kind h (length bs) (count_intro 0 y.count (length bs) (omega arith) (omega arith)) in
          let f : eqb (get_or l (length bs * suc size) 0) kind ≡ true = search and_left in
          sym (get_or_at (records kind bs) b rest 0 (length bs * suc size) (length-of-records kind size bs w))
          ∙ eqb-true (get_or l (length bs * suc size) 0) kind f

      stop : Stops kind size b rest → size ≤ length rest → (size ≤ length rest → b ≡ kind) → ⊥
      stop (inl n) m e = n (e m)
      stop (inr (_, short)) m e = omega arith
