-- The place that is looked up decides whether a position is listed and, of losses, with which rounds and with how few; by it and
-- by the records one after the other a list is accepted. Assumes nothing.
use Prim.Native.Nat.{ℕ, zero, suc}
use mathlib.Core.Path.{◌≡◌, refl, sym, ◌∙◌, ap, ap₂}
use mathlib.Core.Bool.{Bool, true, false, ◌&&◌, ◌||◌}
use mathlib.Core.List.Memᴰ
use mathlib.Core.List.{List, [], ◌∷◌, map}
use Rattle.std.specs.Prelude.{Option, None, Some, is_some}
use lib.ListN.{length}
use lib.Dec.{ltb}
use Rattle.fra.specs.Lists.{any, all, count}
use Rattle.fra.specs.Rules.{Rules}
use Rattle.fra.specs.Position.{before, Rising}
use Rattle.fra.specs.declared.Position.{Position}
use Rattle.fra.specs.declared.Task.{Task}
use Rattle.fra_laws.proofs.Tests.{and_left, fails_unless, not_both}
use Rattle.fra_laws.proofs.Lists.{any_witness, all_map}
use Rattle.fra_laws.proofs.Order.{before_irreflexive}
use Rattle.outcome.specs.Certificate.{Loss}
use Rattle.outcome.specs.Check.{same, holds, kept_accepted, loss_holds, losses_accepted, start_rounds}
use Rattle.outcome.specs.declared.Standing.{Standing}
use Rattle.outcome.specs.declared.Standing.TheVariants.{Kept, Lost}
use Rattle.outcome_laws.proofs.Accepted.{same_passes}
use Rattle.listing.specs.Listing.{position_at, rounds_at, positions_in, Searchable}
use Rattle.listing.specs.Lookup.{place_from, place_of}
use Rattle.checker_laws.specs.CertificateRecords.{records_of, kept_in, loss_at, losses_in}
use Rattle.checker_laws.specs.CheckAnswers.{record_holds, accepted_by}

any-map : {A B : Type 0} (f : B → Bool) (g : A → B) (l : List A) → any f (map g l) ≡ any (λ x. f (g x)) l
unfolding any
any-map f g [] = refl
any-map f g (x ∷ l) = ap (λ b. f (g x) || b) (any-map f g l)

-- ── Positions ──

pub position-listed : (p : Position) (l : List Position) → any (same p) l ≡ is_some (place_of p l)
unfolding any place_from
position-listed p l = from 0 l
  where
    from : (k : ℕ) (l : List Position) → any (same p) l ≡ is_some (place_from k p l)
    from k [] = refl
    from k (q ∷ l) = step (same p q) refl (from (suc k) l)
      where
        step : (b : Bool) → same p q ≡ b → any (same p) l ≡ is_some (place_from (suc k) p l)
            → any (same p) (q ∷ l) ≡ is_some (place_from k p (q ∷ l))
        step true e rest = rw (e, place_from)
        step false e rest = rw (e, place_from) rest

-- ── Losses ──

-- their positions
abbrev pub lost_in : List ℕ → List Position
lost_in l = positions_in (records_of Lost (length l)) l

-- the rounds that stand at a place
abbrev pub rounds_found : List ℕ → Option ℕ → ℕ
rounds_found l (Some i) = rounds_at (records_of Lost (length l)) l i
rounds_found l None = 0

-- fewer than n
abbrev pub sooner_found : List ℕ → ℕ → Option ℕ → Bool
sooner_found l n (Some i) = ltb (rounds_at (records_of Lost (length l)) l i) n
sooner_found l n None = false

module _ (l : List ℕ) where
  -- the positions of the losses from record k on
  abbrev positions_from : ℕ → ℕ → List Position
  positions_from k n = map (position_at (records_of Lost (length l)) l) (count k n)

  pub loss_listed : (p : Position) → any (λ x. same p x.position) (losses_in l) ≡ is_some (place_of p (lost_in l))
  unfolding losses_in positions_in loss_at
  loss_listed p =
      let c = count 0 (records_of Lost (length l)).count in
      any-map (λ (x : Loss). same p x.position) (loss_at l) c
      ∙ sym (any-map (same p) (position_at (records_of Lost (length l)) l) c)
      ∙ position-listed p (lost_in l)

  pub start-rounds : (t : Task) → start_rounds t (losses_in l) ≡ rounds_found l (place_of t.start (lost_in l))
  unfolding losses_in positions_in start_rounds place_from count loss_at
  start-rounds t = from 0 (records_of Lost (length l)).count
    where
      from : (k n : ℕ) → start_rounds t (map (loss_at l) (count k n)) ≡ rounds_found l (place_from k t.start (positions_from k n))
      from k zero = refl
      from k (suc n) = step (same t.start (loss_at l k).position) refl (from (suc k) n)
        where
          step : (b : Bool) → same t.start (loss_at l k).position ≡ b
              → start_rounds t (map (loss_at l) (count (suc k) n))
              ≡ rounds_found l (place_from (suc k) t.start (positions_from (suc k) n))
              → start_rounds t (map (loss_at l) (count k (suc n)))
              ≡ rounds_found l (place_from k t.start (positions_from k (suc n)))
          step true e rest = rw (e, start_rounds, place_from)
          step false e rest = rw (e, start_rounds, place_from) rest

  -- no position is listed twice
  pub loss_sooner : Searchable (records_of Lost (length l)) l → (p : Position) (n : ℕ)
      → any (λ x. same p x.position && ltb x.rounds n) (losses_in l) ≡ sooner_found l n (place_of p (lost_in l))
  unfolding losses_in positions_in any place_from count loss_at
  loss_sooner listed p n = from 0 (records_of Lost (length l)).count listed.rising
    where
      sooner : Loss → Bool
      sooner x = same p x.position && ltb x.rounds n

      from : (k m : ℕ) → Rising (positions_from k m)
          → any sooner (map (loss_at l) (count k m)) ≡ sooner_found l n (place_from k p (positions_from k m))
      from k zero rises = refl
      from k (suc m) rises = step (same p (loss_at l k).position) refl (from (suc k) m rises.1)
        where
          step : (b : Bool) → same p (loss_at l k).position ≡ b
              → any sooner (map (loss_at l) (count (suc k) m)) ≡ sooner_found l n (place_from (suc k) p (positions_from (suc k) m))
              → any sooner (map (loss_at l) (count k (suc m))) ≡ sooner_found l n (place_from k p (positions_from k (suc m)))
          step true e rest = rw (e, place_from) (alone (ltb (loss_at l k).rounds n))
            where
              later : any sooner (map (loss_at l) (count (suc k) m)) ≡ false
              later =
                  fails_unless _
                  (λ h.
                  let (x, among, passes) = any_witness sooner (map (loss_at l) (count (suc k) m)) h in
                  let (i, member, f) = Memᴰ.of_map (loss_at l) (count (suc k) m) among in
                  let here = (same_passes p (loss_at l k).position).0 e in
                  let there = (same_passes p x.position).0 (and_left _ _ passes) in
                  let above = rises.0 _ (Memᴰ.map (position_at (records_of Lost (length l)) l) member) in
                  not_both (before p p) (cc) (before_irreflexive p))

              alone : (b : Bool) → (b || any sooner (map (loss_at l) (count (suc k) m))) ≡ b
              alone true = refl
              alone false = later
          step false e rest = rw (e, place_from) rest

-- ── Acceptance ──

pub accepted_by-places : (g : Rules) (t : Task) (s : Standing) (l : List ℕ)
    → accepted_by g t s l
    ≡ (is_some (place_of t.start (positions_in (records_of s (length l)) l))
    && all (record_holds g t s l) (count 0 (records_of s (length l)).count))
unfolding kept_accepted losses_accepted positions_in losses_in
accepted_by-places g t Kept l =
    ap₂ ◌&&◌ (position-listed t.start (kept_in l))
    (all_map (holds g t (kept_in l)) (position_at (records_of Kept (length l)) l) _)
accepted_by-places g t Lost l =
    ap₂ ◌&&◌ (loss_listed l t.start) (all_map (loss_holds g t (losses_in l)) (loss_at l) _)
