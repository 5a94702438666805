-- The outcome of a comparison, case by case: 11, 12 or a verdict, and what each says. Assumes nothing.
use Prim.Native.Nat.{ℕ, suc, ◌≤◌, ◌<◌}
use Rattle.std.specs.Prelude.{Ok, Err, Option, None, Some}
use mathlib.Core.Path.{◌≡◌, refl, sym, ◌∙◌, ap}
use mathlib.Core.Logic.{◌⊎◌, inl, inr, ◌↔◌}
use mathlib.Core.Bool.{Bool, true, false}
use mathlib.Core.List.{List}
use native.Mathlib.Omega.{arith}
use lib.ListN.{length}
use lib.Dec.{ltb}
use borrow.Author.Tests.{ltb-true, ltb-false}
use Rattle.fra.specs.Reach.{reached, rounds}
use Rattle.fra.specs.Valid.{Valid}
use Rattle.fra.specs.declared.Task.{Task}
use Rattle.fra_laws.proofs.Tests.{clash}
use Rattle.fra_laws.proofs.Reached.{reached-exactly, reached-unique, reached_longest}
use Rattle.outcome.specs.Bytes.{cleared, then_zeros, then_rest}
use Rattle.outcome.specs.Verdicts.{Contest, width_of}
use Rattle.outcome.specs.Certificate.{entries, certificate_by}
use Rattle.outcome.specs.Compare.{Outcome, capacity, decided, refused_late, judge, compare_task}
use Rattle.outcome.specs.Check.{kept_length, loss_length}
use Rattle.outcome.specs.declared.Standing.TheVariants.{Kept, Lost}
use Rattle.outcome.specs.declared.Comparison.{Comparison}
use Rattle.task.specs.declared.Refusal.{Refusal}
use Rattle.outcome.specs.declared.Verdict.{Verdict}
use Rattle.outcome.specs.Refusals.{TableTooSmall, CertificateTooLong}
use Rattle.outcome_laws.proofs.CertificateLengths.{too_long-exactly}

module _ (c : Contest) (t : Task) (table buffer : List ℕ) where
  -- the start's rounds, and the certificate
  abbrev start : Option ℕ
  start = rounds c.rules t t.start

  abbrev written : List ℕ
  written = certificate_by c t start

  abbrev found : Outcome
  found =
      record {
        answer = Ok (decided c (length (reached c.rules t)) start (length written));
        table = then_zeros (entries c.rules t) table;
        certificate = then_rest written buffer;
      }

  pub data Compared : Outcome → Type 0 where
    too_small : capacity table < length (reached c.rules t) → Compared (refused_late Refusal.TableTooSmall table buffer)
    too_long_lem : length (reached c.rules t) ≤ capacity table → length buffer < length written
        → Compared (refused_late Refusal.BufferTooSmall table buffer)
    verdict : length (reached c.rules t) ≤ capacity table → length written ≤ length buffer → Compared found

  pub compared : Compared (compare_task c t table buffer)
  unfolding compare_task judge
  compared = by_table (ltb (capacity table) (length (reached c.rules t))) refl
    where
      by_buffer : length (reached c.rules t) ≤ capacity table → (b : Bool) → ltb (length buffer) (length written) ≡ b
          → Compared (judge c t table buffer)
      by_buffer h true e = rw (e, judge) (too_long_lem h (ltb-true (length buffer) (length written) e))
      by_buffer h false e = rw (e, judge) (verdict h (ltb-false (length buffer) (length written) e))

      by_table : (b : Bool) → ltb (capacity table) (length (reached c.rules t)) ≡ b
          → Compared (compare_task c t table buffer)
      by_table true e = rw (e, compare_task) (too_small (ltb-true (capacity table) (length (reached c.rules t)) e))
      by_table false e =
          rw (e, compare_task)
          (by_buffer (ltb-false (capacity table) (length (reached c.rules t)) e) (ltb (length buffer) (length written)) refl)

  -- ── What a verdict says ──

  -- the numbers of a verdict, what it says of the start, and what the buffers hold
  pub record Says (v : Verdict) (positions n size : ℕ) : Type 0 where
    pub count : positions ≡ length (reached c.rules t)
    pub bytes : size ≡ length written
    pub start : ((v ≡ c.kept) × (start ≡ None) × (n ≡ 0)) ⊎ (v ≡ c.lost) × (start ≡ Some n)
    pub fits : size ≤ length buffer
    pub outcome : compare_task c t table buffer ≡ found

  decided_says : (v : Verdict) (positions n size : ℕ) (o : Option ℕ) → start ≡ o
      → decided c (length (reached c.rules t)) o (length written) ≡ record { verdict = v; positions = positions; rounds = n; length = size }
      → length written ≤ length buffer
      → compare_task c t table buffer ≡ found
      → Says v positions n size
  unfolding decided
  decided_says v positions n size None e d l f =
      let long = sym (ap (λ (a : Comparison). a.length) d) in
      record {
        count = sym (ap (λ (a : Comparison). a.positions) d);
        bytes = long;
        start = inl (sym (ap (λ (a : Comparison). a.verdict) d), e, sym (ap (λ (a : Comparison). a.rounds) d));
        fits = omega arith;
        outcome = f;
      }
  decided_says v positions n size (Some k) e d l f =
      let long = sym (ap (λ (a : Comparison). a.length) d) in
      let least = ap (λ (a : Comparison). a.rounds) d in
      record {
        count = sym (ap (λ (a : Comparison). a.positions) d);
        bytes = long;
        start = inr (sym (ap (λ (a : Comparison). a.verdict) d), e ∙ ap {B = Option ℕ} Some least);
        fits = omega arith;
        outcome = f;
      }

  pub verdict_says : (v : Verdict) (positions n size : ℕ)
      → (compare_task c t table buffer).answer ≡ Ok (record { verdict = v; positions = positions; rounds = n; length = size })
      → Says v positions n size
  unfolding refused_late
  verdict_says v positions n size = by compared refl
    where
      by : {o : Outcome} → Compared o → compare_task c t table buffer ≡ o → o.answer ≡ Ok (record { verdict = v; positions = positions; rounds = n; length = size })
          → Says v positions n size
      by (too_small h) f e = clash (cc)
      by (too_long_lem h l) f e = clash (cc)
      by (verdict h l) f e = decided_says v positions n size start refl (cc) l f

  -- ── Refusals 11 and 12, each in its case ──

  -- both fill the table with zeros and leave the certificate buffer
  pub late_outcome : (e : Refusal) → (compare_task c t table buffer).answer ≡ Err e
      → compare_task c t table buffer ≡ record { answer = Err e; table = cleared table; certificate = buffer }
  unfolding refused_late
  late_outcome e = by compared
    where
      late : (f : Refusal) → f ≡ e
          → ◌≡◌ {A = Outcome}
          (record { answer = Err f; table = cleared table; certificate = buffer })
          (record { answer = Err e; table = cleared table; certificate = buffer })
      late f d = ap (λ (x : Refusal). record { answer = Err x; table = cleared table; certificate = buffer }) d

      by : {o : Outcome} → Compared o → o.answer ≡ Err e
          → o ≡ record { answer = Err e; table = cleared table; certificate = buffer }
      by (too_small h) d = late Refusal.TableTooSmall (cc)
      by (too_long_lem h l) d = late Refusal.BufferTooSmall (cc)
      by (verdict h l) d = clash (cc)

  module _ {r : ℕ} (valid : Valid r t) where
    pub too_small-exactly : (capacity table < length (reached c.rules t)) ↔ TableTooSmall c.rules t table
    too_small-exactly = (
      λ h.
          record {
            positions = reached c.rules t;
            unique = reached-unique valid c.rules;
            all-reached = λ p. (reached-exactly valid c.rules p).0;
            more = h;
          },
      λ h.
          let b = reached_longest valid c.rules h.positions h.unique h.all-reached in
          omega (arith, h.more),
    )

    -- the cases of 11 and 12
    abbrev pub Late : Refusal → Type 0
    Late e =
        ((e ≡ Refusal.TableTooSmall) × TableTooSmall c.rules t table)
        ⊎ (e ≡ Refusal.BufferTooSmall) × (TableTooSmall c.rules t table → ⊥) × CertificateTooLong c.rules t buffer

    -- where records are as wide as those of r registers
    pub refused-exactly : width_of Kept ≡ suc (kept_length r) → width_of Lost ≡ suc (loss_length r)
        → (e : Refusal) → ((compare_task c t table buffer).answer ≡ Err e) ↔ Late e
    unfolding refused_late
    refused-exactly kept_wide lost_wide e = (to compared, from compared)
      where
        long-exactly : CertificateTooLong c.rules t buffer ↔ (length buffer < length written)
        long-exactly = too_long-exactly valid c kept_wide lost_wide buffer

        to : {o : Outcome} → Compared o → o.answer ≡ Err e → Late e
        to (too_small h) f = let d : e ≡ Refusal.TableTooSmall = cc in inl (d, too_small-exactly.0 h)
        to (too_long_lem h l) f =
            let d : e ≡ Refusal.BufferTooSmall = cc in
            inr (d, λ small. let s = too_small-exactly.1 small in omega arith, long-exactly.1 l)
        to (verdict h l) f = clash (cc)

        from : {o : Outcome} → Compared o → Late e → o.answer ≡ Err e
        from (too_small h) (inl (d, small)) = cc
        from (too_small h) (inr (d, fits, long)) = absurd (fits (too_small-exactly.0 h))
        from (too_long_lem h l) (inl (d, small)) = let s = too_small-exactly.1 small in absurd (omega arith)
        from (too_long_lem h l) (inr (d, fits, long)) = cc
        from (verdict h l) (inl (d, small)) = let s = too_small-exactly.1 small in absurd (omega arith)
        from (verdict h l) (inr (d, fits, long)) = let s = long-exactly.0 long in absurd (omega arith)
