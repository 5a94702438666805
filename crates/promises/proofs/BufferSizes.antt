-- The promises on how much to lend: how long a certificate is at most, and with how many entries and bytes 11 and 12 are never met.
-- Assumes nothing.
use Prim.Native.Nat.{ℕ, ◌*◌, ◌-◌, ◌/◌, ◌≤◌}
use mathlib.Core.Path.{◌≡◌, refl, sym, subst}
use mathlib.Core.Logic.{inl, inr, ⊎_elim, ◌≢◌}
use mathlib.Core.List.{List}
use native.Mathlib.Omega.{arith}
use lib.ListN.{length, length-map}
use Rattle.fra.specs.Reach.{Reached}
use Rattle.fra.specs.Valid.{Valid}
use Rattle.fra.specs.declared.Task.{Task}
use Rattle.fra_laws.proofs.Reached.{reached_longest}
use Rattle.task.specs.TaskFile.{task_of, IsRead, max_registers}
use Rattle.task_laws.proofs.ReadValid.{read-valid}
use Rattle.task_laws.proofs.ReadAnswers.{turned_back_apart, read_answer}
use Rattle.outcome.specs.Verdicts.{Contest, Values, kind_of}
use Rattle.outcome.specs.Certificate.{place_of}
use Rattle.outcome.specs.Compare.{capacity}
use Rattle.outcome.specs.Listed.{Counted, LossesWritten}
use Rattle.outcome.specs.Refusals.{ComparerRefuses}
use Rattle.outcome_laws.proofs.CertificateLengths.{kept-length, losses-length}
use Rattle.outcome_laws.proofs.RecordCounts.{LostReached, lost-counted, lost_few, kept_few, losses_few, never_too_long}
use Rattle.promises.specs.Promises.{BufferSizes, returned, certificate_left}
use Rattle.promises.proofs.Support.{count_most}
use Rattle.promises.proofs.ComparerPromises.{verdict-read, refuses-exactly, refusal_returns, answers, counts, kept_leaves, lost_leaves, certificate_front}

module _ (c : Contest) (kinds_differ : kind_of c.kept ≢ kind_of c.lost) (file table buffer : List ℕ) where
  abbrev r : Values
  r = returned c file table buffer

  abbrev t : Task
  t = task_of file

  valid : IsRead file → Valid max_registers t
  valid read = read-valid file (read_answer file read)

  -- ── The certificate ──

  module _ (given : r.refusal ≡ 0) where
    abbrev read : Valid max_registers t
    read = valid (verdict-read c kinds_differ file table buffer given)

    abbrev reached-count : Counted (Reached c.rules t) r.positions
    reached-count = counts c kinds_differ file table buffer given

    kept_at-most : r.verdict ≡ kind_of c.kept → r.length ≤ 10 * r.positions
    kept_at-most v =
        let (z, written, w, long, left) = kept_leaves c kinds_differ file table buffer given v in
        let size = kept-length read c refl refl w in
        let few = kept_few w reached-count in
        omega arith

    lost_at-most : r.verdict ≡ kind_of c.lost → r.length ≤ 17 * r.positions
    lost_at-most v =
        let (written, w, long, left) = lost_leaves c kinds_differ file table buffer given v in
        let (n, counted) = lost-counted read c.rules in
        let size = losses-length read c refl refl w in
        let few = losses_few w counted in
        let most = lost_few c.rules t counted reached-count in
        omega arith

    within-lost : r.verdict ≡ kind_of c.lost
        → (w : LossesWritten c t (certificate_left c file table buffer))
        × (n : ℕ) × Counted (LostReached c.rules t) n
        × (length w.losses ≤ n)
    within-lost v =
        let (written, w, long, left) = lost_leaves c kinds_differ file table buffer given v in
        let whole = subst (LossesWritten c t) (sym (certificate_front c kinds_differ file table buffer written long left)) w in
        let (n, counted) = lost-counted read c.rules in
        let few = losses_few whole counted in
        (whole, n, counted, rw (← length-map whole.losses place_of) few)

  at_most : r.length ≤ 17 * r.positions
  at_most =
      ⊎_elim (λ (given, v). let most = kept_at-most given v in omega arith)
      (⊎_elim (λ (given, v). lost_at-most given v)
      (λ refused. rw (refusal_returns c kinds_differ file table buffer r.refusal refused refl) (omega arith)))
      (answers c kinds_differ file table buffer)

  -- ── What is never met ──

  never_12 : 17 * (length table / 13) ≤ length buffer → r.refusal ≢ 12
  unfolding ComparerRefuses
  never_12 lent e = by ((refuses-exactly c kinds_differ file table buffer 12 (omega arith)).0 e)
    where
      by : ComparerRefuses c file table buffer 12 → ⊥
      by (inl back) = ⊎_elim (λ few. omega arith) (λ many. omega arith) (turned_back_apart 12 file back)
      by (inr (read, inl (d, small))) = omega arith
      by (inr (read, inr (d, fits, long))) = never_too_long table buffer lent fits long

  never_11 : (14 - t.start.history) * 3411712 ≤ length table / 13 → r.refusal ≢ 11
  unfolding ComparerRefuses capacity
  never_11 lent e = by ((refuses-exactly c kinds_differ file table buffer 11 (omega arith)).0 e)
    where
      by : ComparerRefuses c file table buffer 11 → ⊥
      by (inl back) = ⊎_elim (λ few. omega arith) (λ many. omega arith) (turned_back_apart 11 file back)
      by (inr (read, inl (d, small))) =
          let most = count_most c.rules file (read_answer file read) in
          let longest = reached_longest (valid read) c.rules small.positions small.unique small.all-reached in
          omega (arith, small.more)
      by (inr (read, inr (d, fits, long))) = omega arith

pub buffer-sizes : (c : Contest) → kind_of c.kept ≢ kind_of c.lost → BufferSizes c
buffer-sizes c kinds_differ =
    record {
      length-at-most = at_most c kinds_differ;
      kept_length-at-most = λ file table buffer gives. kept_at-most c kinds_differ file table buffer gives.0 gives.1;
      buffer_is_enough = never_12 c kinds_differ;
      table_is_enough = never_11 c kinds_differ;
      records-within-lost = λ file table buffer gives. within-lost c kinds_differ file table buffer gives.0 gives.1;
    }
