-- The checker's answer to a certificate, by its first byte, is that from the records by their places. Assumes nothing.
use Prim.Native.Nat.{ℕ, suc, ◌<◌}
use mathlib.Core.Path.{◌≡◌, refl, sym, ◌∙◌}
use mathlib.Core.Logic.{◌≢◌}
use mathlib.Core.Bool.{false}
use mathlib.Core.List.{List, [], ◌∷◌, map-map}
use Rattle.std.specs.Prelude.{Option, None, Some, Err}
use native.Mathlib.Omega.{arith}
use lib.ListN.{length, get_or}
use borrow.Author.Tests.{eq-eqb, ne_eqb}
use Rattle.fra.specs.declared.Task.{Task}
use Rattle.fra.specs.declared.Game.{Game}
use Rattle.fra.specs.declared.Game.TheVariants.{BothAttack, LeftAttacks}
use Rattle.outcome.specs.Certificate.{Loss}
use Rattle.outcome.specs.Check.{loss_from, kept_length, loss_length, bodies, judge_list, check_kept, check_losses, check_task}
use Rattle.outcome.specs.Refusals.{records}
use Rattle.outcome.specs.Verdicts.{contest_of, verdict_of, kind_of}
use Rattle.task.specs.declared.Refusal.TheVariants.{Malformed, NotAccepted}
use Rattle.outcome.specs.declared.Standing.TheVariants.{Kept, Lost}
use Rattle.outcome_laws.proofs.Bodies.{Whole, bodies-some, bodies_none}
use Rattle.listing.specs.Widths.{lost_rounds}
use Rattle.checker_laws.specs.CertificateRecords.{formed}
use Rattle.checker_laws.specs.CheckAnswers.{list_answer}
use Rattle.checker_laws.proofs.RecordBodies.{whole_in, positions-read, losses-read}
use Rattle.checker_laws.proofs.CertificateForm.{formed-whole, formed_stops}

-- bytes are whole records of a kind, or they are read as none and are not well formed
data Splits (t : Task) (kind size rounds : ℕ) (l : List ℕ) : Option (List (List ℕ)) → Type 0 where
  whole : (bs : List (List ℕ)) → Whole size bs → l ≡ records kind bs → Splits t kind size rounds l (Some bs)
  broken : formed t kind (whole_in size rounds l) l ≡ false → Splits t kind size rounds l None

splits : (t : Task) (kind size rounds : ℕ) (l : List ℕ) → Splits t kind size rounds l (bodies kind size (suc (length l)) l)
splits t kind size rounds l = step (bodies kind size (suc (length l)) l) refl
  where
    step : (o : Option (List (List ℕ))) → bodies kind size (suc (length l)) l ≡ o → Splits t kind size rounds l o
    step (Some bs) e = let (f, w) = (bodies-some kind size (suc (length l)) l (omega arith) bs).0 e in whole bs w f
    step None e =
        let (bs, b, rest, w, f, s) = bodies_none kind size (suc (length l)) l (omega arith) e in
        broken (rw f (formed_stops t kind size rounds bs w b rest s))

module _ (g : Game) (t : Task) (l : List ℕ) where
  kept-answer : (o : Option (List (List ℕ))) → Splits t (kind_of (verdict_of g Kept)) (kept_length 6) 0 l o
      → check_kept 6 (contest_of g) t o ≡ list_answer g t Kept l
  unfolding check_kept judge_list
  kept-answer o (whole bs w e) =
      rw (
        e,
        formed-whole t (kind_of (verdict_of g Kept)) (kept_length 6) 0 bs w,
        positions-read (kind_of (verdict_of g Kept)) (kept_length 6) bs w 0 (omega arith),
      )
  kept-answer o (broken e) = rw e

  loss_answer : (o : Option (List (List ℕ))) → Splits t (kind_of (verdict_of g Lost)) (loss_length 6) lost_rounds l o
      → check_losses 6 (contest_of g) t o ≡ list_answer g t Lost l
  unfolding check_losses judge_list loss_from
  loss_answer o (whole bs w e) =
      rw (
        e,
        formed-whole t (kind_of (verdict_of g Lost)) (loss_length 6) lost_rounds bs w,
        positions-read (kind_of (verdict_of g Lost)) (loss_length 6) bs w lost_rounds (omega arith),
        losses-read (kind_of (verdict_of g Lost)) bs w,
        map-map (λ (x : Loss). x.position) (loss_from 6) bs,
      )
  loss_answer o (broken e) = rw e

-- ── By the first byte ──

kinds_apart : (g : Game) → kind_of (verdict_of g Kept) ≢ kind_of (verdict_of g Lost)
kinds_apart BothAttack e = omega arith
kinds_apart LeftAttacks e = omega arith

module _ (g : Game) (t : Task) where
  pub answer-empty : (l : List ℕ) → length l ≡ 0 → check_task 6 (contest_of g) t l ≡ Err NotAccepted
  unfolding check_task
  answer-empty [] e = refl
  answer-empty (b ∷ l) e = absurd (omega arith)

  pub answer-kept : (l : List ℕ) → 0 < length l → get_or l 0 0 ≡ kind_of (verdict_of g Kept)
      → check_task 6 (contest_of g) t l ≡ list_answer g t Kept l
  unfolding check_task
  answer-kept [] p e = absurd (omega arith)
  answer-kept (b ∷ l) p e =
      let k = kind_of (verdict_of g Kept) in
      rw (eq-eqb b k e, check_task, e) (kept-answer g t (k ∷ l) _ (splits t k (kept_length 6) 0 (k ∷ l)))

  pub answer-lost : (l : List ℕ) → 0 < length l → get_or l 0 0 ≡ kind_of (verdict_of g Lost)
      → check_task 6 (contest_of g) t l ≡ list_answer g t Lost l
  unfolding check_task
  answer-lost [] p e = absurd (omega arith)
  answer-lost (b ∷ l) p e =
      let k = kind_of (verdict_of g Lost) in
      rw (ne_eqb b (kind_of (verdict_of g Kept)) (λ f. kinds_apart g (sym f ∙ e)), eq-eqb b k e, check_task, e)
      (loss_answer g t (k ∷ l) _ (splits t k (loss_length 6) lost_rounds (k ∷ l)))

  pub answer-unknown : (l : List ℕ) → 0 < length l → get_or l 0 0 ≢ kind_of (verdict_of g Kept) → get_or l 0 0 ≢ kind_of (verdict_of g Lost)
      → check_task 6 (contest_of g) t l ≡ Err Malformed
  unfolding check_task
  answer-unknown [] p e d = absurd (omega arith)
  answer-unknown (b ∷ l) p e d = rw (ne_eqb b (kind_of (verdict_of g Kept)) e, ne_eqb b (kind_of (verdict_of g Lost)) d, check_task)
