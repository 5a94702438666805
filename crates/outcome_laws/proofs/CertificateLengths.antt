-- How long a certificate is, and that it is longer than a buffer exactly in the case that 01 names for refusal 12. For any register
-- count, and any contest whose records are as wide as those of so many registers. Assumes nothing.
use Prim.Native.Nat.{ℕ, suc, ◌*◌, ◌<◌}
use mathlib.Core.Path.{◌≡◌, refl, ◌∙◌, ap}
use mathlib.Core.Logic.{◌↔◌}
use mathlib.Core.List.Memᴰ
use mathlib.Core.List.{List, map}
use Rattle.std.specs.Prelude.{Option, None, Some}
use native.Mathlib.Nat.{mul-le-mul_right}
use native.Mathlib.Omega.{arith}
use lib.ListN.{length, length-map}
use Rattle.fra.specs.Lists.{◌∈◌, Unique}
use Rattle.fra.specs.Rules.{Rules}
use Rattle.fra.specs.Game.{NeverLost, HasRank}
use Rattle.fra.specs.Reach.{reached, rounds}
use Rattle.fra.specs.Valid.{Valid}
use Rattle.fra.specs.declared.Position.{Position}
use Rattle.fra.specs.declared.Task.{Task}
use Rattle.fra_laws.proofs.Tests.{not_both}
use Rattle.fra_laws.proofs.Lengths.{flat_map-length, unique-length}
use Rattle.fra_laws.proofs.Closure.{rising-unique}
use Rattle.fra_laws.proofs.Legal.{legal_facts}
use Rattle.fra_laws.proofs.Reached.{reached-exactly, reached-legal}
use Rattle.outcome.specs.Verdicts.{Contest, kind_of, width_of}
use Rattle.outcome.specs.Certificate.{kept_record, place_of, loss_record, certificate_by}
use Rattle.outcome.specs.Check.{kept_length, loss_length}
use Rattle.outcome.specs.Listed.{KeptWritten, LossesWritten}
use Rattle.outcome.specs.Refusals.{CertificateTooLong, kept-too_long, lost-too_long}
use Rattle.outcome.specs.declared.Standing.TheVariants.{Kept, Lost}
use Rattle.outcome_laws.proofs.Encoding.{position-length, loss_length_lem}
use Rattle.outcome_laws.proofs.WrittenLists.{rounds_never, rounds-least, led_reached}
use Rattle.outcome_laws.proofs.LeftBehind.{kept-left, losses-left}

-- the records of a list that holds all positions of some kind need as many bytes as those of any other, or more
outnumbered : {P : Position → Type 0} (l : List Position) → ((p : Position) → P p → p ∈ l)
    → (width size : ℕ) (positions : List Position) → Unique positions → ((p : Position) → p ∈ positions → P p)
    → size < length positions * width
    → size < length l * width
outnumbered l has width size positions u h more =
    let b = mul-le-mul_right width (unique-length positions l u (λ p m. has p (h p m))) in omega arith

module _ {r : ℕ} {t : Task} (valid : Valid r t) (c : Contest) where
  abbrev g : Rules
  g = c.rules

  partners-long : (p : Position) → p ∈ reached g t → length p.partners ≡ r
  partners-long p m = (legal_facts r t p (reached-legal valid g p m)).long

  module _ (kept_wide : width_of Kept ≡ suc (kept_length r)) (lost_wide : width_of Lost ≡ suc (loss_length r)) where
    -- the bytes of each certificate: as many records of one width as it lists positions
    pub kept-length : {written : List ℕ} (w : KeptWritten c t written) → length written ≡ length w.positions * width_of Kept
    unfolding kept_record
    kept-length w =
        ap length w.encoded
        ∙ flat_map-length (kept_record (kind_of c.kept)) w.positions (width_of Kept)
        (λ p m.
        let b = position-length r p (partners-long p ((reached-exactly valid g p).1 ((w.exactly p).0 m).0)) in omega arith)

    pub losses-length : {written : List ℕ} (w : LossesWritten c t written)
        → length written ≡ length (map place_of w.losses) * width_of Lost
    unfolding loss_record
    losses-length w =
        ap length w.encoded
        ∙ flat_map-length (loss_record (kind_of c.lost)) w.losses (width_of Lost)
        (λ x m.
        let led = (w.exactly x.position).0 (Memᴰ.map place_of m) in
        let b = loss_length_lem r x (partners-long x.position (led_reached valid g led)) in omega arith)
        ∙ rw (length-map w.losses place_of)

    -- refusal 12 in its case
    pub too_long-exactly : (buffer : List ℕ)
        → CertificateTooLong c.rules t buffer ↔ (length buffer < length (certificate_by c t (rounds g t t.start)))
    too_long-exactly buffer = by (rounds g t t.start) refl
      where
        by : (o : Option ℕ) → rounds g t t.start ≡ o
            → CertificateTooLong c.rules t buffer ↔ (length buffer < length (certificate_by c t (rounds g t t.start)))
        by None e = rw (e, kept-length w) (to, from)
          where
            w : KeptWritten c t (certificate_by c t None)
            w = kept-left valid c

            never : NeverLost g t t.start
            never = (rounds_never valid g).0 e

            to : CertificateTooLong c.rules t buffer → length buffer < length w.positions * width_of Kept
            to (kept-too_long _ positions u h more) =
                outnumbered w.positions (λ p. (w.exactly p).1) (width_of Kept) (length buffer) positions u h more
            to (lost-too_long (n, lost) positions u h more) = absurd (not_both _ lost (never n))

            from : length buffer < length w.positions * width_of Kept → CertificateTooLong c.rules t buffer
            from more = kept-too_long never w.positions (rising-unique w.positions w.rising) (λ p. (w.exactly p).0) more
        by (Some n) e = rw (e, losses-length w) (to, from)
          where
            has-rank : HasRank g t t.start n
            has-rank = (rounds-least valid g n e).0

            w : LossesWritten c t (certificate_by c t (Some n))
            w = losses-left valid c n has-rank

            to : CertificateTooLong c.rules t buffer → length buffer < length (map place_of w.losses) * width_of Lost
            to (kept-too_long never positions u h more) = absurd (not_both _ has-rank.lost (never n))
            to (lost-too_long _ positions u h more) =
                outnumbered (map place_of w.losses) (λ p. (w.exactly p).1) (width_of Lost) (length buffer) positions u h more

            from : length buffer < length (map place_of w.losses) * width_of Lost → CertificateTooLong c.rules t buffer
            from more =
                lost-too_long (n, has-rank.lost) (map place_of w.losses) (rising-unique (map place_of w.losses) w.rising)
                (λ p. (w.exactly p).0) more
