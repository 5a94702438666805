-- The bytes of records, written part after part. Assumes nothing.
use Prim.Native.Nat.{ℕ, ◌+◌}
use mathlib.Core.Path.{◌≡◌, refl, sym, ◌∙◌, ap}
use mathlib.Core.List.{List, ◌++◌}
use Rattle.std.specs.Prelude.{Option, None, Some}
use native.Mathlib.Omega.{arith}
use lib.ListN.{length}
use lib.Seq.{sets}
use Rattle.fra.specs.declared.Position.{Position}
use Rattle.fra.specs.declared.Attack.{Attack}
use Rattle.fra_laws.proofs.FixedWidth.{sets_append}
use Rattle.outcome.specs.Bytes.{word}
use Rattle.outcome.specs.Certificate.{kept_record, loss_record, loss_with}
use Rattle.listing.specs.Widths.{kept_width, lost_rounds}
use Rattle.listing.specs.Words.{put_word}
use Rattle.comparer_certify_laws.proofs.RecordFilling.{kept_width_lem}
use Rattle.comparer_certify.specs.RecordFields.{attack_width, attack_bytes}

-- ── A lost position ──

pub attack_width_lem : (o : Option Attack) → length (attack_bytes o) ≡ attack_width
attack_width_lem None = refl
attack_width_lem (Some a) = refl

-- its record in its parts
loss_parts : (kind k : ℕ) (p : Position) (o : Option Attack) → length p.partners ≡ 6
    → kept_record kind p ++ (attack_bytes o ++ word k) ≡ loss_record kind (loss_with p (Some k) o)
unfolding kept_record loss_record loss_with
loss_parts kind k p None six = refl
loss_parts kind k p (Some a) six = rw six

pub loss_written : (buffer : List ℕ) (at kind k : ℕ) (p : Position) (o : Option Attack) → length p.partners ≡ 6
    → put_word (sets (sets buffer at (kept_record kind p)) (at + kept_width) (attack_bytes o)) (at + lost_rounds) k
    ≡ sets buffer at (loss_record kind (loss_with p (Some k) o))
loss_written buffer at kind k p o six =
    let attack = attack_bytes o in
    let place : at + lost_rounds ≡ at + kept_width + length attack = omega (arith, attack_width_lem o) in
    rw (place, ← sets_append (sets buffer at (kept_record kind p)) (at + kept_width) attack (word k), ← kept_width_lem kind p six)
    (sym (sets_append buffer at (kept_record kind p) (attack ++ word k)) ∙ ap (sets buffer at) (loss_parts kind k p o six))
