-- The numbers of a record's line stand in the certificate, for any register count r: its bytes behind the kind, and the rounds.
-- Assumes nothing.
use Prim.Native.Nat.{ℕ, suc, ◌+◌, ◌-◌, ◌≤◌, ◌<◌}
use mathlib.Core.Path.{◌≡◌, refl, sym, ap, ◌∙◌}
use mathlib.Core.List.{List, [], ◌∷◌, ◌++◌, append_assoc}
use native.Mathlib.Omega.{arith}
use lib.ListN.{length, get_or, set, take, drop, replicate, length-take, length-drop}
use lib.Seq.{sets, take-nil, take-suc, take-take, drop-drop, get_or-take, get_or-drop}
use Rattle.fra.specs.Position.{bytes}
use Rattle.outcome.specs.Bytes.{word_at}
use Rattle.outcome.specs.Check.{position_of, loss_from, kept_length, loss_length}
use Rattle.outcome_laws.proofs.Encoding.{position-bytes, position-encoded}
use Rattle.task.specs.TaskFile.{max_registers}
use Rattle.outcome.specs.Verdicts.{width_of}
use Rattle.outcome.specs.declared.Standing.TheVariants.{Kept, Lost}
use Rattle.listing.specs.Widths.{record_position, kept_width, lost_rounds}
use Rattle.text.specs.Text.{body_at, loss_numbers}
use Rattle.text.specs.LentLine.{most_numbers}
use Rattle.text.proofs.Stores.{sets_all, sets_last}

-- ── Parts of the bytes ──

pub part_length : (width at : ℕ) (l : List ℕ) → at + width ≤ length l → length (take width (drop at l)) ≡ width
part_length width at l h = omega (arith, length-take width (drop at l), length-drop at l)

behind-kind : (width : ℕ) (l : List ℕ) → drop 1 (take (suc width) l) ≡ take width (drop 1 l)
behind-kind width [] = sym (take-nil width)
behind-kind width (x ∷ l) = refl

-- the body of a record is what stands behind its kind
body_part : (width at : ℕ) (l : List ℕ) → body_at (suc width) at l ≡ take width (drop (at + 1) l)
body_part width at l = behind-kind width (drop at l) ∙ ap (take width) (drop-drop 1 at l)

three_more : (l rest : List ℕ) (i j k n : ℕ) → j ≡ suc i → k ≡ suc j → n ≡ suc k → n ≤ length l
    → take i l ++ (get_or l i 0 ∷ get_or l j 0 ∷ get_or l k 0 ∷ rest) ≡ take n l ++ rest
three_more l rest i j k n p q s h =
    rw (s, take-suc l k 0 (omega arith), q, take-suc l j 0 (omega arith), p, take-suc l i 0 (omega arith)) (simp append_assoc)

-- ── The numbers ──

module _ (r at : ℕ) (l : List ℕ) where
  pub kept-numbers : at + suc (kept_length r) ≤ length l
      → bytes (position_of r (body_at (suc (kept_length r)) at l)) ≡ take (kept_length r) (drop (at + 1) l)
  kept-numbers h =
      rw (body_part (kept_length r) at l)
      (position-encoded r (take (kept_length r) (drop (at + 1) l)) (part_length (kept_length r) (at + 1) l (omega arith)))

  body-byte : (i j : ℕ) → i < loss_length r → j ≡ at + 1 + i
      → get_or (take (loss_length r) (drop (at + 1) l)) i 0 ≡ get_or l j 0
  body-byte i j b e = rw (get_or-take (loss_length r) (drop (at + 1) l) i 0 b, get_or-drop (at + 1) l i 0, e)

  body-rounds : (i j : ℕ) → i + 4 ≤ loss_length r → j ≡ at + 1 + i
      → word_at (take (loss_length r) (drop (at + 1) l)) i ≡ word_at l j
  unfolding word_at
  body-rounds i j b e =
      rw (
        body-byte i j (omega arith) e,
        body-byte (i + 1) (j + 1) (omega arith) (omega arith),
        body-byte (i + 2) (j + 2) (omega arith) (omega arith),
        body-byte (i + 3) (j + 3) (omega arith) (omega arith),
      )

  -- three numbers follow those of the position
  pub lost-numbers : at + suc (loss_length r) ≤ length l
      → loss_numbers (loss_from r (body_at (suc (loss_length r)) at l))
      ≡ take (kept_length r + 3) (drop (at + 1) l) ++ (word_at l (at + (kept_length r + 4)) ∷ [])
  unfolding loss_from
  lost-numbers h =
      let behind = drop (at + 1) l in
      let body = take (loss_length r) behind in
      let n = kept_length r + 3 in
      let long = part_length (loss_length r) (at + 1) l (omega arith) in
      rw (body_part (loss_length r) at l, position-bytes r body (omega arith))
      (three_more body (word_at body (r + 6) ∷ []) (r + 3) (r + 4) (r + 5) n (omega arith) (omega arith) (omega arith) (omega arith)
      ∙ rw (take-take n (loss_length r) behind (omega arith), body-rounds (r + 6) (at + (kept_length r + 4)) (omega arith) (omega arith)))

-- ── The bytes of a record, widened ──

-- all bytes of a kept position's record behind its kind
pub kept-widened : (at : ℕ) (l : List ℕ) → at + width_of Kept ≤ length l
    → sets (replicate (kept_length max_registers) 0) 0 (take (at + kept_width - (at + record_position)) (drop (at + record_position) l))
    ≡ bytes (position_of max_registers (body_at (width_of Kept) at l))
kept-widened at l h =
    let size = kept_length max_registers in
    let part : at + kept_width - (at + record_position) ≡ size = omega arith in
    rw part
    (sets_all (replicate size 0) (take size (drop (at + record_position) l)) (part_length size (at + record_position) l (omega arith))
    ∙ sym (kept-numbers max_registers at l (omega arith)))

-- of a lost position's record those before its rounds, and its rounds
pub lost-widened : (at : ℕ) (l : List ℕ) → at + width_of Lost ≤ length l
    → set (sets (replicate most_numbers 0) 0 (take (at + lost_rounds - (at + record_position)) (drop (at + record_position) l))) (most_numbers - 1) (word_at l (at + lost_rounds))
    ≡ loss_numbers (loss_from max_registers (body_at (width_of Lost) at l))
lost-widened at l h =
    let size = lost_rounds - record_position in
    let part : at + lost_rounds - (at + record_position) ≡ size = omega arith in
    rw part
    (sets_last (replicate most_numbers 0) (take size (drop (at + record_position) l)) size (word_at l (at + lost_rounds))
    (part_length size (at + record_position) l (omega arith))
    refl
    ∙ sym (lost-numbers max_registers at l (omega arith)))
