-- The lines of a certificate's records. Assumes nothing.
use Rattle.std.specs.Prelude.{Ok}
use Prim.Native.Nat.{ℕ, zero, suc, ◌+◌, ◌*◌, ◌/◌, ◌≤◌, ◌<◌}
use mathlib.Core.Path.{◌≡◌, refl, ap, ◌∙◌}
use mathlib.Core.List.{List, [], ◌∷◌}
use native.Mathlib.Omega.{arith}
use native.Mathlib.Nat.{div-mul-le_self, mul-le-mul_right}
use lib.ListN.{length, take, drop, length-take}
use lib.Seq.{take-take}
use Rattle.fra_laws.proofs.ByPlace.{places-length, places-at}
use Rattle.outcome.specs.Verdicts.{standing_of, width_of}
use Rattle.outcome.specs.declared.Standing.{Standing}
use Rattle.outcome.specs.declared.Standing.TheVariants.{Kept, Lost}
use Rattle.outcome.specs.declared.Comparison.{Comparison}
use Rattle.text.specs.Text.{body_at, record_line, record_lines, lines_by, line_by}

-- no record is empty
pub some_byte : (s : Standing) → 1 ≤ width_of s
some_byte Kept = omega arith
some_byte Lost = omega arith

-- a part that lies in the first n bytes
part_of_front : (n at width : ℕ) (l : List ℕ) → at + width ≤ n → take width (drop at (take n l)) ≡ take width (drop at l)
part_of_front n zero width l h = take-take width n l (omega arith)
part_of_front zero (suc at) width l h = absurd (omega arith)
part_of_front (suc n) (suc at) width [] h = refl
part_of_front (suc n) (suc at) width (x ∷ l) h = part_of_front n at width l (omega arith)

-- the records that an answer tells of: its first bytes are filled
module _ {R : Type 0} (number : R → ℕ) (c : Comparison) (l : List ℕ) where
  abbrev filled : List ℕ
  filled = take c.length l

  abbrev width : ℕ
  width = width_of (standing_of c.verdict)

  pub lines-counted : length (lines_by number (Ok c) l) ≡ 1 + length filled / width
  unfolding lines_by record_lines
  lines-counted =
      omega (arith, places-length (λ i. record_line (standing_of c.verdict) (body_at width (i * width) filled)) (length filled / width))

  -- where there is a line behind line j, record j lies in the bytes that are filled
  pub record_inside : (j : ℕ) → suc j < length (lines_by number (Ok c) l) → j * width + width ≤ length filled
  record_inside j h =
      let there : j < length filled / width = omega (arith, lines-counted) in
      omega (arith, mul-le-mul_right width there, div-mul-le_self (length filled) width)

  -- and that line is the record's
  pub line_of_record : (j : ℕ) → suc j < length (lines_by number (Ok c) l)
      → line_by number (Ok c) l (suc j) ≡ record_line (standing_of c.verdict) (body_at width (j * width) l)
  unfolding lines_by record_lines
  line_of_record j h =
      let there : j < length filled / width = omega (arith, lines-counted) in
      let inside : j * width + width ≤ c.length = omega (arith, record_inside j h, length-take c.length l) in
      places-at (λ i. record_line (standing_of c.verdict) (body_at width (i * width) filled)) (length filled / width) j [] there
      ∙ ap (λ (m : List ℕ). record_line (standing_of c.verdict) (drop 1 m)) (part_of_front c.length (j * width) width l inside)
