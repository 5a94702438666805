-- Texts one behind another in a lent line. Assumes nothing.
use Prim.Native.Nat.{ℕ, ◌+◌, ◌≤◌, ◌<◌}
use mathlib.Core.Path.{refl, sym, ◌∙◌}
use mathlib.Core.List.{List, [], ◌∷◌, ◌++◌, append-nil, flat_map}
use native.Mathlib.Omega.{arith}
use native.Mathlib.Nat.{add-zero}
use native.Mathlib.Numerals.{add-one}
use lib.ListN.{length, get_or, take, set, length-append}
use lib.Seq.{take-suc}
use Rattle.fra_laws.proofs.FixedWidth.{sets_append}
use Rattle.fra_laws.proofs.StringsInARow.{flat_map-append}
use Rattle.std.specs.Prelude.{codes}
use Rattle.text.specs.Text.{spaced, line_of}
use Rattle.text.specs.LentLine.{line_room, Puts}

pub puts_none : (l : List ℕ) (i : ℕ) → i ≤ line_room → Puts [] l i l i
puts_none l i h = record { written = refl; behind = sym (add-zero i); fits = h }

pub puts_then : {a b l m k : List ℕ} {i j r : ℕ} → Puts a l i m j → Puts b m j k r → Puts (a ++ b) l i k r
puts_then {a} {b} {l} {i = i} p q =
    record {
      written = q.written ∙ rw (p.written, p.behind) (sym (sets_append l i a b));
      behind = omega (arith, p.behind, q.behind, length-append a b);
      fits = q.fits;
    }

-- one number more
pub puts_number : (numbers : List ℕ) (n : ℕ) {l m k : List ℕ} {i j r : ℕ} → n < length numbers
    → Puts (flat_map spaced (take n numbers)) l i m j
    → Puts (spaced (get_or numbers n 0)) m j k r
    → Puts (flat_map spaced (take (n + 1) numbers)) l i k r
unfolding flat_map
puts_number numbers n h p q =
    let one = append-nil (spaced (get_or numbers n 0)) in
    rw (add-one, take-suc numbers n 0 h, flat_map-append spaced (take n numbers) (get_or numbers n 0 ∷ []), one) (puts_then p q)

-- a word, its numbers, and a line feed
pub puts_line : (numbers : List ℕ) {word l m k : List ℕ} {i j : ℕ} → Puts word l 0 m i
    → Puts (flat_map spaced numbers) m i k j
    → j < line_room
    → Puts (line_of word numbers) l 0 (set k j 10) (j + 1)
unfolding line_of
puts_line numbers {k = k} {j = j} p q h =
    let feed : Puts (codes "\n") k j (set k j 10) (j + 1) = record { written = refl; behind = refl; fits = omega arith } in
    puts_then (puts_then p q) feed
