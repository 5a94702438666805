-- 01, "Sample pairs": what the programs `compare` and `compare_one_way` print, as bytes. A line is a word, numbers and a line feed.
use Rattle.std.specs.Prelude.{ℕ, ◌≡◌, zero, suc, ◌+◌, ◌*◌, ◌/◌, ◌%◌, true, false, length, get_or, take, drop, replicate, ltb, Result, Ok, Err, codes}
use mathlib.Core.List.{List, [], ◌∷◌, ◌++◌, map, flat_map}
use Rattle.fra.specs.Lists.{count}
use Rattle.fra.specs.Position.{bytes}
use Rattle.fra.specs.declared.Position.{Position}
use Rattle.fra.specs.declared.Game.{Game}
use Rattle.task.specs.TaskFile.{max_registers}
use Rattle.outcome.specs.Bytes.{word_at}
use Rattle.task.specs.Refusals.{number_of}
use Rattle.task.specs.declared.Refusal.{Refusal}
use Rattle.outcome.specs.Verdicts.{contest_of, standing_of, width_of, verdict_word}
use Rattle.outcome.specs.Certificate.{Loss}
use Rattle.outcome.specs.Compare.{Outcome, compare}
use Rattle.outcome.specs.Check.{position_of, loss_from}
use Rattle.listing.specs.Widths.{entry_width}
use Rattle.outcome.specs.declared.Standing.{Standing}
use Rattle.outcome.specs.declared.Standing.TheVariants.{Kept, Lost}
use Rattle.outcome.specs.declared.Verdict.{Verdict}
use Rattle.outcome.specs.declared.Comparison.{Comparison}

-- ── Words and numbers ──

abbrev pub digit : ℕ → ℕ
digit d = 48 + d

-- a number in at most k + 1 decimal digits
unfoldable pub digits_within : ℕ → ℕ → List ℕ
digits_within zero n = digit n ∷ []
digits_within (suc k) n =
    elim (ltb n 10) [ true ↦ digit n ∷ [] | false ↦ digits_within k (n / 10) ++ (digit (n % 10) ∷ []) ]

-- a number in decimal digits, with no zero in front of others
unfoldable pub decimal : ℕ → List ℕ
decimal n = digits_within n n

-- a number behind a space
unfoldable pub spaced : ℕ → List ℕ
spaced n = codes " " ++ decimal n

unfoldable pub line_of : List ℕ → List ℕ → List ℕ
line_of word numbers = word ++ flat_map spaced numbers ++ codes "\n"

-- ── Lines ──

-- "First line: verdict, positions, rounds."
abbrev pub first_line : Verdict → ℕ → ℕ → List ℕ
first_line v positions rounds = line_of (verdict_word v) (positions ∷ rounds ∷ [])

-- "EQUAL lines are `KEPT`" and the position's numbers; 02, ticket 2: "printed lines show the size after the partners"
abbrev pub kept_line : Position → List ℕ
kept_line p = line_of (codes "KEPT") (bytes p)

-- "per record: two states, six partners", the size, "side, edge, case, rounds"
abbrev pub loss_numbers : Loss → List ℕ
loss_numbers x = bytes x.position ++ (x.side ∷ x.edge ∷ x.case ∷ x.rounds ∷ [])

abbrev pub lost_line : Loss → List ℕ
lost_line x = line_of (codes "LOST") (loss_numbers x)

-- "a refusal `REFUSED` and its number"
abbrev pub refused_line : ℕ → List ℕ
refused_line n = line_of (codes "REFUSED") (n ∷ [])

-- "Longer input prints `TOO LONG`"
abbrev pub too_long : List ℕ
too_long = line_of (codes "TOO LONG") []

-- ── What is printed ──

-- the body of the record that starts here: what follows its kind
abbrev pub body_at : ℕ → ℕ → List ℕ → List ℕ
body_at width at l = drop 1 (take width (drop at l))

abbrev pub record_line : Standing → List ℕ → List ℕ
record_line Kept body = kept_line (position_of max_registers body)
record_line Lost body = lost_line (loss_from max_registers body)

-- a line for each whole record, one behind another
unfoldable pub record_lines : Standing → List ℕ → List (List ℕ)
record_lines s l = map (λ i. record_line s (body_at (width_of s) (i * width_of s) l)) (count 0 (length l / width_of s))

-- the lines of an answer, with the certificate buffer that it comes with; a refusal is told by its number
unfoldable pub lines_by : {R : Type 0} → (R → ℕ) → Result Comparison R → List ℕ → List (List ℕ)
lines_by number (Ok c) certificate =
    first_line c.verdict c.positions c.rounds ∷ record_lines (standing_of c.verdict) (take c.length certificate)
lines_by number (Err e) certificate = refused_line (number e) ∷ []

-- a conversion gives each refusal this number
abbrev pub Numbers : {R : Type 0} → (R → ℕ → Type 0) → (R → ℕ) → Type 0
Numbers {R} converts number = (e : R) (n : ℕ) → converts e n → n ≡ number e

-- line i; past the last one, nothing
abbrev pub line_by : {R : Type 0} → (R → ℕ) → Result Comparison R → List ℕ → ℕ → List ℕ
line_by number answer certificate i = get_or (lines_by number answer certificate) i []

-- the lines of what the comparer answers
abbrev pub lines_of : Result Comparison Refusal → List ℕ → List (List ℕ)
lines_of = lines_by number_of

abbrev pub lines : Outcome → List (List ℕ)
lines o = lines_of o.answer o.certificate

abbrev pub line_at : Result Comparison Refusal → List ℕ → ℕ → List ℕ
line_at = line_by number_of

-- the lines one after another
unfoldable pub printed : Outcome → List ℕ
unfolding flat_map count bytes word_at position_of loss_from digits_within decimal spaced line_of record_lines lines_by
printed o = flat_map (λ l. l) (lines o)

-- "a task of at most 4,096 bytes"
abbrev pub longest_task : ℕ
longest_task = 4096

-- "4,000 table entries and a 64,000-byte certificate"
abbrev pub table_bytes : ℕ
table_bytes = 4000 * entry_width

abbrev pub certificate_bytes : ℕ
certificate_bytes = 64000

-- the comparison of what the program reads
abbrev pub compared : Game → List ℕ → Outcome
compared g input = compare (contest_of g) input (replicate table_bytes 0) (replicate certificate_bytes 0)

-- what is printed of it, by `compare` for EQUAL and DIFFER and by `compare_one_way` for FOLLOWS and FALLS SHORT
unfoldable pub prints : Game → List ℕ → List ℕ
unfolding printed
prints g input = elim (ltb longest_task (length input)) [ true ↦ too_long | false ↦ printed (compared g input) ]
