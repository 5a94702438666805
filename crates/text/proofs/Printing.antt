-- What is printed is its lines, one after another, and a line that was written is read at the start of the buffer. Assumes
-- nothing.
use Prim.Native.Nat.{ℕ, ◌≤◌, ◌<◌}
use mathlib.Core.Path.{◌≡◌, refl, sym, ap, ◌∙◌}
use mathlib.Core.List.{List, [], flat_map}
use native.Mathlib.Omega.{arith}
use native.Mathlib.Nat.{zero-add}
use lib.ListN.{length, take, drop}
use lib.Seq.{sets-eq, take-append_seam}
use borrow.Author.Tests.{lt-ltb, le-ltb}
use Rattle.fra.specs.Lists.{count}
use Rattle.fra.specs.declared.Game.{Game}
use Rattle.fra_laws.proofs.ByPlace.{elements}
use Rattle.fra_laws.proofs.StringsInARow.{flat_map-map}
use Rattle.outcome.specs.Bytes.{then_rest}
use Rattle.outcome.specs.Compare.{Outcome}
use Rattle.text.specs.Text.{too_long, lines, line_at, printed, longest_task, compared, prints}
use Rattle.text.specs.LentLine.{line_room, Puts}

-- all lines of an outcome
abbrev pub line_by_line : Outcome → List ℕ
line_by_line o = flat_map (line_at o.answer o.certificate) (count 0 (length (lines o)))

pub printed-line_by_line : (o : Outcome) → line_by_line o ≡ printed o
unfolding printed
printed-line_by_line o =
    sym (flat_map-map (λ l. l) (line_at o.answer o.certificate) (count 0 (length (lines o))))
    ∙ ap (flat_map (λ l. l)) (elements (length (lines o)) (lines o) [] refl)

-- what a program has to write of a task that is not too long: the lines of its comparison
pub prints-line_by_line : (g : Game) (input : List ℕ) → length input ≤ longest_task
    → line_by_line (compared g input) ≡ prints g input
unfolding prints
prints-line_by_line g input h = rw (le-ltb longest_task (length input) h, prints) (printed-line_by_line (compared g input))

-- and of one that is
pub prints-too_long : (g : Game) (input : List ℕ) → longest_task < length input → too_long ≡ prints g input
unfolding prints
prints-too_long g input h = rw (lt-ltb longest_task (length input) h, prints)

-- ── A lent line ──

-- a text that was written from the start: the first bytes, as many as was returned, and behind them what was there
pub line_stands : {text entry exit : List ℕ} {r : ℕ} → Puts text entry 0 exit r → length entry ≡ line_room
    → (take r exit ≡ text) × (exit ≡ then_rest text entry)
unfolding then_rest
line_stands {text} {entry} {exit} {r} p e =
    let size : r ≡ length text = omega (arith, p.behind) in
    let all : exit ≡ then_rest text entry =
    p.written ∙ rw (sets-eq text entry 0 (omega (arith, p.behind, p.fits)), zero-add) in
    (rw (all, size) (take-append_seam text (drop (length text) entry)), all)
