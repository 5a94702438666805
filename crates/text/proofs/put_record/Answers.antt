-- The numbers of a record's line are its bytes behind its kind; of a lost position's, those before its rounds, and its rounds.
use Rattle.std.proofs.Common.{ℕ, List, ◌+◌, ◌-◌, ap, ◌∙◌}
use lib.ListN.{set}
use Rattle.outcome.specs.Bytes.{word_at}
use Rattle.listing.specs.Widths.{lost_rounds}
use Rattle.text.specs.LentLine.{most_numbers}
use Rattle.text.proofs.RecordNumbers.{kept-widened, lost-widened}
use Rattle.text.proofs.put_record.Goals as goal

pub returns-in-Kept : goal.returns-in-Kept
returns-in-Kept c =
    let inside = rw c.in-Kept.is at c.requires in
    rw c.in-Kept.is (rw (c.widened-numbers.ensures, kept-widened c.args.at c.args.certificate.now inside) at c.put.ensures)

pub returns-in-Lost : goal.returns-in-Lost
returns-in-Lost c =
    let at = c.args.at in
    let l = c.args.certificate.now in
    let numbers =
    ap (set c.widened-numbers-in-Lost.result (most_numbers - 1)) c.word_at.ensures
    ∙ ap (λ (k : List ℕ). set k (most_numbers - 1) (word_at l (at + lost_rounds))) c.widened-numbers-in-Lost.ensures
    ∙ lost-widened at l (rw c.in-Lost.is at c.requires) in
    rw c.in-Lost.is (rw numbers at c.put-in-Lost.ensures)
