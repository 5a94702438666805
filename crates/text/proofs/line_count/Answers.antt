-- The first line, and one for each record.
use Rattle.std.proofs.Common.{refl, sym, ap, ◌∙◌, ◌+◌}
use Rattle.text.specs.Text.{lines_by}
use Rattle.text.proofs.Records.{lines-counted}
use Rattle.text.proofs.line_count.Goals as goal

pub returns-in-Ok : goal.returns-in-Ok
returns-in-Ok g c number =
    rw c.in-Ok.is
    (rw c.standing.ensures at (ap (λ k. 1 + k) c.record_count.ensures) ∙ sym (lines-counted number c.in-Ok.c c.args.certificate.now))

pub returns-in-Err : goal.returns-in-Err
unfolding lines_by
returns-in-Err g c number = rw c.in-Err.is refl
