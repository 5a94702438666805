-- No line, the first one, that of a record, or that of a refusal.
use Rattle.std.proofs.Common.{◌≡◌, ◌≢◌, ◌+◌, ◌-◌, ◌*◌, ◌<◌, ◌≤◌, ℕ, List, suc, arith, length, length-take, Ok}
use Rattle.outcome.specs.Verdicts.{standing_of, width_of}
use Rattle.outcome.specs.declared.Comparison.{Comparison}
use Rattle.text.specs.Text.{lines_by}
use Rattle.text.proofs.Records.{record_inside, line_of_record}
use Rattle.text.proofs.put_line.Goals as goal

-- the record of a line that is there, behind the first one, lies in the buffer
inside : {R : Type 0} (number : R → ℕ) (k : Comparison) (l : List ℕ) {n i : ℕ} → n ≡ length (lines_by number (Ok k) l) → i < n → i ≢ 0
    → (suc (i - 1) < length (lines_by number (Ok k) l))
    × ((i - 1) * width_of (standing_of k.verdict) + width_of (standing_of k.verdict) ≤ length l)
inside number k l {n} {i} count there behind =
    let next : suc (i - 1) < length (lines_by number (Ok k) l) = omega arith in
    (next, omega (arith, record_inside number k l (i - 1) next, length-take k.length l))

-- how many lines there are does not depend on the numbers of refusals
any : {R : Type 0} → R → ℕ
any e = 0

pub overflow_mul-i : goal.overflow_mul-i
overflow_mul-i g c =
    let k = c.in-Ok-2.c in
    let l = c.args.certificate.now in
    let at = inside any k l (rw c.in-Ok-2.is at c.line_count.ensures any) c.if-line_count-i.false c.if-i-eq0.false in
    rw (c.width.ensures, c.standing-standing.ensures) (omega (arith, at.1))

pub put_record-requires : goal.put_record-requires
put_record-requires g c =
    let k = c.in-Ok-2.c in
    let l = c.args.certificate.now in
    let at = inside any k l (rw c.in-Ok-2.is at c.line_count.ensures any) c.if-line_count-i.false c.if-i-eq0.false in
    rw (c.width.ensures, c.standing-standing.ensures) at.1

pub returns-in-Ok-clause-stands : goal.returns-in-Ok-clause-stands
unfolding lines_by
returns-in-Ok-clause-stands g c number gives = rw (c.in-Ok.is, c.if-i-eq0.true) c.put_first.ensures

pub returns-in-Ok-2-clause-stands : goal.returns-in-Ok-2-clause-stands
returns-in-Ok-2-clause-stands g c number gives =
    let k = c.in-Ok-2.c in
    let l = c.args.certificate.now in
    let at = inside number k l (rw c.in-Ok-2.is at c.line_count.ensures number) c.if-line_count-i.false c.if-i-eq0.false in
    let next : c.args.i ≡ suc (c.args.i - 1) = omega (arith, c.if-i-eq0.false) in
    rw (c.in-Ok-2.is, next, line_of_record number k l (c.args.i - 1) at.0)
    (rw (c.width.ensures, c.standing-standing.ensures) at c.put_record.ensures)

pub returns-in-Err-clause-stands : goal.returns-in-Err-clause-stands
unfolding lines_by
returns-in-Err-clause-stands g c number gives =
    let count = rw c.in-Err.is at c.line_count.ensures number in
    let only : c.args.i ≡ 0 = omega (arith, count, c.if-line_count-i.false) in
    rw (c.in-Err.is, only) (rw (gives c.in-Err.refusal c.into.result c.into.ensures) at c.put_refusal.ensures)
