use Rattle.std.proofs.Common.{◌≡◌, take, sym, ◌∙◌, ap, subst, Ok, Err}
use Rattle.std.proofs.lemmas.List.{nil_from_length}
use Rattle.task.specs.TaskFile.{record_kind, body_length, step}
use Rattle.task.specs.declared.Refusal.TheVariants.{CutShort}
use Rattle.task_laws.proofs.RunsAndHalts.{Run, begin, unknown_read, cut_read, end_read, record-taken, record_refused}
use Rattle.task_reader.proofs.Steps.{due, handed_on}
use Rattle.task_reader.proofs.read_task.Goals as goal

pub loop-byte-init : goal.loop-byte-init
loop-byte-init c = rw c.at_start-p.ensures begin

pub returns-in_err-kind : goal.returns-in_err-kind
returns-in_err-kind c =
    let run = subst (Run c.args.file.now c.loop-byte.p) c.in-Some.ensures.cases.0 c.loop-byte.invariant in
    handed_on _ _ c.from_residual.ensures.1 ∙ sym (unknown_read run (sym c.try_from.ensures ∙ c.in_err-kind.was))

pub returns-in_err-body : goal.returns-in_err-body
returns-in_err-body c =
    let run = subst (Run c.args.file.now c.loop-byte.p) c.in-Some.ensures.cases.0 c.loop-byte.invariant in
    let known : record_kind c.in-Some.byte.now ≡ Ok c.in_ok-kind.kind = sym c.try_from.ensures ∙ c.in_ok-kind.was in
    let none = c.in_err-body.ensures.ok_part in
    let short = rw (none, c.body_length.ensures) at c.split_at_checked.ensures.cases in
    let value = rw none at c.in_err-body.ensures.value in
    let same : c.in_err-body.field-0.0 ≡ CutShort = cc in
    handed_on _ _ c.from_residual-in_err-body.ensures.1 ∙ ap Err same ∙ sym (cut_read run known short)

pub step-requires : goal.step-requires
step-requires c = due c.loop-byte.invariant

pub returns-in_err-p : goal.returns-in_err-p
returns-in_err-p c =
    let run = subst (Run c.args.file.now c.loop-byte.p) c.in-Some.ensures.cases.0 c.loop-byte.invariant in
    let known : record_kind c.in-Some.byte.now ≡ Ok c.in_ok-kind.kind = sym c.try_from.ensures ∙ c.in_ok-kind.was in
    let split = rw (c.in_ok-body.ensures.ok_part, c.body_length.ensures) at c.split_at_checked.ensures.cases in
    let stepped : step c.in_ok-kind.kind c.loop-byte.p (take (body_length c.in_ok-kind.kind) c.in-Some.after.now) ≡ c.step.result =
    rw (← split.1) (sym c.step.ensures)
    in
    handed_on _ _ c.from_residual-in_err-p.ensures.1
    ∙ sym (record_refused run known split.0 (stepped ∙ c.in_err-p.was))

pub loop-byte-preserved : goal.loop-byte-preserved
loop-byte-preserved c =
    let run = subst (Run c.args.file.now c.loop-byte.p) c.in-Some.ensures.cases.0 c.loop-byte.invariant in
    let known : record_kind c.in-Some.byte.now ≡ Ok c.in_ok-kind.kind = sym c.try_from.ensures ∙ c.in_ok-kind.was in
    let split = rw (c.in_ok-body.ensures.ok_part, c.body_length.ensures) at c.split_at_checked.ensures.cases in
    let stepped : step c.in_ok-kind.kind c.loop-byte.p (take (body_length c.in_ok-kind.kind) c.in-Some.after.now) ≡ c.step.result =
    rw (← split.1) (sym c.step.ensures)
    in
    rw split.2 (record-taken run known split.0 (stepped ∙ c.in_ok-p.was))

pub returns : goal.returns
returns c =
    let ended = nil_from_length c.loop-byte.rest.now (rw c.in_default.is at c.split_first.ensures.cases) in
    c.at_end.ensures ∙ sym (end_read (subst (Run c.args.file.now c.loop-byte.p) ended c.loop-byte.invariant))
