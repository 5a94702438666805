-- By the first byte.
use Rattle.std.proofs.Common.{◌≡◌, length, sym, ◌∙◌, arith}
use borrow.Author.Tests.{ltb-false}
use Rattle.outcome.specs.Verdicts.{verdict_of, kind_of}
use Rattle.outcome.specs.declared.Standing.TheVariants.{Kept, Lost}
use Rattle.game_index.specs.Reading.{task_in, game_in}
use Rattle.checker_laws.proofs.CheckAnswers.{answer-empty, answer-kept, answer-lost, answer-unknown}
use Rattle.checker.proofs.check_indexed.Goals as goal

pub returns-in_default : goal.returns-in_default
returns-in_default c =
    let b = c.args.index.now.bytes in
    let l = c.args.certificate.now in
    let none : length l ≡ 0 = omega (arith, ltb-false 0 (length l) (sym c.in_default.ensures.item.0)) in
    sym (answer-empty (game_in b) (task_in b) l none)

pub returns-then-kind : goal.returns-then-kind
returns-then-kind c =
    let b = c.args.index.now.bytes in
    let l = c.args.certificate.now in
    let first = c.in-Some.ensures.item.3 in
    let kind : c.in-Some.kind.now ≡ kind_of (verdict_of (game_in b) Kept) = cc in
    rw (answer-kept (game_in b) (task_in b) l first.0 (sym (first.1 0) ∙ kind)) c.check_list.ensures

pub returns-then-kind-2 : goal.returns-then-kind-2
returns-then-kind-2 c =
    let b = c.args.index.now.bytes in
    let l = c.args.certificate.now in
    let first = c.in-Some.ensures.item.3 in
    let kind : c.in-Some.kind.now ≡ kind_of (verdict_of (game_in b) Lost) = cc in
    rw (answer-lost (game_in b) (task_in b) l first.0 (sym (first.1 0) ∙ kind)) c.check_list-then-kind-2.ensures

pub returns : goal.returns
returns c =
    let b = c.args.index.now.bytes in
    let l = c.args.certificate.now in
    let first = c.in-Some.ensures.item.3 in
    let kept : c.kind.result ≡ kind_of (verdict_of (game_in b) Kept) = cc in
    let lost : c.kind-2.result ≡ kind_of (verdict_of (game_in b) Lost) = cc in
    sym
    (answer-unknown (game_in b) (task_in b) l first.0 (λ e. c.if-kind.false (first.1 0 ∙ e ∙ sym kept))
    (λ e. c.if-kind-2.false (first.1 0 ∙ e ∙ sym lost)))
