-- The form, then acceptance. What follows the test of acceptance names neither it nor its call, so that a turned test is refused at
-- its value.
use Rattle.std.proofs.Common.{◌≡◌, true, false, length}
use Rattle.outcome.specs.Verdicts.{verdict_of, kind_of}
use Rattle.outcome.specs.Check.{judge_list}
use Rattle.fra.specs.Rules.{rules_of}
use Rattle.game_index.specs.Reading.{task_in, game_in}
use Rattle.checker_laws.specs.CertificateRecords.{records_of, formed}
use Rattle.checker_laws.specs.CheckAnswers.{accepted_by}
use Rattle.checker_laws.proofs.CertificateForm.{records_fit, formed-searchable}
use Rattle.checker.proofs.check_list.Goals as goal

pub returns-then-not-formed : goal.returns-then-not-formed
unfolding judge_list
returns-then-not-formed c =
    let b = c.args.index.now.bytes in
    let s = c.args.standing in
    let l = c.args.certificate.now in
    let fails : formed (task_in b) (kind_of (verdict_of (game_in b) s)) (records_of s (length l)) l ≡ false = cc in
    rw fails

pub accepted-holds-requires : goal.accepted-holds-requires
accepted-holds-requires c =
    let b = c.args.index.now.bytes in
    let s = c.args.standing in
    let l = c.args.certificate.now in
    let well : formed (task_in b) (kind_of (verdict_of (game_in b) s)) (records_of s (length l)) l ≡ true = cc in
    formed-searchable _ _ (task_in b) (kind_of (verdict_of (game_in b) s)) well (records_fit s l)

pub returns-then-not-holds : goal.returns-then-not-holds
unfolding judge_list
returns-then-not-holds c =
    let b = c.args.index.now.bytes in
    let s = c.args.standing in
    let l = c.args.certificate.now in
    let well : formed (task_in b) (kind_of (verdict_of (game_in b) s)) (records_of s (length l)) l ≡ true = cc in
    let fails : accepted_by (rules_of (game_in b)) (task_in b) s l ≡ false = cc in
    rw (well, fails)

pub start_rounds-rounds-requires : goal.start_rounds-rounds-requires
start_rounds-rounds-requires c =
    let b = c.args.index.now.bytes in
    let s = c.args.standing in
    let l = c.args.certificate.now in
    let well : formed (task_in b) (kind_of (verdict_of (game_in b) s)) (records_of s (length l)) l ≡ true = cc in
    formed-searchable _ _ (task_in b) (kind_of (verdict_of (game_in b) s)) well (records_fit s l)

pub returns : goal.returns
unfolding judge_list
returns c =
    let b = c.args.index.now.bytes in
    let s = c.args.standing in
    let l = c.args.certificate.now in
    let well : formed (task_in b) (kind_of (verdict_of (game_in b) s)) (records_of s (length l)) l ≡ true = cc in
    let holds : accepted_by (rules_of (game_in b)) (task_in b) s l ≡ true = cc in
    let verdict : c.of-verdict.result ≡ verdict_of (game_in b) s = cc in
    rw (well, holds, c.start_rounds-rounds.ensures, verdict)
