-- Below the count each number has a case.
use Rattle.std.proofs.Common.{◌≡◌, length, Option, Some, None, rules, sym, ◌∙◌, arith}
use Rattle.fra.specs.declared.IdCase.{IdCase}
use Rattle.game_moves.specs.IdCases.{case_at}
use Rattle.game_moves.proofs.IdCases.{case_of-at, case-here, case-later, case_none}
use Rattle.game_moves.proofs.cases.next_case.Goals as goal

pub returns-in_err-case : goal.returns-in_err-case
returns-in_err-case c =
    let none : ◌≡◌ {A = Option IdCase} c.of.result None = c.in_err-case.was in
    let e = case_of-at 6 c.loop-n.n (omega arith) in
    cc

pub returns-then-has_case : goal.returns-then-has_case
returns-then-has_case c =
    let a = c.args in
    let long : length a.p.partners ≡ 6 = search rules in
    let some : ◌≡◌ {A = Option IdCase} c.of.result (Some c.in_ok-case.case) = c.in_ok-case.was in
    let e = case_of-at 6 c.loop-n.n (omega arith) in
    let named : c.in_ok-case.case ≡ case_at 6 c.loop-n.n = cc in
    rw named
    (sym
    (c.loop-n.invariant
    ∙ case-here 6 a.others a.room a.p a.side a.kind c.loop-n.n long (omega arith)
    (rw (← named) (sym c.has_case.ensures ∙ c.if-has_case.true))))

pub loop-n-preserved : goal.loop-n-preserved
loop-n-preserved c =
    let a = c.args in
    let long : length a.p.partners ≡ 6 = search rules in
    let some : ◌≡◌ {A = Option IdCase} c.of.result (Some c.in_ok-case.case) = c.in_ok-case.was in
    let e = case_of-at 6 c.loop-n.n (omega arith) in
    let named : c.in_ok-case.case ≡ case_at 6 c.loop-n.n = cc in
    c.loop-n.invariant
    ∙ case-later 6 a.others a.room a.p a.side a.kind c.loop-n.n long (omega arith)
    (rw (← named) (sym c.has_case.ensures ∙ c.if-has_case.false))

pub returns : goal.returns
returns c =
    let a = c.args in
    let long : length a.p.partners ≡ 6 = search rules in
    sym (c.loop-n.invariant ∙ case_none 6 a.others a.room a.p a.side a.kind c.loop-n.n long (omega arith))
