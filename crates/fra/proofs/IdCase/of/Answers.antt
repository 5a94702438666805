use Rattle.std.proofs.Common.{◌≡◌, tests, rules, arith}
use borrow.Author.Tests.{ne_eqb, lt-leb}
use Rattle.fra.specs.AttackNumbers.{case_of}
use Rattle.fra.proofs.IdCase.of.Goals as goal

pub returns-in-0 : goal.returns-in-0
unfolding case_of
returns-in-0 c = rw c.in-0.is

pub returns-in-7 : goal.returns-in-7
unfolding case_of
returns-in-7 c = rw c.in-7.is

pub returns-in-8 : goal.returns-in-8
unfolding case_of
returns-in-8 c = rw c.in-8.is

pub returns-in-1-to-6 : goal.returns-in-1-to-6
unfolding case_of
returns-in-1-to-6 c = search (tests, rules)

pub returns-in_default : goal.returns-in_default
unfolding case_of
returns-in_default c =
    let n = c.args.number in
    let none : n ≡ 0 → ⊥ = omega arith in
    let seven : n ≡ 7 → ⊥ = omega arith in
    let eight : n ≡ 8 → ⊥ = omega arith in
    rw (ne_eqb n 0 none, lt-leb n 6 (omega arith), ne_eqb n 7 seven, ne_eqb n 8 eight)
