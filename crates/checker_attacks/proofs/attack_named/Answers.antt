-- Both numbers name something, or there is no attack.
use Rattle.std.proofs.Common.{◌≡◌, Option, Some, None}
use Rattle.fra.specs.declared.Side.{Side}
use Rattle.fra.specs.declared.IdCase.{IdCase}
use Rattle.outcome.specs.Check.{attack_from}
use Rattle.checker_attacks.proofs.attack_named.Goals as goal

pub returns-in_err-side : goal.returns-in_err-side
unfolding attack_from
returns-in_err-side c =
    let was : ◌≡◌ {A = Option Side} c.of.result None = c.in_err-side.was in
    rw (c.from_residual.ensures, ← c.of.ensures, was)

pub returns-in_err-case : goal.returns-in_err-case
unfolding attack_from
returns-in_err-case c =
    let was : ◌≡◌ {A = Option Side} c.of.result (Some c.in_ok-side.side) = c.in_ok-side.was in
    let none : ◌≡◌ {A = Option IdCase} c.of-2.result None = c.in_err-case.was in
    rw (c.from_residual-in_err-case.ensures, ← c.of.ensures, was, ← c.of-2.ensures, none)

pub returns : goal.returns
unfolding attack_from
returns c =
    let was : ◌≡◌ {A = Option Side} c.of.result (Some c.in_ok-side.side) = c.in_ok-side.was in
    let some : ◌≡◌ {A = Option IdCase} c.of-2.result (Some c.in_ok-case.case) = c.in_ok-case.was in
    rw (← c.of.ensures, was, ← c.of-2.ensures, some)
