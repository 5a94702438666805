-- Rounds 0, no attack that is named, or one that forces.
use Rattle.std.proofs.Common.{◌≡◌, length, rules}
use Rattle.outcome.specs.Check.{attack_in, forces}
use Rattle.game_index.specs.Reading.{task_in, rules_in}
use Rattle.checker_laws.specs.CertificateRecords.{losses_in}
use Rattle.checker_laws.proofs.LossConditions.{loss_at_once, loss_by_attack}
use Rattle.checker_acceptance.specs.RecordTests.{loss_of}
use Rattle.checker_acceptance.proofs.loss_holds.Goals as goal

pub returns-then-x-eq0 : goal.returns-then-x-eq0
returns-then-x-eq0 c =
    let b = c.args.index.now.bytes in
    rw (loss_at_once (rules_in b) (task_in b) (losses_in c.args.certificate.now) (loss_of c.args.x) c.if-x-eq0.true)
    c.lost_already.ensures

pub returns-in-Some : goal.returns-in-Some
unfolding attack_in
returns-in-Some c =
    let b = c.args.index.now.bytes in
    let six : length c.args.x.position.partners ≡ 6 = search rules in
    rw (
      loss_by_attack (rules_in b) (task_in b) (losses_in c.args.certificate.now) (loss_of c.args.x) c.if-x-eq0.false,
      six,
      ← c.attack_named.ensures,
      c.in-Some.is,
    )
    c.forces.ensures

pub returns-in-None : goal.returns-in-None
unfolding attack_in forces
returns-in-None c =
    let b = c.args.index.now.bytes in
    let six : length c.args.x.position.partners ≡ 6 = search rules in
    rw (
      loss_by_attack (rules_in b) (task_in b) (losses_in c.args.certificate.now) (loss_of c.args.x) c.if-x-eq0.false,
      six,
      ← c.attack_named.ensures,
      c.in-None.is,
    )
