use Rattle.std.proofs.Common.{arith}
use Rattle.checker_laws.specs.CertificateRecords.{rises_at}
use Rattle.checker_laws.proofs.CertificateForm.{rises-after}
use Rattle.checker_form.proofs.rises.Goals as goal

pub returns-then-i-eq0 : goal.returns-then-i-eq0
unfolding rises_at
returns-then-i-eq0 c = rw c.if-i-eq0.true

pub returns : goal.returns
returns c =
    let a = c.args in
    rw (
      rises-after a.records a.certificate.now a.i (omega arith),
      ← c.position_at-previous.ensures,
      ← c.position_at-position.ensures,
    )
    c.before-2.ensures
