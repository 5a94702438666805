-- Test by test.
use Rattle.std.proofs.Common.{◌*◌, get_or, sym, ◌∙◌, arith}
use borrow.Author.Tests.{eq-eqb, ne_eqb}
use Rattle.checker_laws.specs.CertificateRecords.{formed_at}
use Rattle.checker_form.proofs.record_formed.Goals as goal

pub returns-then-certificate-i : goal.returns-then-certificate-i
unfolding formed_at
returns-then-certificate-i c =
    let a = c.args in rw (ne_eqb (get_or a.certificate.now (a.i * a.records.width) 0) a.kind (omega arith))

pub returns-then-not-legal : goal.returns-then-not-legal
unfolding formed_at
returns-then-not-legal c =
    let a = c.args in
    rw (
      eq-eqb (get_or a.certificate.now (a.i * a.records.width) 0) a.kind (omega arith),
      ← c.position_at.ensures,
      sym c.legal.ensures ∙ c.if-not-legal.true,
    )

pub returns : goal.returns
unfolding formed_at
returns c =
    let a = c.args in
    rw (
      eq-eqb (get_or a.certificate.now (a.i * a.records.width) 0) a.kind (omega arith),
      ← c.position_at.ensures,
      sym c.legal.ensures ∙ c.if-not-legal.false,
    )
    c.rises.ensures
