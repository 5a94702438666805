-- An edge that drops nothing leaves all partners; else those are written that it leaves.
use Rattle.std.proofs.Common.{◌<◌, ◌≡◌, length, get_or, length-set, sym, subst, ◌∙◌, arith}
use Rattle.std.proofs.Math.Nat.{add_comm}
use Rattle.fra_laws.proofs.Tests.{clash}
use Rattle.game_moves.proofs.TestBytes.{times_test}
use Rattle.game_moves.proofs.Matchings.{written-more, written_all}
use Rattle.comparer_explore_laws.specs.HalfRounds.{kept_by}
use Rattle.comparer_explore_laws.proofs.HalfRounds.{kept-length, kept-at}
use Rattle.comparer_explore.specs.Sums.{RestOf}
use Rattle.comparer_explore.proofs.expand.Half.of.Goals as goal

pub loop-i-preserved : goal.loop-i-preserved
loop-i-preserved c =
    let a = c.args in
    let at = c.loop-i in
    let left = a.edge.target in
    let six : length a.p.partners ≡ 6 = c.requires.sized.1.long in
    let here : at.i < length a.p.partners = omega (arith, c.loop-i-test.true, six) in
    let long : length (kept_by left.set 1 a.p.partners) ≡ 6 = kept-length left.set 1 a.p.partners ∙ six in
    let partner = rw (add_comm 1 at.i, ← c.has.ensures) at (kept-at left.set 1 a.p.partners at.i here) in
    record {
      long = simp length-set at.invariant.long;
      kept =
          written-more (kept_by left.set 1 a.p.partners) at.partners at.i (at.invariant.long ∙ sym long) at.invariant.kept
          (omega arith) _ (partner ∙ sym (times_test c.has.result (get_or a.p.partners at.i 0)));
    }

pub returns-then-not-drops-clause-half : goal.returns-then-not-drops-clause-half
returns-then-not-drops-clause-half c =
    let a = c.args in
    let u = c.requires.undropped c.if-not-drops.true in
    record {
      halves = record { partners = sym u.partners; register = sym u.register };
      whole = λ rest e. u;
      rest = λ rest e.
          let same : c.rest.result ≡ rest = cc in
          subst (RestOf a.radix a.p a.edge.target.register) same c.rest.ensures;
    }

pub returns-clause-half : goal.returns-clause-half
returns-clause-half c =
    let a = c.args in
    let at = c.loop-i in
    let left = a.edge.target in
    let long : length (kept_by left.set 1 a.p.partners) ≡ 6 = kept-length left.set 1 a.p.partners ∙ c.requires.sized.1.long in
    let all =
    written_all (kept_by left.set 1 a.p.partners) at.partners at.i (at.invariant.long ∙ sym long) at.invariant.kept
    (omega (arith, c.loop-i-test.false)) in
    record {
      halves = record { partners = all; register = c.in_set.ensures };
      whole = λ rest e. absurd (clash (cc));
      rest = λ rest e. absurd (clash (cc));
    }
