-- When all partners are divided out, the states are left, and each number fits a byte.
use Rattle.std.proofs.Common.{◌≡◌, ◌/◌, ◌≤◌, ◌<◌, arith, rules}
use Rattle.table_keys.specs.Keys.{position_from}
use Rattle.table_keys.proofs.DividedOut.{front_none, partners_none, front_more, partners-more}
use Rattle.table_keys.proofs.DividedOut.{front_all, partners-all, left-exists}
use Rattle.table_keys.proofs.position.Goals as goal

pub loop-i-init : goal.loop-i-init
loop-i-init c =
    let a = c.args in
    record {
      front = rw c.sizes-sizes.ensures (front_none a.radix a.key);
      partners = partners_none a.radix a.key c.requires.0;
    }

pub loop-i-preserved : goal.loop-i-preserved
loop-i-preserved c =
    let a = c.args in
    let i = c.loop-i.i in
    let some : 1 ≤ i = c.loop-i-test.true in
    record {
      front = rw c.loop-i.invariant.front (front_more a.radix a.key i some c.loop-i.auto.i);
      partners = rw (c.loop-i.invariant.front, c.loop-i.invariant.partners) (partners-more a.radix a.key i some c.loop-i.auto.i);
    }

pub overflow_cast-result : goal.overflow_cast-result
overflow_cast-result c =
    let a = c.args in
    let (s, h) = c.requires in
    let last : c.loop-i.i ≡ 0 = omega (arith, c.loop-i-test.false) in
    let left : c.loop-i.front / a.radix.right < 16 =
    rw (c.loop-i.invariant.front, last, front_all a.radix a.key) (omega (arith, left-exists a.radix a.key s h, s.left)) in
    search rules

pub returns : goal.returns
unfolding position_from
returns c =
    let a = c.args in
    let last : c.loop-i.i ≡ 0 = omega (arith, c.loop-i-test.false) in
    rw (c.loop-i.invariant.front, c.loop-i.invariant.partners, last, front_all a.radix a.key, partners-all a.radix a.key, c.sizes-sizes.ensures)
