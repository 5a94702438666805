-- No part of a key is more than the key, which is below the limit; the history's size is its last digit.
use Rattle.std.proofs.Common.{◌≡◌, ◌+◌, ◌*◌, ◌<◌, length, arith, rules}
use Rattle.table_keys.specs.Keys.{partner_base, key_limit}
use Rattle.comparer_explore.specs.HalfRounds.{joined_to}
use Rattle.comparer_explore.proofs.RoundDigits.{next, next_small, whole, whole_small}
use Rattle.comparer_explore.proofs.expand.Half.key_by_digits.Goals as goal

pub overflow_mul-front-in-loop-i : goal.overflow_mul-front-in-loop-i
overflow_mul-front-in-loop-i c =
    let a = c.args in
    let six : length a.self.partners ≡ 6 = search rules in
    let h = next_small a.radix a.self a.size a.right c.requires.0 c.requires.1 six c.loop-i.front c.loop-i.i c.loop-i.invariant c.loop-i-test.true in
    let part : c.loop-i.front * partner_base < key_limit = omega (arith, h) in
    search (rules, part)

pub overflow_add-front-in-loop-i : goal.overflow_add-front-in-loop-i
overflow_add-front-in-loop-i c =
    let a = c.args in
    let six : length a.self.partners ≡ 6 = search rules in
    let h = next_small a.radix a.self a.size a.right c.requires.0 c.requires.1 six c.loop-i.front c.loop-i.i c.loop-i.invariant c.loop-i-test.true in
    let part : c.loop-i.front * partner_base + c.in_set.result < key_limit = rw (c.in_set.ensures, c.rejoined-x.ensures) h in
    search (rules, part)

pub loop-i-preserved : goal.loop-i-preserved
loop-i-preserved c =
    let a = c.args in
    let six : length a.self.partners ≡ 6 = search rules in
    rw (c.in_set.ensures, c.rejoined-x.ensures)
    (next a.radix a.self a.size a.right c.requires.0 c.requires.1 six c.loop-i.front c.loop-i.i c.loop-i.invariant c.loop-i-test.true)

pub overflow_mul-result : goal.overflow_mul-result
overflow_mul-result c =
    let a = c.args in
    let six : length a.self.partners ≡ 6 = search rules in
    let h = whole_small a.radix a.self a.size a.right c.requires.0 c.requires.1 six c.loop-i.front c.loop-i.i c.loop-i.invariant c.loop-i-test.false c.sizes.result c.sizes.ensures in
    let part : c.loop-i.front * c.sizes.result < key_limit = omega (arith, h) in
    search (rules, part)

pub overflow_sub-result : goal.overflow_sub-result
unfolding joined_to
overflow_sub-result c = c.requires.1.least

pub overflow_add-result : goal.overflow_add-result
overflow_add-result c =
    let a = c.args in
    let six : length a.self.partners ≡ 6 = search rules in
    let h = whole_small a.radix a.self a.size a.right c.requires.0 c.requires.1 six c.loop-i.front c.loop-i.i c.loop-i.invariant c.loop-i-test.false c.sizes.result c.sizes.ensures in
    search (rules, h)

pub returns : goal.returns
returns c =
    let a = c.args in
    let six : length a.self.partners ≡ 6 = search rules in
    whole a.radix a.self a.size a.right c.requires.0 c.requires.1 six c.loop-i.front c.loop-i.i c.loop-i.invariant c.loop-i-test.false c.sizes.result c.sizes.ensures
