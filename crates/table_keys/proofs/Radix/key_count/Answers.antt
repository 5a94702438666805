-- No product wraps, since a sized radix has few keys.
use Rattle.std.proofs.Common.{◌*◌, ◌^◌, ◌≤◌, arith, rules}
use Rattle.std.proofs.Math.Nat.{pow-le-pow_right}
use Rattle.table_keys.specs.Keys.{key_count, key_limit}
use Rattle.table_keys.proofs.Keys.{fronts_small, key_count-small}
use Rattle.table_keys.proofs.Radix.key_count.Goals as goal

pub pow-requires : goal.pow-requires
pow-requires c =
    let powers : 8 ^ c.args.self.registers ≤ 8 ^ 6 =
    pow-le-pow_right {n = 8} (omega arith) {i = c.args.self.registers} {j = 6} (omega (arith, c.requires.registers)) in
    omega (arith, powers)

pub overflow_mul-result : goal.overflow_mul-result
overflow_mul-result c =
    let x = c.args.self in
    let h : x.left * x.right * c.pow.result ≤ 67108864 =
    rw c.pow.ensures (fronts_small c.requires x.registers (omega arith)) in
    search rules

pub overflow_mul-result-2 : goal.overflow_mul-result-2
unfolding key_count
overflow_mul-result-2 c =
    let x = c.args.self in
    let h : x.left * x.right * c.pow.result * c.sizes.result ≤ key_limit =
    rw (c.pow.ensures, c.sizes.ensures) (key_count-small c.requires) in
    search rules

pub returns : goal.returns
unfolding key_count
returns c = rw (c.pow.ensures, c.sizes.ensures)
