-- A power of 8 is a power of 2.
use Rattle.std.proofs.Common.{◌*◌, ◌^◌, ◌∙◌, arith}
use Rattle.std.proofs.Math.Nat.{one-mul, mod-eq_of_lt}
use Rattle.std.proofs.Math.Pow.{pow-lt}
use Rattle.comparer_explore.proofs.PartnerDigits.{place_power}
use Rattle.comparer_explore.proofs.sums.place_of.Goals as goal

pub returns : goal.returns
returns c =
    let n = c.args.others in
    rw (one-mul (2 ^ (3 * n))) (mod-eq_of_lt (pow-lt {i = 3 * n} {j = 32} (omega (arith, c.requires)))) ∙ place_power n
