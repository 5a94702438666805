-- A space, and then as many digits as were counted.
use Rattle.std.proofs.Common.{◌≡◌, ◌+◌, ap, arith, suc}
use Rattle.text.specs.Text.{spaced}
use Rattle.text.proofs.Decimals.{ten_digits}
use Rattle.text.proofs.numbers.put_number.Goals as goal

pub overflow_add-end-2 : goal.overflow_add-end-2
overflow_add-end-2 c = omega (arith, c.places.ensures, ten_digits c.args.n c.ranges.n.fits)

pub put_digits-requires : goal.put_digits-requires
put_digits-requires c = (
  ap (λ k. c.args.at + 1 + k) c.places.ensures,
  omega (arith, c.places.ensures, ten_digits c.args.n c.ranges.n.fits),
)

pub returns : goal.returns
unfolding spaced
returns c =
    let next : c.args.at + 1 ≡ suc c.args.at = omega arith in
    record {
      written = rw next at c.put_digits.ensures;
      behind = omega (arith, c.places.ensures);
      fits = omega (arith, c.places.ensures, ten_digits c.args.n c.ranges.n.fits);
    }
