-- As many whole entries as the bits take are in the table exactly if the bits are.
use Rattle.std.proofs.Common.{◌≡◌, ℕ, ◌*◌, ◌≤◌, ◌<◌, leb, sym, ◌∙◌, arith}
use Rattle.std.specs.Int.{div_ceil}
use native.Mathlib.Decide.{dec_le}
use borrow.Author.Tests.{le-leb, lt-leb}
use Rattle.key_set_laws.specs.Bits.{bits_each, bits_fit}
use Rattle.key_set.proofs.bits_fit.Goals as goal

-- whether the bits of `space` keys fit, counted in whole entries
rounded : (space entries : ℕ) → leb (div_ceil space bits_each) entries ≡ leb space (entries * bits_each)
rounded space entries = by (dec_le space (entries * bits_each))
  where
    by : Dec (space ≤ entries * bits_each) → leb (div_ceil space bits_each) entries ≡ leb space (entries * bits_each)
    by (yes h) =
        let few : div_ceil space bits_each ≤ entries = omega arith in
        le-leb (div_ceil space bits_each) entries few ∙ sym (le-leb space (entries * bits_each) h)
    by (no h) =
        let many : entries < div_ceil space bits_each = omega arith in
        lt-leb (div_ceil space bits_each) entries many ∙ sym (lt-leb space (entries * bits_each) (omega arith))

pub returns : goal.returns
unfolding bits_fit
returns c = rw c.div_ceil.ensures (rounded c.args.space c.args.entries)
