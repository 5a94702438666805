-- Each number has its room, since there are no more of them than a line has room for.
use Rattle.std.proofs.Common.{◌≡◌, ◌<◌, arith, get_or, length}
use mathlib.Core.List.{flat_map}
use lib.Seq.{take-length}
use Rattle.text.specs.LentLine.{line_room}
use Rattle.text.proofs.Decimals.{number_fits}
use Rattle.text.proofs.Lines.{puts_none, puts_number, puts_line}
use Rattle.text.proofs.put.Goals as goal

pub loop-n-init : goal.loop-n-init
unfolding flat_map
loop-n-init c = record { few = omega arith; puts = puts_none _ _ c.put_word-at.ensures.fits }

pub put_number-at-requires : goal.put_number-at-requires
put_number-at-requires c = omega (arith, c.put_word-at.ensures.behind, c.requires.0, c.requires.1)

pub loop-n-preserved : goal.loop-n-preserved
loop-n-preserved c =
    let numbers = c.args.numbers.now in
    let i = c.loop-n.n-index in
    let small = number_fits (get_or numbers i 0) (c.type_inv.numbers i).fits in
    record {
      few = omega (arith, c.put_number-at.ensures.behind, small);
      puts = puts_number numbers i c.loop-n-test.true c.loop-n.invariant.puts c.put_number-at.ensures;
    }

pub returns : goal.returns
returns c =
    let numbers = c.args.numbers.now in
    let free : c.loop-n.at < line_room = omega (arith, c.put_word-at.ensures.behind, c.requires.0, c.requires.1) in
    let all : c.loop-n.n-index ≡ length numbers = omega arith in
    puts_line numbers c.put_word-at.ensures (rw (all, take-length) at c.loop-n.invariant.puts) free
