-- What was written is the word, and behind it the line as it was.
use Rattle.std.proofs.Common.{arith}
use native.Mathlib.Nat.{zero-add}
use lib.Seq.{sets-eq}
use Rattle.text.proofs.put_word.Goals as goal

pub returns : goal.returns
returns c =
    let word = c.args.word.now in
    let line = c.args.line.now in
    record {
      written = rw (c.copy_from_slice.ensures.after, sets-eq word line 0 (omega arith), zero-add);
      behind = omega arith;
      fits = omega arith;
    }
