use Rattle.std.proofs.Common.{◌∙◌, arith}
use Rattle.outcome.specs.Bytes.{word}
use Rattle.listing.proofs.WordLaws.{put_mid-sets}
use Rattle.listing.proofs.words.put_word.Goals as goal

pub returns : goal.returns
unfolding word
returns c =
    put_mid-sets c.args.at _ c.args.list.now c.copy_from_slice.new.self (word c.args.v)
    (c.copy_from_slice.ensures.after ∙ c.to_be_bytes.ensures)
    (omega arith)
    (omega arith)
