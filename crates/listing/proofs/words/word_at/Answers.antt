use Rattle.outcome.specs.Bytes.{word_at}
use Rattle.listing.proofs.words.word_at.Goals as goal

pub returns : goal.returns
unfolding word_at
returns c = c.from_be_bytes.ensures
