-- It is the definition.
use Rattle.std.proofs.Common.{rules}
use Rattle.key_set_laws.specs.Stored.{bucket_of}
use Rattle.key_set_laws.proofs.Chains.{bucket_below}
use Rattle.key_set.proofs.chains.bucket.Goals as goal

pub returns : goal.returns
unfolding bucket_of
returns c = rw c.min-used.ensures (search rules, bucket_below c.args.buckets c.args.key c.requires)
