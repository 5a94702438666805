-- By bits where they fit, else by chains.
use Rattle.std.proofs.Common.{sym, ◌∙◌, arith}
use Rattle.outcome.specs.Compare.{capacity}
use Rattle.key_set_laws.proofs.Stored.{stored_few}
use Rattle.key_set_laws.proofs.Flags.{bit_inside}
use Rattle.key_set.proofs.insert.Goals as goal

pub insert-requires : goal.insert-requires
unfolding capacity
insert-requires c =
    bit_inside c.args.space c.args.key c.args.table.now (sym c.bits_fit.ensures ∙ c.if-bits_fit.true) c.requires.1

pub returns-then-bits_fit : goal.returns-then-bits_fit
unfolding capacity
returns-then-bits_fit c =
    c.insert.ensures c.args.space c.requires.0 (sym c.bits_fit.ensures ∙ c.if-bits_fit.true) c.requires.1

pub insert-requires-2-clause-chained : goal.insert-requires-2-clause-chained
unfolding capacity
insert-requires-2-clause-chained c = c.requires.0.chained (sym c.bits_fit.ensures ∙ c.if-bits_fit.false)

pub insert-requires-2-clause-n_bound : goal.insert-requires-2-clause-n_bound
insert-requires-2-clause-n_bound c =
    let few = stored_few c.requires.0 in
    (c.requires.0.room, omega (arith, c.requires.2))

pub returns : goal.returns
unfolding capacity
returns c =
    c.insert-2.ensures c.args.space c.requires.0 (sym c.bits_fit.ensures ∙ c.if-bits_fit.false) c.requires.1
