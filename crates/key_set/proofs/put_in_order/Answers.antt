-- The members by their bits are the keys in order; else they are sorted.
use Rattle.std.proofs.Common.{ℕ, List, sym, ◌∙◌, ap, arith}
use Rattle.outcome.specs.Compare.{capacity}
use Rattle.table_laws.specs.Table.{with_keys}
use Rattle.key_set_laws.proofs.InOrder.{members_few, members-sorted}
use Rattle.key_set.proofs.put_in_order.Goals as goal

pub collect-requires-clause-table_value : goal.collect-requires-clause-table_value
unfolding capacity
collect-requires-clause-table_value c = (sym c.bits_fit.ensures ∙ c.if-bits_fit.true, c.requires.1)

pub collect-requires-clause-space_len_bound : goal.collect-requires-clause-space_len_bound
unfolding capacity
collect-requires-clause-space_len_bound c =
    let s = c.requires.0 in
    omega (arith, members_few s (sym c.bits_fit.ensures ∙ c.if-bits_fit.true), s.room)

pub returns-then-bits_fit : goal.returns-then-bits_fit
unfolding capacity
returns-then-bits_fit c =
    let fit = sym c.bits_fit.ensures ∙ c.if-bits_fit.true in
    c.collect.ensures ∙ ap (λ (ks : List ℕ). with_keys ks c.args.table.now) (members-sorted c.requires.0 fit)

pub sort_keys-requires : goal.sort_keys-requires
unfolding capacity
sort_keys-requires c = omega (arith, c.requires.0.room)
