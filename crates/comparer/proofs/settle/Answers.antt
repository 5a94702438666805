-- The keys found, in order and laid out, are ranked.
use Rattle.std.proofs.Common.{◌*◌, ◌++◌, sym, ◌∙◌, ap, subst, arith, drop}
use Rattle.listing.specs.Widths.{entry_width}
use Rattle.table_keys.specs.Keys.{key_count, Sized}
use Rattle.table_keys.specs.declared.Radix.{Radix}
use Rattle.table_keys.proofs.Keys.{key_count-small, radix_sized}
use Rattle.table_laws.specs.Table.{keys, KeysBelow, laid_out}
use Rattle.key_set_laws.specs.Stored.{Stored}
use Rattle.comparer.proofs.Outcomes.{in_order-below, laid_out_lem, all-ranked}
use Rattle.comparer.proofs.settle.Goals as goal

pub key_count-requires : goal.key_count-requires
key_count-requires c = subst Sized (sym c.of-radix.ensures) (radix_sized c.args.index.now.of_a_task)

pub put_in_order-requires : goal.put_in_order-requires
put_in_order-requires c =
    let sized = subst Sized (sym c.of-radix.ensures) (radix_sized c.args.index.now.of_a_task) in
    let count = c.key_count.ensures ∙ ap key_count c.of-radix.ensures in (
      subst (λ k. Stored k c.args.n c.args.table.now) (sym count) c.requires.stored,
      omega (arith, c.key_count.ensures, key_count-small sized),
    )

pub lay_out-requires : goal.lay_out-requires
lay_out-requires c =
    let below = in_order-below c.args.index.now.of_a_task c.requires c.put_in_order.ensures in (
      omega (arith, c.requires.room, c.put_in_order.auto.table),
      subst Sized (sym c.of-radix.ensures) (radix_sized c.args.index.now.of_a_task),
      subst (λ x. KeysBelow (key_count x) c.args.n c.put_in_order.new.table) (sym c.of-radix.ensures) below,
    )

pub rank-requires : goal.rank-requires
rank-requires c =
    let n = c.args.n in
    let x = c.put_in_order.new.table in
    let out =
    c.lay_out.ensures ∙ ap (λ (r : Radix). laid_out r (keys n x) ++ drop (n * entry_width) x) c.of-radix.ensures in
    laid_out_lem c.args.index.now.of_a_task c.requires c.put_in_order.ensures out

pub returns : goal.returns
returns c = all-ranked c.args.index.now.of_a_task _ c.requires.counted c.rank.ensures
