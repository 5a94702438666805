-- Each pass leaves what the next one needs. A pass that marks an entry is one of the first n, so all of them can be counted, and the
-- last pass leaves the rounds.
use Rattle.std.proofs.Common.{◌≡◌, ◌+◌, ◌-◌, ◌≤◌, ◌<◌, refl, sym, ◌∙◌, arith}
use Rattle.outcome.specs.Bytes.{all_ones}
use Rattle.game_index.specs.Reading.{rules_in}
use Rattle.game_state_pairs.proofs.PairMembers.{every-pair}
use Rattle.comparer_rank_laws.proofs.FewPositions.{few_positions}
use Rattle.comparer_rank.proofs.PartWay.{begins-searchable}
use Rattle.comparer_rank.proofs.PassResults.{pass_rest, pass_begins, pass_covers-lost, pass_covers, pass_bound, pass_final}
use Rattle.comparer_rank.proofs.rank.Goals as goal

pub lost_pairs-losing-requires : goal.lost_pairs-losing-requires
lost_pairs-losing-requires c =
    let index = c.args.index.now.of_a_task in
    (begins-searchable index (pass_begins index 0 c.requires c.pass_zero.ensures)).fitting

pub loop-next-init : goal.loop-next-init
loop-next-init c =
    let index = c.args.index.now.of_a_task in
    let begins = pass_begins index 0 c.requires c.pass_zero.ensures in
    record {
      few = omega arith;
      long = refl;
      rest = refl;
      ready = record {
        least = omega arith;
        small = omega arith;
        begins = begins;
        covers-lost = rw c.lost_pairs-losing.ensures (pass_covers-lost index 0 (omega arith) begins);
        covers = λ p m e. every-pair p.left p.right;
      };
    }

pub lost_pairs-lost-requires : goal.lost_pairs-lost-requires
lost_pairs-lost-requires c =
    let index = c.args.index.now.of_a_task in
    (begins-searchable index (pass_begins index _ c.loop-next.invariant.ready.begins c.pass.ensures.leveled)).fitting

pub lost_pairs-losing-requires-in-loop-next : goal.lost_pairs-losing-requires-in-loop-next
lost_pairs-losing-requires-in-loop-next c =
    let index = c.args.index.now.of_a_task in
    (begins-searchable index (pass_begins index _ c.loop-next.invariant.ready.begins c.pass.ensures.leveled)).fitting

-- a pass that marks an entry is one of the first n
pub loop-next-smaller : goal.loop-next-smaller
loop-next-smaller c =
    let ready = c.loop-next.invariant.ready in
    let bound = pass_bound c.args.index.now.of_a_task c.loop-next.k ready.small (sym c.pass.ensures.value ∙ c.loop-next-test.true) in
    omega (arith, bound, c.requires.counted)

pub loop-next-preserved : goal.loop-next-preserved
loop-next-preserved c =
    let index = c.args.index.now.of_a_task in
    let ready = c.loop-next.invariant.ready in
    let k = c.loop-next.k in
    let e : k + 1 - 1 ≡ k = omega arith in
    let bound = pass_bound index k ready.small (sym c.pass.ensures.value ∙ c.loop-next-test.true) in
    let more : k ≤ c.args.n = omega (arith, bound, c.requires.counted) in
    let small : k + 1 < all_ones = omega (arith, more, few_positions index (rules_in c.args.index.now.bytes), c.requires.counted) in
    let begins = pass_begins index k ready.begins c.pass.ensures.leveled in
    record {
      few = omega (arith, more);
      long = c.pass.auto.table ∙ c.loop-next.invariant.long;
      rest = pass_rest index k ready.begins c.pass.ensures.leveled ∙ c.loop-next.invariant.rest;
      ready = record {
        least = omega arith;
        small = small;
        begins = rw e begins;
        covers-lost = rw (e, c.lost_pairs-losing-in-loop-next.ensures) (pass_covers-lost index k small begins);
        covers = rw (c.sources-worth.ensures, c.lost_pairs-lost.ensures) (pass_covers index k small begins ready.least);
      };
    }

pub returns : goal.returns
returns c =
    let index = c.args.index.now.of_a_task in
    let ready = c.loop-next.invariant.ready in
    c.pass.ensures.leveled
    ∙ rw (
      pass_final index c.loop-next.k ready.least (sym c.pass.ensures.value ∙ c.loop-next-test.false),
      c.loop-next.invariant.rest,
      pass_rest index 0 c.requires c.pass_zero.ensures,
    )
