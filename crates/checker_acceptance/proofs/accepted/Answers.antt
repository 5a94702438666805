use Rattle.std.proofs.Common.{◌≡◌, true, false, is_some, refl, sym, ◌∙◌}
use native.Mathlib.Nat.{sub-zero}
use Rattle.fra_laws.proofs.ByPlace.{all_stop, all_on, all_end}
use Rattle.game_index.specs.Reading.{task_in}
use Rattle.checker_laws.proofs.LookedUp.{accepted_by-places}
use Rattle.checker_acceptance.proofs.accepted.Goals as goal

pub find-place-requires : goal.find-place-requires
find-place-requires c = rw c.records_of-records.ensures c.requires

pub returns-then-not-listed : goal.returns-then-not-listed
unfolding task_in
returns-then-not-listed c =
    let place = rw (c.start.ensures, c.records_of-records.ensures) at c.find-place.ensures in
    let none : is_some c.find-place.result ≡ false = cc in
    rw (accepted_by-places, ← place, none)

pub loop-i-init : goal.loop-i-init
unfolding task_in
loop-i-init c =
    let place = rw (c.start.ensures, c.records_of-records.ensures) at c.find-place.ensures in
    let some : is_some c.find-place.result ≡ true = cc in
    (rw c.records_of-records.ensures, rw (accepted_by-places, ← place, some, sub-zero, c.records_of-records.ensures))

pub record_holds-requires : goal.record_holds-requires
record_holds-requires c = record {
  testable = record { index = c.args.index.now.of_a_task; searchable = c.requires; every = refl };
  i_bound = rw c.loop-i.invariant.0 at c.loop-i-test.true;
}

pub returns-then-not-record_holds : goal.returns-then-not-record_holds
returns-then-not-record_holds c =
    sym
    (c.loop-i.invariant.1
    ∙ all_stop _ _ _ c.loop-i-test.true (sym c.record_holds.ensures ∙ c.if-not-record_holds.true))

pub loop-i-preserved : goal.loop-i-preserved
loop-i-preserved c = (
  c.loop-i.invariant.0,
  c.loop-i.invariant.1 ∙ all_on _ _ _ c.loop-i-test.true (sym c.record_holds.ensures ∙ c.if-not-record_holds.false),
)

pub returns : goal.returns
returns c = sym (c.loop-i.invariant.1 ∙ all_end _ _ _ c.loop-i-test.false)
