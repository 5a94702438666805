use Rattle.std.proofs.Common.{◌≡◌, refl, ◌+◌, ◌*◌, rules, arith, length, add-one}
use mathlib.Core.List.{flat_map}
use lib.Seq.{take_all}
use Rattle.fra.specs.Model.{no_state}
use Rattle.fra_laws.proofs.Lengths.{length-of-map}
use Rattle.game_index.specs.Layout.{state_places, state_width}
use Rattle.game_index.specs.Writing.{state_bytes}
use Rattle.game_indexing.proofs.EqualStrings.{strings_more}
use Rattle.game_indexing.proofs.put_states.Goals as goal

pub loop-q-init : goal.loop-q-init
unfolding flat_map
loop-q-init c = refl

pub loop-q-preserved : goal.loop-q-preserved
loop-q-preserved c =
    let a = c.args in
    let q = c.loop-q.q in
    let long : length a.m.states ≡ state_places = search (rules, length-of-map) in
    rw (c.loop-q.invariant, add-one (a.at + state_width * q))
    (strings_more state_bytes state_width (λ s. refl) a.out.now a.at a.m.states q no_state (omega arith))

pub returns : goal.returns
returns c =
    let states = c.args.m.states in
    let long : length states ≡ state_places = search (rules, length-of-map) in
    rw (take_all c.loop-q.q states (omega arith)) at c.loop-q.invariant
