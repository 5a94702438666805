-- from a state's least code on, below that of the next state
use Prim.Native.Nat.{◌*◌, ◌+◌, suc}
use mathlib.Core.Path.{◌≡◌}
use native.Mathlib.Omega.{arith}
use borrow.Author.Tests.{lt-ltb, le-ltb}
use Rattle.game_index.specs.Ranges.{code_of, state_range}
use Rattle.game_index.proofs.edges_of.Goals as goal

pub returns-then-q-ge-STATES : goal.returns-then-q-ge-STATES
unfolding state_range
returns-then-q-ge-STATES c = rw (le-ltb _ _ c.if-q-ge-STATES.true)

pub returns : goal.returns
unfolding state_range
returns c =
    let q = c.args.q in
    let low : q * 128 ≡ code_of q 0 = omega arith in
    let high : q * 128 + 128 ≡ code_of (suc q) 0 = omega arith in
    rw (lt-ltb _ _ c.if-q-ge-STATES.false, ← low, ← high) (rw (c.first_edge.ensures, c.first_edge-2.ensures))
