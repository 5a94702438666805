-- from the least code of a state and a tag on, below that of the next tag
use Prim.Native.Nat.{◌*◌, ◌+◌, suc}
use mathlib.Core.Path.{◌≡◌}
use mathlib.Core.Bool.{and-false}
use native.Mathlib.Omega.{arith}
use borrow.Author.Tests.{lt-ltb, le-ltb}
use Rattle.game_index.specs.Ranges.{code_of, tag_range}
use Rattle.game_index.proofs.tagged.Goals as goal

pub returns-then-q-ge-STATES : goal.returns-then-q-ge-STATES
unfolding tag_range
returns-then-q-ge-STATES c = rw (le-ltb _ _ c.if-q-ge-STATES.true)

pub returns-then-tag-ge-TAGS : goal.returns-then-tag-ge-TAGS
unfolding tag_range
returns-then-tag-ge-TAGS c = rw (le-ltb _ _ c.if-tag-ge-TAGS.true, and-false)

pub returns : goal.returns
unfolding tag_range
returns c =
    let a = c.args in
    let low : a.q * 128 + a.tag * 4 ≡ code_of a.q a.tag = omega arith in
    let high : a.q * 128 + a.tag * 4 + 4 ≡ code_of a.q (suc a.tag) = omega arith in
    rw (lt-ltb _ _ c.if-q-ge-STATES.false, lt-ltb _ _ c.if-tag-ge-TAGS.false, ← low, ← high)
    (rw (c.first_edge.ensures, c.first_edge-2.ensures))
