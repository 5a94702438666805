use Rattle.std.proofs.Common.{◌≡◌, ◌+◌, ◌-◌, arith, take, drop}
use native.Mathlib.Nat.{add-zero}
use lib.Seq.{get_or-drop, drop-drop}
use Rattle.outcome.specs.Check.{position_of}
use Rattle.listing.proofs.position_from.Goals as goal

pub returns : goal.returns
unfolding position_of
returns c =
    let at = c.args.at in
    let l = c.args.list.now in
    let partners : c.copy_from_slice.new.self ≡ take 6 (drop 2 (drop at l)) =
    let six : at + 8 - (at + 2) ≡ 6 = omega arith in
    rw (drop-drop, ← six) c.copy_from_slice.ensures.after in
    rw partners (simp (get_or-drop, add-zero))
