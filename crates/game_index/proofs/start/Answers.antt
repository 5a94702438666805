use Rattle.std.proofs.Common.{◌≡◌, rules, arith, length}
use Rattle.fra_laws.proofs.ByPlace.{part}
use Rattle.game_index.specs.Layout.{partners_at, size}
use Rattle.game_index.proofs.start.Goals as goal

pub returns : goal.returns
returns c =
    let b = c.args.index.now in
    let long : length b ≡ size = search rules in
    rw (part 6 b partners_at (omega arith), c.copy_from_slice.ensures.after)
