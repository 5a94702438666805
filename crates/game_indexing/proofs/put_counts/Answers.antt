use Rattle.std.proofs.Common.{◌≡◌, rules, arith, length}
use Rattle.game_index.specs.Layout.{size}
use Rattle.game_index.specs.Writing.{count_bytes}
use Rattle.game_indexing.proofs.Appended.{put_mid-sets}
use Rattle.game_indexing.proofs.put_counts.Goals as goal

pub returns : goal.returns
returns c =
    let a = c.args in
    let long : length a.out.now ≡ size = search rules in
    put_mid-sets a.at _ a.out.now c.copy_from_slice.new.self (count_bytes a.m) c.copy_from_slice.ensures.after (omega arith)
    (omega arith)
