use Rattle.std.proofs.Common.{◌≡◌, ◌∙◌, rules, arith, length}
use Rattle.fra.specs.Model.{edge_bytes}
use Rattle.game_index.specs.Layout.{size}
use Rattle.game_index.specs.Writing.{entry_of}
use Rattle.game_indexing.proofs.Appended.{put_mid-sets}
use Rattle.game_indexing.proofs.Flags.{test-byte}
use Rattle.game_indexing.proofs.put_edge.Goals as goal

pub returns : goal.returns
unfolding edge_bytes
returns c =
    let a = c.args in
    let long : length a.out.now ≡ size = search rules in
    put_mid-sets a.at _ a.out.now c.copy_from_slice.new.self (entry_of a.e a.set a.drops)
    (c.copy_from_slice.ensures.after ∙ rw (c.number.ensures, c.register.ensures, test-byte a.drops))
    (omega arith)
    (omega arith)
