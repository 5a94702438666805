use Rattle.std.proofs.Common.{◌≡◌, length, rules, arith}
use lib.ListN.{length-set}
use Rattle.game_moves.specs.AfterRound.{moved_to}
use Rattle.game_moves.proofs.Matchings.{matched-more, matched-all}
use Rattle.game_moves.proofs.rounds.moved.Goals as goal

pub loop-i-preserved : goal.loop-i-preserved
loop-i-preserved c =
    let l = c.args.left in
    let r = c.args.right in
    let old : length c.args.p.partners ≡ 6 = search rules in
    let (long, same) = c.loop-i.invariant in
    let more = matched-more l.set r.set l.register r.register c.args.p.partners c.loop-i.partners c.loop-i.i (omega arith) same (omega arith) in
    (simp length-set long, rw (c.remaining.ensures, c.rejoined-x.ensures) more)

pub returns : goal.returns
unfolding moved_to
returns c =
    let l = c.args.left in
    let r = c.args.right in
    let old : length c.args.p.partners ≡ 6 = search rules in
    let (long, same) = c.loop-i.invariant in
    rw (matched-all l.set r.set l.register r.register c.args.p.partners c.loop-i.partners c.loop-i.i (omega arith) same (omega arith))
