use Rattle.std.proofs.Common.{◌≡◌, length, rules, sym, ◌∙◌, arith}
use Rattle.fra.proofs.HeldNumbers.{held_none, held_more, held_all, byte_small}
use Rattle.fra.proofs.Position.held.Goals as goal

pub loop-counted-init : goal.loop-counted-init
loop-counted-init c = (omega arith, sym (held_none c.args.left c.args.right c.args.self.partners))

pub loop-counted-preserved : goal.loop-counted-preserved
loop-counted-preserved c =
    let a = c.args in
    let (most, same) = c.loop-counted.invariant in (
      omega (arith, byte_small c.has.result, byte_small c.unshared.result),
      rw (c.from.ensures, c.from-in-loop-counted.ensures, c.has.ensures, c.unshared.ensures, same)
          (sym (held_more a.left a.right a.self.partners c.loop-counted.counted)),
    )

pub returns : goal.returns
returns c =
    let a = c.args in
    let long : length a.self.partners ≡ 6 = search rules in
    let whole : c.loop-counted.counted ≡ length a.self.partners = omega arith in
    c.loop-counted.invariant.1 ∙ rw whole (sym (held_all a.left a.right a.self.partners))
