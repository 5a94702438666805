-- Test by test.
use Rattle.std.proofs.Common.{◌≡◌, ◌<◌, length, leb, ◌&&◌, rules, sym, ◌∙◌}
use borrow.Author.Tests.{le-ltb, lt-ltb, eq-eqb}
use Rattle.fra.specs.Position.{most_seen, filled, held, matching, legal}
use Rattle.fra.specs.declared.Position.{Position}
use Rattle.fra.specs.declared.Task.{Task}
use Rattle.fra.specs.declared.Side.TheVariants.{Left, Right}
use Rattle.game_index.specs.Reading.{task_in}
use Rattle.checker_form.proofs.legality.legal.Goals as goal

-- where the states exist, the partners and the history decide
existing : (t : Task) (p : Position) → length p.partners ≡ 6 → p.left < t.left.state_count → p.right < t.right.state_count
    → legal 6 t p
    ≡ (matching (filled t p Left) (filled t p Right) 1 p.partners && leb (held t p) p.history && leb p.history (most_seen 6))
unfolding legal
existing t p six left right = rw (lt-ltb _ _ left, lt-ltb _ _ right, eq-eqb _ _ six)

pub returns-then-state_count-p : goal.returns-then-state_count-p
unfolding legal task_in
returns-then-state_count-p c = rw (← c.state_count.ensures, le-ltb _ _ c.if-state_count-p.true)

pub returns-then-state_count-p-2 : goal.returns-then-state_count-p-2
unfolding legal task_in
returns-then-state_count-p-2 c =
    rw (
      ← c.state_count.ensures,
      lt-ltb _ _ c.if-state_count-p.false,
      ← c.state_count-2.ensures,
      le-ltb _ _ c.if-state_count-p-2.true,
    )

pub returns-then-not-matching : goal.returns-then-not-matching
unfolding task_in
returns-then-not-matching c =
    let six : length c.args.p.partners ≡ 6 = search rules in
    let left = rw c.state_count.ensures at c.if-state_count-p.false in
    let right = rw c.state_count-2.ensures at c.if-state_count-p-2.false in
    let told = rw (c.set_of-left.ensures, c.set_of-right.ensures) at c.matching.ensures in
    sym (existing (task_in c.args.index.now) c.args.p six left right ∙ rw (sym told ∙ c.if-not-matching.true))

pub returns : goal.returns
unfolding task_in
returns c =
    let six : length c.args.p.partners ≡ 6 = search rules in
    let left = rw c.state_count.ensures at c.if-state_count-p.false in
    let right = rw c.state_count-2.ensures at c.if-state_count-p-2.false in
    let told = rw (c.set_of-left.ensures, c.set_of-right.ensures) at c.matching.ensures in
    sym
    (existing (task_in c.args.index.now) c.args.p six left right
    ∙ rw (sym told ∙ c.if-not-matching.false, c.held.ensures, c.set_of-left.ensures, c.set_of-right.ensures))
