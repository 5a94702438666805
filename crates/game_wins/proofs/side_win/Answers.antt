use Rattle.std.proofs.Common.{sym, ◌∙◌}
use Rattle.fra.specs.Lists.{first}
use Rattle.game_index.specs.Reading.{task_in, rules_in}
use Rattle.game_wins.proofs.SideEdges.{edge-wins, edge_fails, no_edge-wins, side_idle, side_by_range}
use Rattle.game_wins.proofs.side_win.Goals as goal

pub returns-then-not-attacks : goal.returns-then-not-attacks
unfolding first
returns-then-not-attacks c =
    let a = c.args in
    let b = a.index.now.bytes in
    rw (side_idle (rules_in b) (task_in b) a.p a.side (sym c.attacks.ensures ∙ c.if-not-attacks.true))

pub loop-k-init : goal.loop-k-init
loop-k-init c =
    let range = side_by_range c.args.index.now.of_a_task c.args.p c.args.side (sym c.attacks.ensures ∙ c.if-not-attacks.false) in
    rw (range, c.edges_of-edges.ensures, c.state.ensures)

pub returns-in-Some : goal.returns-in-Some
returns-in-Some c =
    sym (c.loop-k.invariant ∙ edge-wins _ _ _ _ _ _ c.loop-k-test.true (sym c.edge_win.ensures ∙ c.in-Some.is))

pub loop-k-preserved : goal.loop-k-preserved
loop-k-preserved c =
    c.loop-k.invariant ∙ edge_fails _ _ _ _ _ _ c.loop-k-test.true (sym c.edge_win.ensures ∙ c.in_default.is)

pub returns : goal.returns
returns c = sym (c.loop-k.invariant ∙ no_edge-wins _ _ _ _ _ _ c.loop-k-test.false)
