use Rattle.std.proofs.Common.{◌≡◌, ◌<◌, ℕ, List, Bool, true, false, not, cond, leb, refl, sym, ◌∙◌, Result, Ok, Err}
use borrow.Author.Tests.{leb-false}
use Rattle.fra.specs.declared.Model.{Model}
use Rattle.task.specs.TaskFile.{max_edges, edge_exists, rises, edge_refusal}
use Rattle.task.specs.declared.Refusal.{Refusal}
use Rattle.task.specs.declared.Refusal.TheVariants.{BadEdge, BrokenRule, EdgesNotRising, TooManyEdges}
use Rattle.task_edges.specs.Ruled.{ruled}
use Rattle.task_edges.proofs.edge.step_of.Goals as goal

-- a model that takes an edge has room for it
edge-room : (m : Model) (body : List ℕ) → edge_refusal m body ≡ Ok tt → m.edge_count < max_edges
unfolding edge_refusal
edge-room m body e =
    leb-false max_edges m.edge_count (last (edge_exists m body) (ruled m body) (rises m body) (leb max_edges m.edge_count) e)
  where
    last : (a b c d : Bool)
        → ◌≡◌ {A = Result (Unit {0}) Refusal}
        (cond (not a) (Err BadEdge)
        (cond (not b) (Err BrokenRule) (cond (not c) (Err EdgesNotRising) (cond d (Err TooManyEdges) (Ok tt)))))
        (Ok tt)
        → d ≡ false
    last a b c false e = refl
    last false b c true e = cc
    last true false c true e = cc
    last true true false true e = cc
    last true true true true e = cc

pub with_edge-requires : goal.with_edge-requires
with_edge-requires c = edge-room c.model_of-m.result c.args.body.now (sym c.admit.ensures ∙ c.in_ok-admit.was)
