-- The attacks of a position, side by side, edge by edge and case by case, and where a round leads. Assumes nothing.
use Prim.Native.Nat.{ℕ, ◌<◌}
use mathlib.Core.Path.{◌≡◌, refl, ◌∙◌, ap}
use mathlib.Core.Bool.{Bool, true, false, cond, ◌&&◌}
use mathlib.Core.List.{[], ◌++◌, map}
use native.Mathlib.Omega.{arith}
use lib.ListN.{length}
use lib.Dec.{ltb, eqb}
use borrow.Author.Tests.{lt-ltb}
use Rattle.fra.specs.Lists.{keep, count}
use Rattle.fra.specs.Model.{edge_of}
use Rattle.fra.specs.Rules.{Rules, model_of}
use Rattle.fra.specs.Position.{state_of}
use Rattle.fra.specs.Game.{has_case, is_attack, cases, named, attacks, moved}
use Rattle.fra.specs.declared.Edge.{Edge}
use Rattle.fra.specs.declared.Position.{Position}
use Rattle.fra.specs.declared.Task.{Task}
use Rattle.fra.specs.declared.Side.{Side}
use Rattle.fra.specs.declared.Side.TheVariants.{Left, Right}
use Rattle.fra.specs.declared.IdCase.{IdCase}
use Rattle.fra.specs.declared.Attack.{Attack}
use Rattle.fra_laws.proofs.Lists.{count_elim}
use Rattle.game_moves.specs.AttacksBySide.{edge_attacks, attacking, side_attacks}
use Rattle.game_moves.specs.AfterRound.{target_of, moved_to}
use Rattle.fra_laws.proofs.KeptLists.{keep_append, keep_same, keep_and, keep-map, keep-flat_map, flat_map-keep}

-- the position after a round is read off the two edges' targets
pub moved-to : (t : Task) (p : Position) (size : ℕ) (l r : Edge)
    → moved_to p size (target_of t.left l) (target_of t.right r) ≡ moved t p size l r
unfolding moved moved_to
moved-to t p size l r = refl

module _ (g : Rules) (t : Task) (p : Position) where
  -- of what edge number k of side s could name, those that are attacks
  edge-attacks : (s : Side) (k : ℕ) → k < (model_of t s).edge_count
      → keep (is_attack g t p) (map (λ c. record { side = s; edge = k; case = c }) (cases (length p.partners)))
      ≡ cond (attacking g t p s k) (edge_attacks t p s k) []
  unfolding is_attack
  edge-attacks s k h =
      keep-map (is_attack g t p) name (cases (length p.partners))
      ∙ ap (map name) (keep_same _ _ (cases (length p.partners)) (λ c m. tested (g.attacks s) c) ∙ keep_and (attacking g t p s k) _ _)
      ∙ mapped (attacking g t p s k)
    where
      name : IdCase → Attack
      name c = record { side = s; edge = k; case = c }

      starts : Bool
      starts = eqb (edge_of (model_of t s) k).from (state_of p s)

      in_case_lem : IdCase → Bool
      in_case_lem = has_case t p s (edge_of (model_of t s) k).kind

      tested : (b : Bool) (c : IdCase) → (b && ltb k (model_of t s).edge_count && starts && in_case_lem c) ≡ (b && starts && in_case_lem c)
      tested true c = rw (lt-ltb _ _ h)
      tested false c = refl

      mapped : (b : Bool) → map name (cond b (keep in_case_lem (cases (length p.partners))) [])
          ≡ cond b (map name (keep in_case_lem (cases (length p.partners)))) []
      mapped true = refl
      mapped false = refl

  pub attacks_by_side : attacks g t p ≡ side_attacks g t p Left ++ side_attacks g t p Right
  unfolding attacks named
  attacks_by_side =
      keep_append (is_attack g t p) (named (length p.partners) t Left) (named (length p.partners) t Right)
      ∙ rw (of-side Left, of-side Right)
    where
      of-side : (s : Side) → keep (is_attack g t p) (named (length p.partners) t s) ≡ side_attacks g t p s
      of-side s =
          keep-flat_map (is_attack g t p) _ (count 0 (model_of t s).edge_count)
          ∙ flat_map-keep (attacking g t p s) (edge_attacks t p s) _ (count 0 (model_of t s).edge_count)
          (λ k m. edge-attacks s k (omega (arith, (count_elim 0 (model_of t s).edge_count k m).1)))
