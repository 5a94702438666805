-- The first attack of a side that wins, edge by edge, and that of a position, side by side. A side that attacks does so with the
-- range of the edges that start in its state. For any judgement and register count. Assumes nothing.
use Prim.Native.Nat.{ℕ, suc, ◌+◌, ◌-◌, ◌≤◌, ◌<◌}
use mathlib.Core.Path.{◌≡◌, sym, ◌∙◌, ap}
use mathlib.Core.Bool.{Bool, true, false, cond}
use mathlib.Core.List.{List, [], ◌++◌, flat_map}
use Rattle.std.specs.Prelude.{Option, None, Some, MatchOption}
use native.Mathlib.Numerals.{add-one}
use native.Mathlib.Omega.{arith}
use Rattle.fra.specs.Lists.{first, count}
use Rattle.fra.specs.Rules.{Rules, model_of}
use Rattle.fra.specs.Position.{state_of}
use Rattle.fra.specs.declared.Position.{Position}
use Rattle.fra.specs.declared.Task.{Task}
use Rattle.fra.specs.declared.Side.{Side}
use Rattle.fra.specs.declared.Side.TheVariants.{Left, Right}
use Rattle.fra.specs.declared.Attack.{Attack}
use Rattle.fra_laws.proofs.KeptLists.{keep_and}
use Rattle.fra_laws.proofs.Lists.{first-append}
use Rattle.game_moves.specs.AttacksBySide.{edge_attacks, side_attacks}
use Rattle.game_moves.proofs.AttacksBySide.{attacks_by_side}
use Rattle.game_index.specs.Ranges.{edges_of, state_range}
use Rattle.game_index.specs.Reading.{model_in, task_in, rules_in}
use Rattle.game_index.specs.Writing.{Index}
use Rattle.game_index.proofs.Reading.{model_in_lem, index-model, sized_in}
use Rattle.game_index.proofs.EdgeRanges.{state_range_lem}
use Rattle.game_replies.specs.Winner.{wins_by, winner}

-- ── One list of attacks after another ──

module _ (f : Attack → Bool) (l m : List Attack) where
  found_first : {a : Attack} → first f l ≡ Some a → first f (l ++ m) ≡ Some a
  found_first e = first-append f l m ∙ rw e

  found-later : first f l ≡ None → first f (l ++ m) ≡ first f m
  found-later e = first-append f l m ∙ rw e

-- ── A side, edge by edge ──

module _ (t : Task) (p : Position) (s : Side) where
  -- the attacks with the edges from number k on, below n
  unfoldable pub attacks_within : ℕ → ℕ → List Attack
  attacks_within k n = flat_map (edge_attacks t p s) (count k (n - k))

  module _ (lost : Position → Bool) (k n : ℕ) where
    abbrev wins : Attack → Bool
    wins = wins_by t lost p

    next_edge : k < n → attacks_within k n ≡ edge_attacks t p s k ++ attacks_within (k + 1) n
    unfolding attacks_within flat_map count
    next_edge b = let more : n - k ≡ suc (n - (k + 1)) = omega arith in rw (more, add-one)

    pub edge-wins : k < n → {a : Attack} → first wins (edge_attacks t p s k) ≡ Some a → first wins (attacks_within k n) ≡ Some a
    edge-wins b e = rw (next_edge b) (found_first wins (edge_attacks t p s k) (attacks_within (k + 1) n) e)

    pub edge_fails : k < n → first wins (edge_attacks t p s k) ≡ None
        → first wins (attacks_within k n) ≡ first wins (attacks_within (k + 1) n)
    edge_fails b e = rw (next_edge b) (found-later wins (edge_attacks t p s k) (attacks_within (k + 1) n) e)

    pub no_edge-wins : n ≤ k → first wins (attacks_within k n) ≡ None
    unfolding attacks_within flat_map count first
    no_edge-wins b = let d : n - k ≡ 0 = omega arith in rw d

-- if the side attacks, it does so with the edges that start in its state
module _ (g : Rules) (t : Task) (p : Position) (s : Side) where
  by_flag : side_attacks g t p s ≡ flat_map (edge_attacks t p s) (cond (g.attacks s) (edges_of (model_of t s) (state_of p s)) [])
  unfolding edges_of
  by_flag = ap (flat_map (edge_attacks t p s)) (keep_and (g.attacks s) _ (count 0 (model_of t s).edge_count))

  pub side_idle : g.attacks s ≡ false → side_attacks g t p s ≡ []
  unfolding flat_map
  side_idle e = by_flag ∙ rw e

pub side_by_range : {b : List ℕ} → Index b → (p : Position) (s : Side) → (rules_in b).attacks s ≡ true
    → side_attacks (rules_in b) (task_in b) p s
    ≡ attacks_within (task_in b) p s (state_range (model_in b s) (state_of p s)).first (state_range (model_in b s) (state_of p s)).end
unfolding attacks_within
side_by_range {b} h p s e =
    by_flag (rules_in b) (task_in b) p s
    ∙ rw (e, state_range_lem (index-model h s) (sized_in b s) (state_of p s), model_in_lem b s)

-- ── Both sides ──

module _ (g : Rules) (t : Task) (lost : Position → Bool) (p : Position) where
  abbrev winning : Attack → Bool
  winning = wins_by t lost p

  pub left-wins : {a : Attack} → first winning (side_attacks g t p Left) ≡ Some a → winner g t lost p ≡ Some a
  unfolding winner
  left-wins e = rw (attacks_by_side g t p) (found_first winning (side_attacks g t p Left) (side_attacks g t p Right) e)

  pub left_fails : first winning (side_attacks g t p Left) ≡ None
      → winner g t lost p ≡ first winning (side_attacks g t p Right)
  unfolding winner
  left_fails e = rw (attacks_by_side g t p) (found-later winning (side_attacks g t p Left) (side_attacks g t p Right) e)

  -- the left side's, or else the right side's
  pub either-side : (l r : Option Attack) {P : Type 0} → l ≡ first winning (side_attacks g t p Left)
      → MatchOption l P (λ a. r ≡ Some a)
      → (P → r ≡ first winning (side_attacks g t p Right))
      → r ≡ winner g t lost p
  either-side None r e h right = right h ∙ sym (left_fails (sym e))
  either-side (Some a) r e h right = h ∙ sym (left-wins (sym e))
