-- Pairs that are added to a set stay in it, and the set of all has every pair. Assumes nothing.
use Prim.Native.Nat.{ℕ, ◌+◌, ◌*◌, ◌<◌}
use mathlib.Core.Path.{◌≡◌}
use mathlib.Core.Bool.{true}
use mathlib.Core.List.{List}
use native.Mathlib.Nat.{mod-lt}
use native.Mathlib.Omega.{arith}
use native.Mathlib.Decide.{ℕ_discrete}
use lib.ListN.{length, get_or-replicate}
use lib.Seq.{get_or-set_same, get_or-set_other}
use Rattle.game_state_pairs.specs.StatePairs.{state_places, pair_places, pair_of, has_pair, with_pair, all_pairs}

pair_place : (left right : ℕ) → pair_of left right < pair_places
pair_place left right = mod-lt (left * state_places + right) (omega arith)

pub every-pair : (left right : ℕ) → has_pair all_pairs left right ≡ true
every-pair left right = rw (get_or-replicate {A = ℕ} pair_places (pair_of left right) 1 0 (pair_place left right))

module _ (pairs : List ℕ) (long : length pairs ≡ pair_places) (left right : ℕ) where
  pub with-adds : has_pair (with_pair pairs left right) left right ≡ true
  with-adds = rw (get_or-set_same pairs (pair_of left right) 1 0 (rw long (pair_place left right)))

  pub with_keeps : (a b : ℕ) → has_pair pairs a b ≡ true → has_pair (with_pair pairs left right) a b ≡ true
  with_keeps a b h = step (ℕ_discrete (pair_of a b) (pair_of left right))
    where
      step : Dec (pair_of a b ≡ pair_of left right) → has_pair (with_pair pairs left right) a b ≡ true
      step (yes e) = rw e with-adds
      step (no d) = rw (get_or-set_other pairs (pair_of left right) (pair_of a b) 1 0 d) h
