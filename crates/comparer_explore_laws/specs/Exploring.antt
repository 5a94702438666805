-- What holds while positions are explored: the table is the set of positions found, and the queue of those whose successors are
-- still to be found.
use Rattle.std.specs.Prelude.{ℕ, ◌≤◌, ◌<◌, ◌≡◌, true, List, length}
use Rattle.fra.specs.Lists.{◌∈◌}
use Rattle.fra.specs.Rules.{Rules}
use Rattle.fra.specs.Position.{legal}
use Rattle.fra.specs.Reach.{successors, Reached}
use Rattle.fra.specs.declared.Position.{Position}
use Rattle.fra.specs.declared.Task.{Task}
use Rattle.table_keys.specs.Keys.{key_of, key_count, position_from, radix_of}
use Rattle.table_laws.specs.Table.{key_at}
use Rattle.key_set_laws.specs.Stored.{Stored, Holds}

-- the key of a position reached
abbrev pub ReachedKey : Rules → Task → ℕ → Type 0
ReachedKey g t k = (p : Position) × Reached g t p × (k ≡ key_of (radix_of t) p)

-- the key of a successor
abbrev pub SuccessorKey : Rules → Task → Position → ℕ → Type 0
SuccessorKey g t p k = (q : Position) × (q ∈ successors g t p) × (k ≡ key_of (radix_of t) q)

-- a position whose successors have keys: it is legal, and its history is no smaller than the start's
pub record Expandable (t : Task) (p : Position) : Type 0 where
  pub legal : legal 6 t p ≡ true
  pub least : t.start.history ≤ p.history

-- n positions are found in a table of `size` bytes, and the first `done` of them are expanded: all their successors are found
pub record Exploring (g : Rules) (t : Task) (size n done : ℕ) (table : List ℕ) : Type 0 where
  pub long : length table ≡ size
  pub stored : Stored (key_count (radix_of t)) n table
  pub reached : (i : ℕ) → i < n → ReachedKey g t (key_at table i)
  pub started : Holds n table (key_of (radix_of t) t.start)
  pub ahead : done ≤ n
  pub expanded : (i : ℕ) → i < done → (k : ℕ) → SuccessorKey g t (position_from (radix_of t) (key_at table i)) k → Holds n table k
