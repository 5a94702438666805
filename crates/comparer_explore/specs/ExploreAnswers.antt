-- What a visit of wanted keys and the exploring of a task answer.
use Rattle.std.specs.Prelude.{ℕ, ◌≡◌, true, false, List, map, length, ltb, Result, Ok, Err}
use Rattle.fra.specs.Rules.{Rules}
use Rattle.fra.specs.Reach.{reached}
use Rattle.fra.specs.declared.Task.{Task}
use Rattle.outcome.specs.Compare.{capacity}
use Rattle.table_keys.specs.Keys.{key_of, key_count, radix_of}
use Rattle.table_laws.specs.Sorted.{Permuted}
use Rattle.table_laws.specs.Table.{keys}
use Rattle.key_set_laws.specs.Stored.{Stored}
use Rattle.key_set_laws.specs.Growth.{Completes, Overflows}
use Rattle.key_set.specs.declared.Full.{Full}

-- all wanted keys are held, by m entries; or one of them has no room
abbrev pub Visited : ℕ → (ℕ → Type 0) → ℕ → List ℕ → Result ℕ Full → List ℕ → Type 0
Visited space Wanted n old (Ok m) new = Completes space Wanted n old m new
Visited space Wanted n old (Err full) new = Overflows space Wanted n old new

-- the answer where n positions are reached and the table has room for so many
unfoldable pub explored_in : ℕ → ℕ → Result ℕ Full
explored_in room n = elim (ltb room n) [ true ↦ Err (record {}) | false ↦ Ok n ]

-- the answer, and the table after it: it begins with the keys of the positions reached, in some order, and is a set of them
pub record Explores (g : Rules) (t : Task) (old : List ℕ) (r : Result ℕ Full) (new : List ℕ) : Type 0 where
  pub answer : r ≡ explored_in (capacity old) (length (reached g t))
  pub long : length new ≡ length old
  pub found : (n : ℕ) → r ≡ Ok n → Permuted (keys n new) (map (key_of (radix_of t)) (reached g t))
  pub stored : (n : ℕ) → r ≡ Ok n → Stored (key_count (radix_of t)) n new
