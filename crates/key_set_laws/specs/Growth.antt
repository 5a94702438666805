-- How the set of keys in the table, all below `space`, grows by wanted keys.
use Rattle.std.specs.Prelude.{ℕ, ◌≤◌, ◌<◌, ◌≡◌, List, length}
use Rattle.outcome.specs.Compare.{capacity}
use Rattle.table_laws.specs.Table.{key_at}
use Rattle.key_set_laws.specs.Stored.{Stored, Holds}

-- n entries have become m: they stay, and wanted keys came after them
pub record Grows (space : ℕ) (Wanted : ℕ → Type 0) (n : ℕ) (old : List ℕ) (m : ℕ) (new : List ℕ) : Type 0 where
  pub stored : Stored space m new
  pub long : length new ≡ length old
  pub more : n ≤ m
  pub kept : (i : ℕ) → i < n → key_at new i ≡ key_at old i
  pub sound : (i : ℕ) → n ≤ i → i < m → Wanted (key_at new i)

-- all wanted keys are held
pub record Completes (space : ℕ) (Wanted : ℕ → Type 0) (n : ℕ) (old : List ℕ) (m : ℕ) (new : List ℕ) : Type 0 where
  pub grows : Grows space Wanted n old m new
  pub complete : (k : ℕ) → Wanted k → Holds m new k

-- all entries are taken, and a wanted key is not held
pub record Overflows (space : ℕ) (Wanted : ℕ → Type 0) (n : ℕ) (old : List ℕ) (new : List ℕ) : Type 0 where
  pub grows : Grows space Wanted n old (capacity old) new
  pub key : ℕ
  pub wanted : Wanted key
  pub missing : Holds (capacity old) new key → ⊥

-- wanted at some place from `first` on, below `end`
abbrev pub Among : ℕ → ℕ → (ℕ → ℕ → Type 0) → ℕ → Type 0
Among first end Wanted k = (i : ℕ) × (first ≤ i) × (i < end) × Wanted i k

-- of the places from `first` on, below `end`, those below i are passed: all keys wanted there are held
pub record Passed (space first end : ℕ) (Wanted : ℕ → ℕ → Type 0) (i n : ℕ) (old : List ℕ) (m : ℕ) (new : List ℕ) : Type 0 where
  pub from : first ≤ i
  pub within : first < i → i ≤ end
  pub visited : Completes space (Among first i Wanted) n old m new
