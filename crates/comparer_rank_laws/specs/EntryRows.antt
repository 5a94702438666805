-- The entries of positions, with their rounds given by a function.
use Rattle.std.specs.Prelude.{ℕ, ◌*◌, ◌≡◌, length, drop}
use mathlib.Core.List.{List, ◌++◌, flat_map}
use Rattle.fra.specs.declared.Position.{Position}
use Rattle.listing.specs.Widths.{entry_width}
use Rattle.table_laws.specs.Table.{row}

-- an entry: "position, then rounds"
unfoldable pub rows : (Position → ℕ) → List Position → List ℕ
rows f l = flat_map (λ p. row p (f p)) l

-- the table begins with these n positions, with these rounds
pub record BeginsWith (l : List Position) (rounds : Position → ℕ) (n : ℕ) (table : List ℕ) : Type 0 where
  pub counted : n ≡ length l
  pub begins : table ≡ rows rounds l ++ drop (n * entry_width) table
