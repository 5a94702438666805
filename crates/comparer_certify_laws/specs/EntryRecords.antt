-- The records of a certificate, by the entries of a table.
use Rattle.std.specs.Prelude.{ℕ, ◌/◌, Bool, eqb, Some}
use mathlib.Core.List.{List, flat_map}
use Rattle.fra.specs.Lists.{keep, count}
use Rattle.fra.specs.Rules.{Rules}
use Rattle.fra.specs.declared.Task.{Task}
use Rattle.outcome.specs.Bytes.{all_ones}
use Rattle.outcome.specs.Certificate.{kept_record, loss_record, loss_with}
use Rattle.outcome.specs.declared.Standing.{Standing}
use Rattle.outcome.specs.declared.Standing.TheVariants.{Kept, Lost}
use Rattle.listing.specs.Listing.{of_table, position_at, rounds_at}
use Rattle.comparer_certify_laws.specs.MarkedRounds.{is_marked}
use Rattle.comparer_certify_laws.specs.Marking.{attack_by}

-- an entry with these rounds has a record
abbrev pub is_listed : Standing → ℕ → Bool
is_listed Kept w = eqb w all_ones
is_listed Lost w = is_marked w

-- those of the first n entries that have one
unfoldable pub listed_places : Standing → ℕ → List ℕ → List ℕ
listed_places s n table = keep (λ i. is_listed s (rounds_at (of_table n) table i)) (count 0 n)

-- the record of entry i, with this kind byte
unfoldable pub record_at : Rules → Task → Standing → ℕ → ℕ → List ℕ → ℕ → List ℕ
record_at g t Kept kind n table i = kept_record kind (position_at (of_table n) table i)
record_at g t Lost kind n table i =
    let k = rounds_at (of_table n) table i / 2 in
    let p = position_at (of_table n) table i in
    loss_record kind (loss_with p (Some k) (attack_by g t n table k p))

unfoldable pub records_of : Rules → Task → Standing → ℕ → ℕ → List ℕ → List ℕ
records_of g t s kind n table = flat_map (record_at g t s kind n table) (listed_places s n table)
