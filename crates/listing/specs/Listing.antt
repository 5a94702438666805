-- Records of positions in bytes.
use Rattle.std.specs.Prelude.{ℕ, ◌+◌, ◌*◌, ◌≤◌, ◌<◌, List, map, length, take, drop}
use Rattle.fra.specs.Lists.{count}
use Rattle.fra.specs.Position.{Rising}
use Rattle.fra.specs.declared.Position.{Position}
use Rattle.outcome.specs.Bytes.{word_at}
use Rattle.outcome.specs.Check.{position_of}
use Rattle.listing.specs.Widths.{word_width, position_width, entry_width, entry_rounds, kept_width, lost_width, lost_rounds, record_position}
use Rattle.listing.specs.Digits.{value}
use Rattle.listing.specs.declared.Listing.{Listing}

-- the first n entries of the table
abbrev pub of_table : ℕ → Listing
of_table n = record { count = n; width = entry_width; position = 0; rounds = entry_rounds }

-- a certificate's n records of positions that are never lost, which have no rounds
abbrev pub of_kept : ℕ → Listing
of_kept n = record { count = n; width = kept_width; position = record_position; rounds = 0 }

-- a certificate's n records of lost positions
abbrev pub of_lost : ℕ → Listing
of_lost n = record { count = n; width = lost_width; position = record_position; rounds = lost_rounds }

-- the position of record i
abbrev pub position_at : Listing → List ℕ → ℕ → Position
position_at y l i = position_of 6 (drop y.position (drop (i * y.width) l))

-- the rounds of record i
abbrev pub rounds_at : Listing → List ℕ → ℕ → ℕ
rounds_at y l i = word_at l (i * y.width + y.rounds)

-- the positions of all records
unfoldable pub positions_in : Listing → List ℕ → List Position
positions_in y l = map (position_at y l) (count 0 y.count)

-- the records lie within the bytes, and each has room for its position and its rounds
pub record Fitting (y : Listing) (l : List ℕ) : Type 0 where
  pub room : y.count * y.width ≤ length l
  pub position : y.position + position_width ≤ y.width
  pub rounds : y.rounds + word_width ≤ y.width

-- the positions rise, so that one can be looked up
pub record Searchable (y : Listing) (l : List ℕ) : Type 0 where
  pub fitting : Fitting y l
  pub rising : Rising (positions_in y l)

-- ── The numbers of positions' bytes, which order them ──

-- the number of the bytes of record i's position
abbrev pub number_at : Listing → List ℕ → ℕ → ℕ
number_at y l i = value 256 0 (take position_width (drop (i * y.width + y.position) l))

-- the records before place k have positions of smaller numbers than the sought one, and those from there on have not
pub record Bound (y : Listing) (l : List ℕ) (sought k : ℕ) : Type 0 where
  pub within : k ≤ y.count
  pub less : (i : ℕ) → i < k → number_at y l i < sought
  pub reached : (i : ℕ) → k ≤ i → i < y.count → sought ≤ number_at y l i
