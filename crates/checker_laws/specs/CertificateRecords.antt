-- The records of a proposed certificate by their places in its bytes: all whole ones, of the kind that a standing stands for.
use Rattle.std.specs.Prelude.{ℕ, zero, suc, ◌+◌, ◌*◌, ◌/◌, ◌%◌, Bool, true, ◌&&◌, List, map, length, get_or, eqb}
use Rattle.fra.specs.Lists.{all, count}
use Rattle.fra.specs.Position.{legal, before}
use Rattle.fra.specs.declared.Position.{Position}
use Rattle.fra.specs.declared.Task.{Task}
use Rattle.outcome.specs.Certificate.{Loss}
use Rattle.outcome.specs.declared.Standing.{Standing}
use Rattle.outcome.specs.declared.Standing.TheVariants.{Kept, Lost}
use Rattle.listing.specs.Widths.{position_width, kept_width, lost_width, record_position}
use Rattle.listing.specs.Listing.{of_kept, of_lost, position_at, rounds_at, positions_in}
use Rattle.listing.specs.declared.Listing.{Listing}

-- the whole records of n bytes
abbrev pub records_of : Standing → ℕ → Listing
records_of Kept n = of_kept (n / kept_width)
records_of Lost n = of_lost (n / lost_width)

-- ── What they list ──

-- the positions of records of kept ones
abbrev pub kept_in : List ℕ → List Position
kept_in l = positions_in (records_of Kept (length l)) l

-- "kind 17, position, side, edge, case, rounds": where the attack stands in a record of a loss
abbrev pub lost_side : ℕ
lost_side = record_position + position_width

abbrev pub lost_edge : ℕ
lost_edge = lost_side + 1

abbrev pub lost_case : ℕ
lost_case = lost_edge + 1

-- what record i of losses says
unfoldable pub loss_at : List ℕ → ℕ → Loss
loss_at l i =
    let records = records_of Lost (length l) in
    record {
      position = position_at records l i;
      side = get_or l (i * lost_width + lost_side) 0;
      edge = get_or l (i * lost_width + lost_edge) 0;
      case = get_or l (i * lost_width + lost_case) 0;
      rounds = rounds_at records l i;
    }

unfoldable pub losses_in : List ℕ → List Loss
losses_in l = map (loss_at l) (count 0 (records_of Lost (length l)).count)

-- ── Form ──

-- the position of record i comes after that of the record before it, if there is one
unfoldable pub rises_at : Listing → List ℕ → ℕ → Bool
rises_at y l zero = true
rises_at y l (suc i) = before (position_at y l i) (position_at y l (suc i))

-- record i has this kind and a legal position, and rises
unfoldable pub formed_at : Task → ℕ → Listing → List ℕ → ℕ → Bool
formed_at t kind y l i = eqb (get_or l (i * y.width) 0) kind && legal 6 t (position_at y l i) && rises_at y l i

-- whole records of one kind, with legal positions that rise
unfoldable pub formed : Task → ℕ → Listing → List ℕ → Bool
formed t kind y l = eqb (length l % y.width) 0 && all (formed_at t kind y l) (count 0 y.count)
