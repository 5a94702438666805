-- The keys from `i` on are spread to entries, and the bytes before these are as they were.
use Rattle.std.proofs.Common.{◌≡◌}
use Rattle.listing.specs.Widths.{entry_width}
use Rattle.table_laws.specs.Table.{keys}
use Rattle.table_laws.proofs.LayingOut.{spread_from, entry_of}
use Rattle.table.proofs.lay_out.Given as goal

abbrev pub invariant-loop-i : goal.invariant-loop-i
invariant-loop-i l = l.table ≡ spread_from entry_width (entry_of l.fn.radix) (keys l.fn.n l.fn.table) l.fn.table l.i
