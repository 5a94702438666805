-- The front is what the partners from an index on continue.
use Rattle.std.proofs.Common.{◌≡◌, drop, take}
use Rattle.listing.specs.Digits.{value}
use Rattle.table_keys.specs.Keys.{partner_base, front_of}
use Rattle.table_keys.proofs.key.Given as goal

abbrev pub invariant-loop-x : goal.invariant-loop-x
invariant-loop-x l =
    value partner_base l.front (drop l.x-index (take l.radix.registers l.fn.p.partners)) ≡ front_of l.radix l.fn.p
