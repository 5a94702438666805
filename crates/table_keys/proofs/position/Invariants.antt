-- The partners from register `i` on are divided out of the front and stand in their places.
use Rattle.std.proofs.Common.{◌≡◌}
use Rattle.table_keys.proofs.DividedOut.{front_left, partners_out}
use Rattle.table_keys.proofs.position.Given as goal

abbrev pub invariant-loop-i : goal.invariant-loop-i
invariant-loop-i l =
    record {
      front : l.front ≡ front_left l.radix l.key l.i;
      partners : l.partners ≡ partners_out l.radix l.key l.i;
    }
