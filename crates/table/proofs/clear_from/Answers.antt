-- The part from `at` on, which `clear` fills with zeros, reaches to the end.
use Rattle.std.proofs.Common.{◌≡◌, ℕ, ◌-◌, ◌≤◌, ◌++◌, List, length, take, drop, ap, append-nil, drop_of_length-le, length-drop, arith}
use Rattle.std.proofs.Math.Seq.{length-take-le, take_all}
use Rattle.outcome.specs.Bytes.{cleared, then_zeros}
use Rattle.table.proofs.clear_from.Goals as goal

put_back : (at : ℕ) (table part : List ℕ) → at ≤ length table → part ≡ cleared (take (length table - at) (drop at table))
    → take at table ++ (part ++ drop (length table - at) (drop at table)) ≡ then_zeros (take at table) table
unfolding then_zeros
put_back at table part h e =
    let rest = drop at table in
    let long : length rest ≤ length table - at = rw length-drop (omega arith) in
    rw (length-take-le at table h, e, take_all (length table - at) rest long, drop_of_length-le rest long)
    (ap (λ (l : List ℕ). take at table ++ l) (append-nil (cleared rest)))

pub returns : goal.returns
returns c = put_back c.args.at c.args.table.now c.clear.new.table c.requires c.clear.ensures
