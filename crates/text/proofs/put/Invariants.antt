-- The numbers that were passed are written behind the word.
use Rattle.std.proofs.Common.{◌+◌, ◌*◌, ◌≤◌, take}
use mathlib.Core.List.{flat_map}
use Rattle.text.specs.Text.{spaced}
use Rattle.text.specs.LentLine.{longest_number, Puts}
use Rattle.text.proofs.put.Given as goal

abbrev pub invariant-loop-n : goal.invariant-loop-n
invariant-loop-n l =
    record {
      few : l.at ≤ l.initial.at + l.n-index * longest_number;
      puts : Puts (flat_map spaced (take l.n-index l.numbers)) l.initial.line l.initial.at l.line l.at;
    }
