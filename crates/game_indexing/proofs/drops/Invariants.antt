-- The answer is that of the registers past the first `i`.
use Rattle.std.proofs.Common.{◌≡◌, ℕ, ◌+◌, ◌-◌, Bool, not, ◌&&◌}
use Rattle.fra.specs.Lists.{any, count}
use Rattle.fra.specs.Registers.{has, with}
use Rattle.game_indexing.proofs.drops.Given as goal

abbrev pub drop-test : ℕ → ℕ → ℕ → ℕ → Bool
drop-test set added other i = with set added i && not (has other i)

abbrev pub invariant-loop-i : goal.invariant-loop-i
invariant-loop-i l =
    let f = drop-test l.set l.added l.other in
    any f (count 1 l.registers) ≡ any f (count (l.i + 1) (l.registers - l.i))
