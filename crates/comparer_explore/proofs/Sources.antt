-- The keys of positions that fit are those of a source. Assumes nothing.
use Prim.Native.Nat.{ℕ, ◌≤◌, ◌<◌}
use mathlib.Core.Path.{◌≡◌}
use Rattle.fra.specs.declared.Position.{Position}
use Rattle.table_keys.specs.Keys.{key_of, key_limit, Fits}
use Rattle.table_keys.proofs.Keys.{key_bound, key_count-small}
use Rattle.comparer_explore.specs.Sources.{Keyed}
use Rattle.comparer_explore.specs.declared.expand.Source.{Source}

module _ {s : Source} (keyed : Keyed s) where
  pub keyed_few : s.keys ≤ key_limit
  keyed_few = rw keyed.count (key_count-small keyed.sized)

  pub keyed_below : {q : Position} {k : ℕ} → Fits s.radix q → k ≡ key_of s.radix q → k < s.keys
  keyed_below fits e = rw (e, keyed.count) (key_bound keyed.sized fits)
