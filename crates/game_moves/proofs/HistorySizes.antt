-- The sizes that the history can have after a round of two edges, one by one. Assumes nothing.
use Prim.Native.Nat.{ℕ, ◌≤◌}
use mathlib.Core.Path.{◌≡◌, refl}
use mathlib.Core.Bool.{Bool, true, cond, ◌&&◌}
use mathlib.Core.List.{[], ◌∷◌}
use native.Mathlib.Omega.{arith}
use lib.ListN.{length}
use lib.Dec.{ltb}
use borrow.Author.Tests.{lt-ltb}
use Rattle.fra.specs.Position.{held_in, most_seen}
use Rattle.fra.specs.declared.EdgeKind.{EdgeKind}
use Rattle.fra.specs.declared.EdgeKind.TheVariants.{Known, LocallyFresh, GloballyFresh}
use Rattle.fra.specs.declared.Position.{Position}
use Rattle.fra_laws.specs.Joint.{sizes_after}
use Rattle.fra_laws.proofs.HeldNumbers.{held-most}
use Rattle.game_moves.specs.HistorySizes.{first_size, both_locally_fresh}

-- a history of the greatest size has room for one number more than two readers hold
pub most-has_room : (left right : ℕ) (p : Position) → most_seen (length p.partners) ≤ p.history
    → ltb (held_in left right p.partners) p.history ≡ true
most-has_room left right p h =
    lt-ltb (held_in left right p.partners) p.history (omega (arith, held-most left right p.partners))

-- the first size, and the second where there is room for a number seen before
pub sizes_one_by_one : (r : ℕ) (room : Bool) (size : ℕ) (left right : EdgeKind)
    → sizes_after r room size left right
    ≡ first_size r size left right ∷ cond (both_locally_fresh left right && room) (size ∷ []) []
unfolding sizes_after
sizes_one_by_one r room size (Known i) (Known j) = refl
sizes_one_by_one r room size (Known i) (LocallyFresh j) = refl
sizes_one_by_one r room size (Known i) (GloballyFresh j) = refl
sizes_one_by_one r room size (LocallyFresh i) (Known j) = refl
sizes_one_by_one r room size (LocallyFresh i) (LocallyFresh j) = refl
sizes_one_by_one r room size (LocallyFresh i) (GloballyFresh j) = refl
sizes_one_by_one r room size (GloballyFresh i) (Known j) = refl
sizes_one_by_one r room size (GloballyFresh i) (LocallyFresh j) = refl
sizes_one_by_one r room size (GloballyFresh i) (GloballyFresh j) = refl
