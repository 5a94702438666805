-- What a listing says of positions.
use Rattle.std.specs.Prelude.{ℕ, Bool, true, false, ◌&&◌, Option, Some, None, List, ltb}
use Rattle.fra.specs.declared.Position.{Position}
use Rattle.listing.specs.Listing.{rounds_at, positions_in}
use Rattle.listing.specs.Lookup.{place_of}
use Rattle.listing.specs.declared.Listing.{Listing}
use Rattle.game_state_pairs.specs.StatePairs.{has_pair}
use Rattle.game_wins.specs.declared.Test.{Test}
use Rattle.game_wins.specs.declared.Test.TheVariants.{Sooner, Unlisted}
use Rattle.game_wins.specs.declared.Judge.{Judge}

-- a position that is found at this place, or nowhere, is lost
abbrev pub lost_at : List ℕ → Listing → Test → Option ℕ → Bool
lost_at l y (Sooner k) (Some i) = ltb (rounds_at y l i) k
lost_at l y (Sooner k) None = false
lost_at l y Unlisted (Some i) = false
lost_at l y Unlisted None = true

-- the listing judges the position lost
unfoldable pub judged : List ℕ → Judge → Position → Bool
judged l j q = lost_at l j.records j.test (place_of q (positions_in j.records l))

-- the same, but nothing is lost with a pair of states that the set has not
unfoldable pub judged_among : List ℕ → List ℕ → Judge → Position → Bool
judged_among losing l j q = has_pair losing q.left q.right && judged l j q
