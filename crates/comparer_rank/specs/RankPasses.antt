-- What passes over the table do to it, for the game and the task of an index b.
use Rattle.std.specs.Prelude.{ℕ, ◌+◌, ◌*◌, ◌-◌, ◌≤◌, ◌<◌, ◌≡◌, Bool, cond, ◌&&◌, List, ◌++◌, drop, eqb}
use Rattle.fra.specs.Lists.{any}
use Rattle.fra.specs.Game.{lost_at_once}
use Rattle.fra.specs.Reach.{reached}
use Rattle.fra.specs.declared.Position.{Position}
use Rattle.outcome.specs.Bytes.{all_ones}
use Rattle.listing.specs.Widths.{entry_width, entry_rounds}
use Rattle.listing.specs.Words.{put_word}
use Rattle.listing.specs.Listing.{of_table, position_at, rounds_at}
use Rattle.game_index.specs.Reading.{task_in, rules_in}
use Rattle.game_state_pairs.specs.StatePairs.{has_pair}
use Rattle.game_replies.specs.Winner.{winner, is_found}
use Rattle.game_wins.specs.Judgement.{judged_among}
use Rattle.game_wins.specs.declared.Test.TheVariants.{Sooner}
use Rattle.comparer_rank_laws.specs.Levels.{level, ranked}
use Rattle.comparer_rank_laws.specs.EntryRows.{rows, BeginsWith}
use Rattle.comparer_rank_laws.specs.Sources.{Covers, CoversLost}

-- the positions reached
abbrev pub reached_in : List ℕ → List Position
reached_in b = reached (rules_in b) (task_in b)

-- one of them is lost within k rounds and not within fewer
abbrev pub ranks_in : List ℕ → ℕ → Bool
ranks_in b k = any (ranked (rules_in b) (task_in b) k) (reached_in b)

-- the table begins with the n positions reached, with these rounds
abbrev pub Begins : List ℕ → (Position → ℕ) → ℕ → List ℕ → Type 0
Begins b = BeginsWith (reached_in b)

-- after pass k it begins with their levels, and the rest is as it was
abbrev pub Leveled : List ℕ → ℕ → ℕ → List ℕ → List ℕ → Type 0
Leveled b k n old new = new ≡ rows (level (rules_in b) (task_in b) k) (reached_in b) ++ drop (n * entry_width) old

-- pass k can be made: it is one from 1 on that four bytes can count, the pass before has left its levels, `losing` has the states
-- of each position lost before, and `worth` those of each position that pass k marks
pub record Ready (b : List ℕ) (k n : ℕ) (table losing worth : List ℕ) : Type 0 where
  pub least : 1 ≤ k
  pub small : k < all_ones
  pub begins : Begins b (level (rules_in b) (task_in b) (k - 1)) n table
  pub covers-lost : CoversLost (rules_in b) (task_in b) (k - 1) losing
  pub covers : Covers (rules_in b) (task_in b) k worth

-- entry i is lost at once
abbrev pub loses : List ℕ → ℕ → List ℕ → ℕ → Bool
loses b n table i = lost_at_once (rules_in b) (task_in b) (position_at (of_table n) table i)

-- the table's judgement: the position stands among the first n entries with fewer rounds than k, and its states are in the set
abbrev pub lost_among : List ℕ → List ℕ → ℕ → ℕ → Position → Bool
lost_among losing table n k = judged_among losing table (record { records = of_table n; test = Sooner k })

-- the states of entry i are in the set of those worth a look, it has no rounds yet, and an attack wins by positions that the
-- table has with fewer rounds than k
unfoldable pub gains : List ℕ → List ℕ → ℕ → List ℕ → List ℕ → ℕ → ℕ → Bool
gains b table n losing worth k i =
    let p = position_at (of_table n) table i in
    has_pair worth p.left p.right
    && eqb (rounds_at (of_table n) table i) all_ones
    && is_found (winner (rules_in b) (task_in b) (lost_among losing table n k) p)

-- the table with rounds k at entry i where a test passes
abbrev pub marked_if : Bool → List ℕ → ℕ → ℕ → List ℕ
marked_if test table i k = cond test (put_word table (i * entry_width + entry_rounds) k) table
