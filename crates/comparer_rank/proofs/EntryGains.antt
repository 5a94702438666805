-- Whether an entry gains rounds in a pass, test by test, as the table's bytes tell it. Assumes nothing.
use Prim.Native.Nat.{ℕ}
use mathlib.Core.Path.{◌≡◌, refl}
use mathlib.Core.Bool.{true, false}
use mathlib.Core.List.{List}
use Rattle.std.specs.Prelude.{Option, None, Some, is_some}
use borrow.Author.Tests.{ne_eqb}
use Rattle.fra.specs.declared.Position.{Position}
use Rattle.fra.specs.declared.Attack.{Attack}
use Rattle.outcome.specs.Bytes.{all_ones}
use Rattle.listing.specs.Listing.{of_table, position_at, rounds_at}
use Rattle.game_state_pairs.specs.StatePairs.{has_pair}
use Rattle.game_replies.specs.Winner.{is_found}
use Rattle.game_wins.specs.Wins.{first_win}
use Rattle.comparer_rank.specs.RankPasses.{lost_among, gains}

found_is_some : (o : Option Attack) → is_found o ≡ is_some o
found_is_some None = refl
found_is_some (Some a) = refl

module _ (b table : List ℕ) (n : ℕ) (losing worth : List ℕ) (k i : ℕ) {p : Position}
    (here : p ≡ position_at (of_table n) table i)
  where
    -- its states are not worth a look
    pub gains_unseen : has_pair worth p.left p.right ≡ false → gains b table n losing worth k i ≡ false
    unfolding gains
    gains_unseen e = rw (rw here at e)

    module _ (seen : has_pair worth p.left p.right ≡ true) where
      -- it has rounds
      pub gains-nothing : (rounds_at (of_table n) table i ≡ all_ones → ⊥) → gains b table n losing worth k i ≡ false
      unfolding gains
      gains-nothing d = rw (rw here at seen, ne_eqb (rounds_at (of_table n) table i) all_ones d)

      -- the search for an attack that wins decides
      pub gains-found : rounds_at (of_table n) table i ≡ all_ones → {o : Option Attack} → o ≡ first_win (lost_among losing table n k) b p
          → gains b table n losing worth k i ≡ is_some o
      unfolding gains
      gains-found d {o} e = rw (← found_is_some o, rw here at seen, d, e, here)
