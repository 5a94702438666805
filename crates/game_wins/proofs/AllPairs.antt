-- With all pairs of states in the set, the listing alone judges. Assumes nothing.
use Prim.Native.Nat.{ℕ}
use mathlib.Core.Path.{◌≡◌}
use mathlib.Core.List.{List}
use Rattle.fra.specs.declared.Position.{Position}
use Rattle.game_state_pairs.specs.StatePairs.{all_pairs}
use Rattle.game_state_pairs.proofs.PairMembers.{every-pair}
use Rattle.game_wins.specs.Judgement.{judged, judged_among}
use Rattle.game_wins.specs.declared.Judge.{Judge}

pub among-all : (l : List ℕ) (j : Judge) (q : Position) → judged_among all_pairs l j q ≡ judged l j q
unfolding judged_among
among-all l j q = rw (every-pair q.left q.right)
