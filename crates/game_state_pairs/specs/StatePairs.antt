-- Sets of pairs of a left and a right state, with a byte for each pair that is not 0 for a member.
use Rattle.std.specs.Prelude.{ℕ, ◌+◌, ◌*◌, ◌%◌, Bool, not, List, get_or, set, replicate, eqb}

-- "1 to 16 states, numbered from 0"
abbrev pub state_places : ℕ
state_places = 16

abbrev pub pair_places : ℕ
pair_places = 256

-- the place of a pair's byte
abbrev pub pair_of : ℕ → ℕ → ℕ
pair_of left right = (left * state_places + right) % pair_places

-- the pair is in the set
abbrev pub has_pair : List ℕ → ℕ → ℕ → Bool
has_pair pairs left right = not (eqb (get_or pairs (pair_of left right) 0) 0)

-- the set with a pair added
abbrev pub with_pair : List ℕ → ℕ → ℕ → List ℕ
with_pair pairs left right = set pairs (pair_of left right) 1

-- the set of no pair, and the set of all
abbrev pub no_pairs : List ℕ
no_pairs = replicate pair_places 0

abbrev pub all_pairs : List ℕ
all_pairs = replicate pair_places 1
