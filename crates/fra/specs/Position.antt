-- 01, "Positions and rounds": positions, that is, pairs of symbolic configurations. The register count is the length of
-- the list of partners, or the parameter r.
use Rattle.std.specs.Prelude.{ℕ, zero, suc, ◌+◌, ◌*◌, ◌≡◌, Bool, true, false, not, ◌&&◌, ◌||◌, List, [], ◌∷◌, ◌++◌, length, get_or, replicate, ltb, leb, eqb}
use Rattle.fra.specs.Lists.{◌∈◌, any, keep, count, below}
use Rattle.fra.specs.Registers.{has}
use Rattle.fra.specs.Model.{set_of}
use Rattle.fra.specs.Rules.{model_of}
use Rattle.fra.specs.declared.Position.{Position}
use Rattle.fra.specs.declared.Task.{Task}
use Rattle.fra.specs.declared.Side.{Side}
use Rattle.fra.specs.declared.Side.TheVariants.{Left, Right}

-- a side's state
abbrev pub state_of : Position → Side → ℕ
state_of p Left = p.left
state_of p Right = p.right

-- the register set of a side's state
abbrev pub filled : Task → Position → Side → ℕ
filled t p s = set_of (model_of t s) (state_of p s)

-- 02, ticket 2: "13 means 13 or more": the greatest history size, one more than the numbers that two readers of r registers hold
abbrev pub most_seen : ℕ → ℕ
most_seen r = 2 * r + 1

-- "The empty matching is all zeros." "without the record it is 13"
abbrev pub unmatched : ℕ → ℕ → ℕ → Position
unmatched r left right = record { left = left; right = right; partners = replicate r 0; history = most_seen r }

-- "Partner 0 means none; otherwise it is the right register with the same number": the partner of left register i
unfoldable pub right_partner : List ℕ → ℕ → ℕ
right_partner partners zero = 0
right_partner partners (suc k) = get_or partners k 0

-- the left register, counted from i, whose partner is right register j; 0 for none
unfoldable pub left_partner : ℕ → List ℕ → ℕ → ℕ
left_partner i [] j = 0
left_partner i (x ∷ xs) j = elim (eqb x j) [ true ↦ i | false ↦ left_partner (suc i) xs j ]

-- the register of the other side with the same number as register i of side s; 0 for none
unfoldable pub partner : Position → Side → ℕ → ℕ
partner p Left i = right_partner p.partners i
partner p Right i = left_partner 1 p.partners i

-- "partners join registers of the two states' sets and no right register is used twice", from left register i on
unfoldable pub matching : ℕ → ℕ → ℕ → List ℕ → Bool
matching left right i [] = true
matching left right i (x ∷ xs) = (eqb x 0 || (has left i && has right x && not (any (eqb x) xs))) && matching left right (suc i) xs

-- ── The numbers held together (02, ticket 2) ──

-- right register j is in the set and no left register holds its number
unfoldable pub is_unshared : ℕ → List ℕ → ℕ → Bool
is_unshared right partners j = has right j && eqb (left_partner 1 partners j) 0

-- "the numbers that the two readers hold together, shared ones counted as one": one for each left register in its set, and one
-- for each right register in its set whose number no left register holds
unfoldable pub held_in : ℕ → ℕ → List ℕ → ℕ
held_in left right partners =
    length (keep (has left) (count 1 (length partners)))
    + length (keep (is_unshared right partners) (count 1 (length partners)))

abbrev pub held : Task → Position → ℕ
held t p = held_in (filled t p Left) (filled t p Right) p.partners

-- some number of the history is held by neither reader: "that size exceeds the numbers that the two readers hold together"
unfoldable pub has_room : Task → Position → Bool
has_room t p = ltb (held t p) p.history

-- ── Legal positions ──

-- "A position is legal if its states exist, partners join registers of the two states' sets and no right register is used
-- twice", for r registers; the history size "is illegal above 13 or below the numbers held together"
unfoldable pub legal : ℕ → Task → Position → Bool
legal r t p =
    ltb p.left t.left.state_count
    && ltb p.right t.right.state_count
    && eqb (length p.partners) r
    && matching (filled t p Left) (filled t p Right) 1 p.partners
    && leb (held t p) p.history
    && leb p.history (most_seen r)

-- "eight bytes, left state first"; "A position gains a ninth byte, the history size"
unfoldable pub bytes : Position → List ℕ
bytes p = p.left ∷ p.right ∷ p.partners ++ (p.history ∷ [])

-- "rising by position bytes": one position is before another
unfoldable pub before : Position → Position → Bool
before p q = below (bytes p) (bytes q)

-- a list of positions rises strictly: each is before all that follow it
abbrev pub Rising : List Position → Type 0
Rising [] = Unit {0}
Rising (p ∷ l) = ((q : Position) → q ∈ l → before p q ≡ true) × Rising l
