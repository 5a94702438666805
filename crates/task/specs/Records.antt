-- 01, "Turned back, in checking order", 1 to 10, and 15 of 02: for each refusal the case that the papers name for it, stated on
-- the records of a file. Nothing here goes by way of the reader.
use Rattle.std.specs.Prelude.{ℕ, zero, suc, ◌+◌, ◌≤◌, ◌<◌, ◌≡◌, ◌⊎◌, Bool, true, false, not, cond, ◌&&◌, ◌||◌, List, [], ◌∷◌, ◌++◌, length, eqb}
use Rattle.fra.specs.Lists.{◌∈◌, keep, count, below}
use Rattle.fra.specs.Registers.{has, with}

-- ── Records: "one byte of kind, then a body whose length the kind fixes" ──

pub data Record : Type 0 where
  -- registers, states, start state
  header : ℕ → ℕ → ℕ → Record
  -- its number, register set, end mark
  state : ℕ → ℕ → ℕ → Record
  -- from, tag, kind, register, to
  edge : ℕ → ℕ → ℕ → ℕ → ℕ → Record
  -- left register, right register
  pair : ℕ → ℕ → Record
  -- the history's size
  history : ℕ → Record
  end : Record

unfoldable pub encode : Record → List ℕ
encode (header r s q) = 1 ∷ r ∷ s ∷ q ∷ []
encode (state n set mark) = 2 ∷ n ∷ set ∷ mark ∷ []
encode (edge from tag kind i to) = 3 ∷ from ∷ tag ∷ kind ∷ i ∷ to ∷ []
encode (pair l r) = 4 ∷ l ∷ r ∷ []
encode (history n) = 5 ∷ n ∷ []
encode end = 15 ∷ []

-- a record's kind byte, and the bytes of its body
pub data Body : ℕ → ℕ → Type 0 where
  of-header : Body 1 3
  of-state : Body 2 3
  of-edge : Body 3 5
  of_pair : Body 4 2
  of-history : Body 5 1
  of_end : Body 15 0

-- ── What the records before one say, latest first ──

unfoldable pub headers : List Record → ℕ
headers [] = 0
headers (header r s q ∷ l) = suc (headers l)
headers (state n set mark ∷ l) = headers l
headers (edge from tag kind i to ∷ l) = headers l
headers (pair a b ∷ l) = headers l
headers (history n ∷ l) = headers l
headers (end ∷ l) = headers l

-- the records before the latest header
unfoldable pub earlier : List Record → List Record
earlier [] = []
earlier (header r s q ∷ l) = l
earlier (state n set mark ∷ l) = earlier l
earlier (edge from tag kind i to ∷ l) = earlier l
earlier (pair a b ∷ l) = earlier l
earlier (history n ∷ l) = earlier l
earlier (end ∷ l) = earlier l

-- the registers, states and start state that the latest header announces
unfoldable pub registers : List Record → ℕ
registers [] = 0
registers (header r s q ∷ l) = r
registers (state n set mark ∷ l) = registers l
registers (edge from tag kind i to ∷ l) = registers l
registers (pair a b ∷ l) = registers l
registers (history n ∷ l) = registers l
registers (end ∷ l) = registers l

unfoldable pub states : List Record → ℕ
states [] = 0
states (header r s q ∷ l) = s
states (state n set mark ∷ l) = states l
states (edge from tag kind i to ∷ l) = states l
states (pair a b ∷ l) = states l
states (history n ∷ l) = states l
states (end ∷ l) = states l

unfoldable pub start : List Record → ℕ
start [] = 0
start (header r s q ∷ l) = q
start (state n set mark ∷ l) = start l
start (edge from tag kind i to ∷ l) = start l
start (pair a b ∷ l) = start l
start (history n ∷ l) = start l
start (end ∷ l) = start l

-- the states and edges since the latest header
unfoldable pub states_read : List Record → ℕ
states_read [] = 0
states_read (header r s q ∷ l) = 0
states_read (state n set mark ∷ l) = suc (states_read l)
states_read (edge from tag kind i to ∷ l) = states_read l
states_read (pair a b ∷ l) = states_read l
states_read (history n ∷ l) = states_read l
states_read (end ∷ l) = states_read l

unfoldable pub edges_read : List Record → ℕ
edges_read [] = 0
edges_read (header r s q ∷ l) = 0
edges_read (state n set mark ∷ l) = edges_read l
edges_read (edge from tag kind i to ∷ l) = suc (edges_read l)
edges_read (pair a b ∷ l) = edges_read l
edges_read (history n ∷ l) = edges_read l
edges_read (end ∷ l) = edges_read l

-- the latest model's last edge as a five-byte string; the empty string if it has none
unfoldable pub last_edge : List Record → List ℕ
last_edge [] = []
last_edge (header r s q ∷ l) = []
last_edge (state n set mark ∷ l) = last_edge l
last_edge (edge from tag kind i to ∷ l) = from ∷ tag ∷ kind ∷ i ∷ to ∷ []
last_edge (pair a b ∷ l) = last_edge l
last_edge (history n ∷ l) = last_edge l
last_edge (end ∷ l) = last_edge l

-- the register set of state q of the latest model
unfoldable pub set_in : List Record → ℕ → ℕ
set_in [] q = 0
set_in (header r s q' ∷ l) q = 0
set_in (state n set mark ∷ l) q = cond (eqb n q) set (set_in l q)
set_in (edge from tag kind i to ∷ l) q = set_in l q
set_in (pair a b ∷ l) q = set_in l q
set_in (history n ∷ l) q = set_in l q
set_in (end ∷ l) q = set_in l q

-- the register set of the latest model's start state
abbrev pub start_set : List Record → ℕ
start_set l = set_in l (start l)

-- some pair has the right register j
unfoldable pub paired : List Record → ℕ → Bool
paired [] j = false
paired (header r s q ∷ l) j = paired l j
paired (state n set mark ∷ l) j = paired l j
paired (edge from tag kind i to ∷ l) j = paired l j
paired (pair a b ∷ l) j = eqb b j || paired l j
paired (history n ∷ l) j = paired l j
paired (end ∷ l) j = paired l j

-- "the numbers held together at the start", shared ones counted as one: one for each register of the left start state's set, and
-- one for each of the right one's that is in no pair
unfoldable pub held_at_start : List Record → ℕ
held_at_start l =
    length (keep (has (start_set (earlier l))) (count 1 6))
    + length (keep (λ j. has (start_set l) j && not (paired l j)) (count 1 6))

-- ── Places: "In order: the left model (header, its states in rising number, its edges), the right model likewise, pairs,
-- end." 02, ticket 2: kind 5 "may stand after the pairs". ──

-- every state that the latest header announces has been read
abbrev pub Complete : List Record → Type 0
Complete l = states_read l ≡ states l

abbrev pub NoPair : List Record → Type 0
NoPair l = (a b : ℕ) → pair a b ∈ l → ⊥

abbrev pub NoHistory : List Record → Type 0
NoHistory l = (n : ℕ) → history n ∈ l → ⊥

abbrev pub NoEnd : List Record → Type 0
NoEnd l = end ∈ l → ⊥

unfoldable pub Allowed : List Record → Record → Type 0
Allowed l (header r s q) = (l ≡ []) ⊎ (headers l ≡ 1) × Complete l
Allowed l (state n set mark) = states_read l < states l
Allowed l (edge from tag kind i to) = (1 ≤ headers l) × Complete l × NoPair l × NoHistory l × NoEnd l
Allowed l (pair a b) = (headers l ≡ 2) × Complete l × NoHistory l × NoEnd l
Allowed l (history n) = (headers l ≡ 2) × Complete l × NoHistory l × NoEnd l
Allowed l end = (headers l ≡ 2) × Complete l × NoEnd l

-- ── The rules that a record may break, given those before it ──

pub data Rule : Type 0 where
  place header-rule state-rule existence register-rule edge_order edge-limit pair-rule history-rule : Rule

unfoldable pub number : Rule → ℕ
number place = 3
number header-rule = 4
number state-rule = 5
number existence = 6
number register-rule = 7
number edge_order = 8
number edge-limit = 9
number pair-rule = 10
number history-rule = 15

-- the order in which a record is checked: 01's is that of the numbers; a rule of 02 says where it stands, 15 "after 3"
unfoldable pub order : Rule → ℕ
order place = 0
order header-rule = 1
order state-rule = 2
order existence = 3
order register-rule = 4
order edge_order = 5
order edge-limit = 6
order pair-rule = 7
order history-rule = 8

-- "A header has more than 6 registers, 0 or more than 16 states, or a start state that does not exist."
unfoldable pub HeaderFault : Record → Type 0
HeaderFault (header r s q) = (6 < r) ⊎ (s ≡ 0) ⊎ (16 < s) ⊎ (s ≤ q)
HeaderFault (state n set mark) = ⊥
HeaderFault (edge from tag kind i to) = ⊥
HeaderFault (pair a b) = ⊥
HeaderFault (history n) = ⊥
HeaderFault end = ⊥

-- "A state has not the next number, has a set bit of a register that does not exist, or an end mark above 1."
unfoldable pub StateFault : List Record → Record → Type 0
StateFault l (header r s q) = ⊥
StateFault l (state n set mark) =
    (n ≡ states_read l → ⊥) ⊎ ((i : ℕ) × (has set i ≡ true) × (registers l < i)) ⊎ (1 < mark)
StateFault l (edge from tag kind i to) = ⊥
StateFault l (pair a b) = ⊥
StateFault l (history n) = ⊥
StateFault l end = ⊥

-- "An edge has a state, tag, kind or register that does not exist."
unfoldable pub Nonexistence : List Record → Record → Type 0
Nonexistence l (header r s q) = ⊥
Nonexistence l (state n set mark) = ⊥
Nonexistence l (edge from tag kind i to) =
    (states l ≤ from) ⊎ (31 < tag) ⊎ (2 < kind) ⊎ (i ≡ 0) ⊎ (registers l < i) ⊎ (states l ≤ to)
Nonexistence l (pair a b) = ⊥
Nonexistence l (history n) = ⊥
Nonexistence l end = ⊥

-- a register of one set that is not in the other
abbrev pub Outside : ℕ → (ℕ → Bool) → Type 0
Outside set other = (i : ℕ) × (has set i ≡ true) × (other i ≡ false)

-- "An edge breaks its kind's register rule": the from set, the to set, the register and the kind
unfoldable pub RegisterFault : ℕ → ℕ → ℕ → ℕ → Type 0
RegisterFault from to i zero = (has from i ≡ false) ⊎ Outside to (has from)
RegisterFault from to i (suc kind) = Outside to (with from i)

unfoldable pub KindFault : List Record → Record → Type 0
KindFault l (header r s q) = ⊥
KindFault l (state n set mark) = ⊥
KindFault l (edge from tag kind i to) = RegisterFault (set_in l from) (set_in l to) i kind
KindFault l (pair a b) = ⊥
KindFault l (history n) = ⊥
KindFault l end = ⊥

-- "An edge is not above the one before it in its model." Where there is none, the empty string is below every edge.
unfoldable pub OrderFault : List Record → Record → Type 0
OrderFault l (header r s q) = ⊥
OrderFault l (state n set mark) = ⊥
OrderFault l (edge from tag kind i to) = below (last_edge l) (from ∷ tag ∷ kind ∷ i ∷ to ∷ []) ≡ false
OrderFault l (pair a b) = ⊥
OrderFault l (history n) = ⊥
OrderFault l end = ⊥

-- "An edge is its model's 65th."
unfoldable pub LimitFault : List Record → Record → Type 0
LimitFault l (header r s q) = ⊥
LimitFault l (state n set mark) = ⊥
LimitFault l (edge from tag kind i to) = edges_read l ≡ 64
LimitFault l (pair a b) = ⊥
LimitFault l (history n) = ⊥
LimitFault l end = ⊥

-- "A pair has a register outside a start state's set, does not rise, or reuses a right register."
unfoldable pub PairFault : List Record → Record → Type 0
PairFault l (header r s q) = ⊥
PairFault l (state n set mark) = ⊥
PairFault l (edge from tag kind i to) = ⊥
PairFault l (pair a b) =
    (has (start_set (earlier l)) a ≡ false)
    ⊎ (has (start_set l) b ≡ false)
    ⊎ ((a' : ℕ) × (b' : ℕ) × (pair a' b' ∈ l) × (a ≤ a'))
    ⊎ ((a' : ℕ) × (pair a' b ∈ l))
PairFault l (history n) = ⊥
PairFault l end = ⊥

-- 15: "the size is above 13 or less than the numbers held together at the start"
unfoldable pub HistoryFault : List Record → Record → Type 0
HistoryFault l (header r s q) = ⊥
HistoryFault l (state n set mark) = ⊥
HistoryFault l (edge from tag kind i to) = ⊥
HistoryFault l (pair a b) = ⊥
HistoryFault l (history n) = (13 < n) ⊎ (n < held_at_start l)
HistoryFault l end = ⊥

unfoldable pub Breaks : Rule → List Record → Record → Type 0
Breaks place l x = Allowed l x → ⊥
Breaks header-rule l x = HeaderFault x
Breaks state-rule l x = StateFault l x
Breaks existence l x = Nonexistence l x
Breaks register-rule l x = KindFault l x
Breaks edge_order l x = OrderFault l x
Breaks edge-limit l x = LimitFault l x
Breaks pair-rule l x = PairFault l x
Breaks history-rule l x = HistoryFault l x

-- ── A file: "Records are checked in file order" ──

-- the file begins with these records, latest first, each of which breaks no rule, and the rest follows them
pub data Obeyed (file : List ℕ) : List Record → List ℕ → Type 0 where
  nothing : Obeyed file [] file
  another : {l : List Record} {rest : List ℕ} (x : Record) → Obeyed file l (encode x ++ rest)
      → ((rule : Rule) → Breaks rule l x → ⊥)
      → Obeyed file (x ∷ l) rest

-- 1: "The kind byte is not 1, 2, 3, 4 or 15." 02, ticket 2: "Kind 5 is no longer met by 1."
pub record UnknownKind (file : List ℕ) : Type 0 where
  pub records : List Record
  pub byte : ℕ
  pub rest : List ℕ
  pub obeyed : Obeyed file records (byte ∷ rest)
  pub unknown : (n : ℕ) → Body byte n → ⊥

-- 2: "The file ends inside a body or without an end record."
pub record CutShort (file : List ℕ) : Type 0 where
  pub records : List Record
  pub rest : List ℕ
  pub obeyed : Obeyed file records rest
  pub cut : ((rest ≡ []) × NoEnd records)
      ⊎ ((byte : ℕ) × (l : List ℕ) × (n : ℕ) × (rest ≡ byte ∷ l) × Body byte n × (length l < n))

-- 3 to 10, and 15: the first record that breaks a rule breaks this one and none that is checked before it
pub record Broken (rule : Rule) (file : List ℕ) : Type 0 where
  pub records : List Record
  pub rest : List ℕ
  pub breaking : Record
  pub obeyed : Obeyed file records (encode breaking ++ rest)
  pub breaks : Breaks rule records breaking
  pub first : (other : Rule) → order other < order rule → Breaks other records breaking → ⊥

-- the case that the papers name for refusal n of a task file
unfoldable pub TurnedBack : ℕ → List ℕ → Type 0
TurnedBack n file =
    ((n ≡ 1) × UnknownKind file) ⊎ ((n ≡ 2) × CutShort file) ⊎ ((rule : Rule) × (n ≡ number rule) × Broken rule file)
