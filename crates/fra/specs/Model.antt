-- 01, "A reader model": a model is a fresh-register automaton.
use Rattle.std.specs.Prelude.{ℕ, zero, suc, Bool, true, false, List, [], ◌∷◌, get_or, eqb}
use Rattle.fra.specs.declared.EdgeKind.{EdgeKind}
use Rattle.fra.specs.declared.EdgeKind.TheVariants.{Known, LocallyFresh, GloballyFresh}
use Rattle.fra.specs.declared.Edge.{Edge}
use Rattle.fra.specs.declared.State.{State}
use Rattle.fra.specs.declared.Model.{Model}

-- what stands in the places of a model's arrays past their counts
abbrev pub no_state : State
no_state = record { set = 0; mark = 0 }

abbrev pub no_edge : Edge
no_edge = record { from = 0; tag = 0; kind = Known 0; to = 0 }

-- "1 to 16 states, numbered from 0. Each state has a register set and an end mark"
unfoldable pub set_of : Model → ℕ → ℕ
set_of m q = (get_or m.states q no_state).set

unfoldable pub mark_of : Model → ℕ → ℕ
mark_of m q = (get_or m.states q no_state).mark

-- "an edge's number is its place, from 0"
unfoldable pub edge_of : Model → ℕ → Edge
edge_of m k = get_or m.edges k no_edge

-- the register that an edge reads or writes
abbrev pub register_of : EdgeKind → ℕ
register_of (Known i) = i
register_of (LocallyFresh i) = i
register_of (GloballyFresh i) = i

abbrev pub is_locally_fresh : EdgeKind → Bool
is_locally_fresh (Known i) = false
is_locally_fresh (LocallyFresh i) = true
is_locally_fresh (GloballyFresh i) = false

abbrev pub is_fresh : EdgeKind → Bool
is_fresh (Known i) = false
is_fresh (LocallyFresh i) = true
is_fresh (GloballyFresh i) = true

-- a known edge of register j
abbrev pub is_known : ℕ → EdgeKind → Bool
is_known j (Known i) = eqb i j
is_known j (LocallyFresh i) = false
is_known j (GloballyFresh i) = false

-- "an edge is known, locally fresh or globally fresh (0, 1, 2)"
abbrev pub kind_number : EdgeKind → ℕ
kind_number (Known i) = 0
kind_number (LocallyFresh i) = 1
kind_number (GloballyFresh i) = 2

-- the kind with this number, of register i
abbrev pub kind_of : ℕ → ℕ → EdgeKind
kind_of zero i = Known i
kind_of (suc zero) i = LocallyFresh i
kind_of (suc (suc n)) i = GloballyFresh i

-- "An edge has a from state, a tag 0 to 31, a kind, a register i and a to state": its five bytes
unfoldable pub edge_bytes : Edge → List ℕ
edge_bytes e = e.from ∷ e.tag ∷ kind_number e.kind ∷ register_of e.kind ∷ e.to ∷ []
