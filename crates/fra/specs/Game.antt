-- 01, "Positions and rounds": the symbolic game, for any register count.
use Rattle.std.specs.Prelude.{ℕ, zero, suc, ◌<◌, ◌≡◌, Bool, true, false, cond, ◌&&◌, ◌||◌, length, ltb, eqb}
use mathlib.Core.List.{List, [], ◌∷◌, ◌++◌, map, flat_map}
use Rattle.fra.specs.Lists.{◌∈◌, any, all, keep, count}
use Rattle.fra.specs.Registers.{has}
use Rattle.fra.specs.Model.{set_of, mark_of, edge_of, register_of, is_known, is_locally_fresh, is_fresh}
use Rattle.fra.specs.Rules.{Rules, other, left_of, right_of, model_of}
use Rattle.fra.specs.Position.{state_of, filled, partner, most_seen, has_room, legal}
use Rattle.fra.specs.declared.EdgeKind.{EdgeKind}
use Rattle.fra.specs.declared.EdgeKind.TheVariants.{Known, LocallyFresh, GloballyFresh}
use Rattle.fra.specs.declared.Edge.{Edge}
use Rattle.fra.specs.declared.Position.{Position}
use Rattle.fra.specs.declared.Task.{Task}
use Rattle.fra.specs.declared.Side.{Side}
use Rattle.fra.specs.declared.Side.TheVariants.{Left, Right}
use Rattle.fra.specs.declared.IdCase.{IdCase}
use Rattle.fra.specs.declared.IdCase.TheVariants.{Held, Private, Seen, New}
use Rattle.fra.specs.declared.Attack.{Attack}

-- ── Attacks (challenges) ──

-- which id cases an edge of side s has: a known edge has case 0; a locally fresh one has a case for each "register j of the
-- other side, in its set and without partner", and those of a number held by neither; "Globally fresh edge: case 8 only". 02,
-- ticket 2: "Case 7 exists only if that size exceeds the numbers that the two readers hold together"
unfoldable pub has_case : Task → Position → Side → EdgeKind → IdCase → Bool
has_case t p s (Known i) Held = true
has_case t p s (Known i) (Private j) = false
has_case t p s (Known i) Seen = false
has_case t p s (Known i) New = false
has_case t p s (LocallyFresh i) Held = false
has_case t p s (LocallyFresh i) (Private j) = has (filled t p (other s)) j && eqb (partner p (other s) j) 0
has_case t p s (LocallyFresh i) Seen = has_room t p
has_case t p s (LocallyFresh i) New = true
has_case t p s (GloballyFresh i) Held = false
has_case t p s (GloballyFresh i) (Private j) = false
has_case t p s (GloballyFresh i) Seen = false
has_case t p s (GloballyFresh i) New = true

-- the edge of an attack
abbrev pub attack_edge : Task → Attack → Edge
attack_edge t a = edge_of (model_of t a.side) a.edge

-- "An attack is a side (1 left, 2 right), an edge number and an id case. The edge starts in that side's state."
unfoldable pub is_attack : Rules → Task → Position → Attack → Bool
is_attack g t p a =
    g.attacks a.side
    && ltb a.edge (model_of t a.side).edge_count
    && eqb (attack_edge t a).from (state_of p a.side)
    && has_case t p a.side (attack_edge t a).kind a.case

-- the id cases of r registers, in order of their numbers
unfoldable pub cases : ℕ → List IdCase
cases r = Held ∷ map Private (count 1 r) ++ (Seen ∷ New ∷ [])

-- what a side can name with r registers, in order of edge and case
unfoldable pub named : ℕ → Task → Side → List Attack
named r t s =
    flat_map (λ k. map (λ c. record { side = s; edge = k; case = c }) (cases r)) (count 0 (model_of t s).edge_count)

-- the attacks of a position "in order of side, edge, case"
unfoldable pub attacks : Rules → Task → Position → List Attack
attacks g t p = keep (is_attack g t p) (named (length p.partners) t Left ++ named (length p.partners) t Right)

-- ── Replies ──

-- which kinds of edge answer an id case; b is the partner of the attacking edge's register
unfoldable pub answers : ℕ → IdCase → EdgeKind → Bool
-- "If i has a partner j, the reply is a known edge of j with the same tag. If not, the reply is a locally fresh edge"
answers zero Held kind = is_locally_fresh kind
answers (suc b) Held kind = is_known (suc b) kind
-- "the reply is a known edge of j"
answers b (Private j) kind = is_known j kind
-- "a number seen before and held by neither; the reply is locally fresh"
answers b Seen kind = is_locally_fresh kind
-- "a number never seen; the reply is locally or globally fresh"
answers b New kind = is_fresh kind

-- edge number k of the side that replies
abbrev pub reply_edge : Task → Attack → ℕ → Edge
reply_edge t a k = edge_of (model_of t (other a.side)) k

-- "Replies start in the other side's state and have the attack's tag": edge number k of the other side is a reply to a
unfoldable pub is_reply : Task → Position → Attack → ℕ → Bool
is_reply t p a k =
    ltb k (model_of t (other a.side)).edge_count
    && eqb (reply_edge t a k).from (state_of p (other a.side))
    && eqb (reply_edge t a k).tag (attack_edge t a).tag
    && answers (partner p a.side (register_of (attack_edge t a).kind)) a.case (reply_edge t a k).kind

-- the edge numbers of the replies to an attack, rising
unfoldable pub replies : Task → Position → Attack → List ℕ
replies t p a = keep (is_reply t p a) (count 0 (model_of t (other a.side)).edge_count)

-- ── After a round ──

-- "a register that was written loses its old partner; the two registers that now hold the number become partners": left
-- register i had partner x, and left register a and right register b now hold the number
unfoldable pub rejoined : ℕ → ℕ → ℕ → ℕ → ℕ
rejoined a b i x = cond (eqb i a) b (cond (eqb x b) 0 x)

-- "pairs outside either to set are dropped"
unfoldable pub remaining : ℕ → ℕ → ℕ → ℕ → ℕ
remaining left right i x = cond (has left i && has right x) x 0

-- the partners after a round, from left register i on
unfoldable pub matched : ℕ → ℕ → ℕ → ℕ → ℕ → List ℕ → List ℕ
matched left right a b i [] = []
matched left right a b i (x ∷ xs) = remaining left right i (rejoined a b i x) ∷ matched left right a b (suc i) xs

-- 02, ticket 2: "Case 8 raises it by one, up to 13": the history size after a round in this id case, for r registers
abbrev pub size_after : ℕ → IdCase → ℕ → ℕ
size_after r Held size = size
size_after r (Private j) size = size
size_after r Seen size = size
size_after r New size = cond (ltb size (most_seen r)) (suc size) size

-- the position after a left and a right edge have taken one number, where the history then has this size
unfoldable pub moved : Task → Position → ℕ → Edge → Edge → Position
moved t p size l r =
    record {
      left = l.to;
      right = r.to;
      partners =
          matched (set_of t.left l.to) (set_of t.right r.to) (register_of l.kind) (register_of r.kind) 1
          p.partners;
      history = size;
    }

-- the position that an attack and its reply, edge number k of the other side, lead to
unfoldable pub after : Task → Position → Attack → ℕ → Position
after t p a k =
    moved t p (size_after (length p.partners) a.case p.history)
    (left_of a.side (attack_edge t a) (reply_edge t a k)) (right_of a.side (attack_edge t a) (reply_edge t a k))

-- ── Lost ──

-- the end marks lose at once
unfoldable pub lost_at_once : Rules → Task → Position → Bool
lost_at_once g t p = g.lost (mark_of t.left p.left) (mark_of t.right p.right)

-- "It is lost within n+1 rounds if lost within n, or if some attack has every reply leading to a position lost within n."
unfoldable pub lost_within : Rules → Task → ℕ → Position → Bool
lost_within g t zero p = lost_at_once g t p
lost_within g t (suc n) p =
    lost_within g t n p || any (λ a. all (λ k. lost_within g t n (after t p a k)) (replies t p a)) (attacks g t p)

-- "never lost": no count of rounds is enough
abbrev pub NeverLost : Rules → Task → Position → Type 0
NeverLost g t p = (n : ℕ) → lost_within g t n p ≡ false

-- lost: within some count of rounds
abbrev pub EverLost : Rules → Task → Position → Type 0
EverLost g t p = (n : ℕ) × (lost_within g t n p ≡ true)

-- the rounds of a lost position, its rank: it is lost within k rounds and not within fewer
pub record HasRank (g : Rules) (t : Task) (p : Position) (k : ℕ) : Type 0 where
  pub lost : lost_within g t k p ≡ true
  pub not_before : (j : ℕ) → j < k → lost_within g t j p ≡ false

-- ── Symbolic bisimulation ──

-- "A symbolic bisimulation is a set of legal positions, none with differing end marks, in which each attack has a reply
-- leading into the set": for any set R of positions, with r registers
pub record Bisimulation (g : Rules) (r : ℕ) (t : Task) (R : Position → Type 0) : Type 0 where
  pub are_legal : (p : Position) → R p → legal r t p ≡ true
  pub not_lost : (p : Position) → R p → lost_at_once g t p ≡ false
  pub answered : (p : Position) → R p → (a : Attack) → a ∈ attacks g t p → (k : ℕ) × (k ∈ replies t p a) × R (after t p a k)
