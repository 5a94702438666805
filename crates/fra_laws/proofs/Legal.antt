-- What it means that a position is legal, for any register count and any rules. Assumes nothing.
use Prim.Native.Nat.{ℕ, ◌≤◌, ◌<◌}
use mathlib.Core.Path.{◌≡◌, sym, subst}
use mathlib.Core.Logic.{◌⊎◌, inl, inr}
use mathlib.Core.Bool.{true}
use native.Mathlib.Omega.{arith}
use lib.ListN.{length}
use lib.Dec.{eqb}
use borrow.Author.Tests.{ltb-true, lt-ltb, leb-true, le-leb, eqb-true, eq-eqb}
use Rattle.fra.specs.Lists.{◌∈◌}
use Rattle.fra.specs.Registers.{has, with}
use Rattle.fra.specs.Model.{set_of, register_of}
use Rattle.fra.specs.Rules.{Rules, other, model_of}
use Rattle.fra.specs.Position.{state_of, filled, partner, left_partner, most_seen, held, legal}
use Rattle.fra.specs.Game.{attacks, replies, moved}
use Rattle.fra.specs.Valid.{RegisterRule, ValidModel, Valid}
use Rattle.fra.specs.declared.EdgeKind.{EdgeKind}
use Rattle.fra.specs.declared.EdgeKind.TheVariants.{Known, LocallyFresh, GloballyFresh}
use Rattle.fra.specs.declared.Edge.{Edge}
use Rattle.fra.specs.declared.Model.{Model}
use Rattle.fra.specs.declared.Position.{Position}
use Rattle.fra.specs.declared.Task.{Task}
use Rattle.fra.specs.declared.Side.{Side}
use Rattle.fra.specs.declared.Side.TheVariants.{Left, Right}
use Rattle.fra.specs.declared.Attack.{Attack}
use Rattle.fra_laws.proofs.Tests.{and_left, and_right, or_cases}
use Rattle.fra_laws.proofs.Registers.{has_positive, Matching, matching_facts, matching_intro, left_partner-sound, left_of-right, matched-length, matched-matching}
use Rattle.fra_laws.proofs.AttackMembers.{attack-at, reply_at}

-- ── Valid models ──

pub valid-side : {r : ℕ} {t : Task} → Valid r t → (s : Side) → ValidModel r (model_of t s)
valid-side valid Left = valid.left
valid-side valid Right = valid.right

-- the registers of a state's set are 1 to r
pub registers_exist : {r : ℕ} {m : Model} → ValidModel r m → (q i : ℕ) → q < m.state_count → has (set_of m q) i ≡ true
    → (1 ≤ i) × (i ≤ r)
registers_exist {m = m} v q i h e =
    (has_positive (set_of m q) i e, omega (arith, (v.states q h).existing i e, v.registers))

with-other : (set i j : ℕ) → with set i j ≡ true → (j ≡ i → ⊥) → has set j ≡ true
unfolding with
with-other set i j h d = step (or_cases (has set j) (eqb i j) h)
  where
    step : (has set j ≡ true) ⊎ (eqb i j ≡ true) → has set j ≡ true
    step (inl e) = e
    step (inr e) = absurd (d (sym (eqb-true i j e)))

-- of the registers in the to set, those other than the edge's were in the from set
pub held-before : (from to : ℕ) (κ : EdgeKind) → RegisterRule from to κ → (i : ℕ) → has to i ≡ true → (i ≡ register_of κ → ⊥)
    → has from i ≡ true
held-before from to (Known j) rule i h d = rule.1 i h
held-before from to (LocallyFresh j) rule i h d = with-other from j i (rule i h) d
held-before from to (GloballyFresh j) rule i h d = with-other from j i (rule i h) d

-- ── Legal positions ──

-- "its states exist, partners join registers of the two states' sets and no right register is used twice"; the history size is
-- not "above 13 or below the numbers held together"
pub record Legal (r : ℕ) (t : Task) (p : Position) : Type 0 where
  pub exists : (s : Side) → state_of p s < (model_of t s).state_count
  pub long : length p.partners ≡ r
  pub matches : Matching (filled t p Left) (filled t p Right) p.partners
  pub least : held t p ≤ p.history
  pub most : p.history ≤ most_seen r

-- what this says of states and partners alone
pub record Joined (r : ℕ) (t : Task) (p : Position) : Type 0 where
  pub exists : (s : Side) → state_of p s < (model_of t s).state_count
  pub long : length p.partners ≡ r
  pub matches : Matching (filled t p Left) (filled t p Right) p.partners

pub joined : {r : ℕ} {t : Task} {p : Position} → Legal r t p → Joined r t p
joined l = record { exists = l.exists; long = l.long; matches = l.matches }

pub legal_facts : (r : ℕ) (t : Task) (p : Position) → legal r t p ≡ true → Legal r t p
unfolding legal
legal_facts r t p h =
    record {
      exists = exists;
      long = eqb-true (length p.partners) r (search (and_left, and_right));
      matches = matching_facts (filled t p Left) (filled t p Right) p.partners (search (and_left, and_right));
      least = leb-true (held t p) p.history (search (and_left, and_right));
      most = leb-true p.history (most_seen r) (search (and_left, and_right));
    }
  where
    exists : (s : Side) → state_of p s < (model_of t s).state_count
    exists Left = ltb-true p.left t.left.state_count (search (and_left, and_right))
    exists Right = ltb-true p.right t.right.state_count (search (and_left, and_right))

pub legal_intro : (r : ℕ) (t : Task) (p : Position) → Legal r t p → legal r t p ≡ true
unfolding legal
legal_intro r t p l =
    rw (
      lt-ltb p.left t.left.state_count (l.exists Left),
      lt-ltb p.right t.right.state_count (l.exists Right),
      eq-eqb (length p.partners) r l.long,
      matching_intro (filled t p Left) (filled t p Right) p.partners l.matches,
      le-leb (held t p) p.history l.least,
    )
    (le-leb p.history (most_seen r) l.most)

-- partners are mutual
pub partner_mutual : {r : ℕ} {t : Task} {p : Position} → Legal r t p → (s : Side) (i j : ℕ) → 1 ≤ j → partner p s i ≡ j
    → partner p (other s) j ≡ i
unfolding partner
partner_mutual {p = p} l Left i j h e =
    subst (λ k. left_partner 1 p.partners k ≡ i) e (left_of-right l.matches i (rw e h))
partner_mutual {p = p} l Right i j h e = left_partner-sound p.partners j i h e

-- ── Rounds keep positions legal ──

pub attack_edge-exists : (g : Rules) (t : Task) (p : Position) (a : Attack) → a ∈ attacks g t p
    → a.edge < (model_of t a.side).edge_count
attack_edge-exists g t p a m = (attack-at g t p a m).exists

pub reply_edge-exists : (t : Task) (p : Position) (a : Attack) (k : ℕ) → k ∈ replies t p a
    → k < (model_of t (other a.side)).edge_count
reply_edge-exists t p a k m = (reply_at t p a k m).exists

-- a left and a right edge into states that exist
pub moved-joined : {r : ℕ} {t : Task} {p : Position} → Joined r t p → (size : ℕ) (l e : Edge)
    → l.to < t.left.state_count → e.to < t.right.state_count → Joined r t (moved t p size l e)
unfolding moved
moved-joined {t = t} {p = p} h size l e a b =
    record {
      exists = exists;
      long = rw matched-length h.long;
      matches =
          matched-matching h.matches (set_of t.left l.to) (set_of t.right e.to) (register_of l.kind)
          (register_of e.kind);
    }
  where
    exists : (s : Side) → state_of (moved t p size l e) s < (model_of t s).state_count
    exists Left = a
    exists Right = b
