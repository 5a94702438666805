-- The list of positions reached holds exactly the positions that attacks and replies lead to from the start of a valid task;
-- they are legal, and there are no more of them than 01 says. Assumes nothing.
use Prim.Native.Nat.{ℕ, suc, ◌*◌, ◌-◌, ◌≤◌}
use mathlib.Core.Path.{◌≡◌}
use mathlib.Core.Logic.{◌↔◌}
use mathlib.Core.Bool.{Bool, true, false, cond}
use mathlib.Core.List.Memᴰ
use mathlib.Core.List.{List, [], ◌∷◌, map}
use native.Mathlib.Omega.{arith}
use native.Mathlib.Nat.{le_trans, mul-le-mul_left}
use lib.ListN.{length}
use lib.Dec.{ltb}
use Rattle.fra.specs.Lists.{◌∈◌, Unique}
use Rattle.fra.specs.Rules.{Rules}
use Rattle.fra.specs.Position.{most_seen, Rising, legal}
use Rattle.fra.specs.Game.{attacks, replies, size_after, moved, after}
use Rattle.fra.specs.Reach.{begin, successors, Reached, closed, enough, reached}
use Rattle.fra.specs.Valid.{Valid}
use Rattle.fra.specs.declared.Position.{Position}
use Rattle.fra.specs.declared.Task.{Task}
use Rattle.fra.specs.declared.IdCase.{IdCase}
use Rattle.fra.specs.declared.IdCase.TheVariants.{Held, Private, Seen, New}
use Rattle.fra.specs.declared.Attack.{Attack}
use Rattle.fra_laws.proofs.Lists.{flat_map_intro, flat_map_elim}
use Rattle.fra_laws.proofs.Lengths.{unique-length}
use Rattle.fra_laws.proofs.Closure.{Computes, closed_computes, closure_keeps, rising-unique}
use Rattle.fra_laws.proofs.Legal.{legal_facts}
use Rattle.fra_laws.proofs.LegalRounds.{successors-legal}
use Rattle.fra_laws.proofs.LegalPositions.{injections_power, legal-count-from}

-- an attack and its reply lead to a successor
pub successors_intro : (g : Rules) (t : Task) (p : Position) (a : Attack) (k : ℕ) → a ∈ attacks g t p → k ∈ replies t p a
    → after t p a k ∈ successors g t p
unfolding successors
successors_intro g t p a k m n = flat_map_intro (λ a. map (after t p a) (replies t p a)) m (Memᴰ.map (after t p a) n)

-- ── The history never shrinks ──

size-grows : (r : ℕ) (c : IdCase) (size : ℕ) → size ≤ size_after r c size
size-grows r Held size = omega arith
size-grows r (Private j) size = omega arith
size-grows r Seen size = omega arith
size-grows r New size = step (ltb size (most_seen r))
  where
    step : (b : Bool) → size ≤ cond b (suc size) size
    step true = omega arith
    step false = omega arith

pub successors_grow : (g : Rules) (t : Task) (p q : Position) → q ∈ successors g t p → p.history ≤ q.history
unfolding successors after moved
successors_grow g t p q m =
    let (a, i, n) = flat_map_elim (λ a. map (after t p a) (replies t p a)) (attacks g t p) m in
    let (k, j, e) = Memᴰ.of_map (after t p a) (replies t p a) n in
    rw (← e) (size-grows (length p.partners) a.case p.history)

pub history-grows : (g : Rules) (t : Task) {p : Position} → Reached g t p → t.start.history ≤ p.history
history-grows g t c =
    closure_keeps (λ p. t.start.history ≤ p.history) (omega arith) (λ p q h m. le_trans h (successors_grow g t p q m)) c

module _ {r : ℕ} {t : Task} (valid : Valid r t) where
  -- the fuel is no less than the number of legal positions
  legal-enough : (l : List Position) → Unique l → ((p : Position) → p ∈ l → legal r t p ≡ true) → length l ≤ enough t
  unfolding enough
  legal-enough l u h =
      let all : suc (most_seen r) - 0 ≡ suc (most_seen r) = omega arith in
      rw (legal_facts r t t.start valid.start-legal).long
      (le_trans (rw all at (legal-count-from valid 0 l u (λ p m. (h p m, omega arith))))
      (mul-le-mul_left (suc (most_seen r))
      (mul-le-mul_left (t.left.state_count * t.right.state_count) (injections_power r r))))

  -- so it suffices for every step that keeps positions legal
  pub enough_computes : (step : Position → List Position)
      → ((p q : Position) → legal r t p ≡ true → q ∈ step p → legal r t q ≡ true)
      → Computes step t.start (closed step (enough t) (t.start ∷ []))
  enough_computes step kept =
      closed_computes step t.start (λ p. legal r t p ≡ true) (enough t) valid.start-legal kept
      (λ l rises. legal-enough l (rising-unique l rises))

  module _ (g : Rules) where
    reached_computes : Computes (successors g t) t.start (reached g t)
    unfolding reached
    reached_computes = enough_computes (successors g t) (successors-legal valid g)

    -- ── The positions reached ──

    pub reached-exactly : (p : Position) → p ∈ reached g t ↔ Reached g t p
    reached-exactly p = (reached_computes.sound p, reached_computes.complete p)

    pub reached-rising : Rising (reached g t)
    reached-rising = reached_computes.rising

    pub reached-unique : Unique (reached g t)
    reached-unique = rising-unique (reached g t) reached-rising

    pub reached-start : t.start ∈ reached g t
    reached-start = (reached-exactly t.start).1 begin

    pub reached_successor : (p q : Position) → p ∈ reached g t → q ∈ successors g t p → q ∈ reached g t
    reached_successor = reached_computes.within

    pub reached-after : (p : Position) (a : Attack) (k : ℕ) → p ∈ reached g t → a ∈ attacks g t p → k ∈ replies t p a
        → after t p a k ∈ reached g t
    reached-after p a k m n o = reached_successor p (after t p a k) m (successors_intro g t p a k n o)

    pub reached-legal : (p : Position) → p ∈ reached g t → legal r t p ≡ true
    reached-legal p m =
        closure_keeps (λ p. legal r t p ≡ true) valid.start-legal (successors-legal valid g) ((reached-exactly p).0 m)

    -- no list without duplicates of positions reached is longer
    pub reached_longest : (l : List Position) → Unique l → ((p : Position) → p ∈ l → Reached g t p)
        → length l ≤ length (reached g t)
    reached_longest l u h = unique-length l (reached g t) u (λ p m. (reached-exactly p).1 (h p m))
