-- Sets of state pairs: what is added stays, and where k is not 0 the states of a position of rank k + 1 are among those that lead
-- to the states of positions of rank k. So a pass may leave all other positions as they are. And the states of a position that is
-- lost are among those found in the table. Assumes nothing.
use Prim.Native.Nat.{ℕ, zero, suc, ◌*◌, ◌^◌, ◌≤◌, ◌<◌}
use mathlib.Core.Path.{◌≡◌, sym, ◌∙◌, ap}
use mathlib.Core.Bool.{Bool, true, false, cond}
use mathlib.Core.List.{List}
use native.Mathlib.Omega.{arith}
use native.Mathlib.Decide.{le_ind}
use lib.ListN.{length, get_or, drop, length-set, length-replicate}
use borrow.Author.Tests.{eqb-true, eq-eqb, ltb-true, le-leb, lt-ltb}
use Rattle.fra.specs.Lists.{◌∈◌}
use Rattle.fra.specs.Model.{edge_of}
use Rattle.fra.specs.Rules.{Rules}
use Rattle.fra.specs.Position.{legal}
use Rattle.fra.specs.Game.{moved}
use Rattle.fra.specs.Reach.{successors, reached}
use Rattle.fra.specs.Valid.{Valid}
use Rattle.fra.specs.declared.Position.{Position}
use Rattle.fra.specs.declared.Task.{Task}
use Rattle.fra.specs.declared.Side.TheVariants.{Left}
use Rattle.fra_laws.proofs.Tests.{and_intro}
use Rattle.fra_laws.proofs.Reached.{reached_successor, reached-legal}
use Rattle.fra_laws.proofs.Successors.{successors_by_pairs}
use Rattle.fra_laws.proofs.FixedWidth.{member_place}
use Rattle.outcome.specs.Bytes.{all_ones}
use Rattle.listing.specs.Widths.{entry_width}
use Rattle.listing.specs.Listing.{of_table, position_at, rounds_at}
use Rattle.game_state_pairs.specs.StatePairs.{pair_places, pair_of, has_pair, with_pair, no_pairs}
use Rattle.game_state_pairs.proofs.PairMembers.{with-adds, with_keeps}
use Rattle.comparer_rank_laws.specs.Levels.{level}
use Rattle.comparer_rank_laws.specs.EntryRows.{BeginsWith}
use Rattle.comparer_rank_laws.specs.Sources.{with_pairs, between, lost_pairs, leads_into, sources_to, sources, Covers, CoversLost}
use Rattle.comparer_rank_laws.proofs.Levels.{level_judges, ranked_successor}
use Rattle.comparer_rank_laws.proofs.EntryRows.{SixPartners, reached_six, rows-position, rows-rounds}

-- ── Adding pairs ──

module _ (test : ℕ → Bool) (left right : ℕ → ℕ) (pairs : List ℕ) (long : length pairs ≡ pair_places) where
  -- the set after the first n numbers
  abbrev added : ℕ → List ℕ
  added = with_pairs test left right pairs

  added-length : (n : ℕ) → length (added n) ≡ pair_places
  unfolding with_pairs
  added-length zero = long
  added-length (suc n) = step (test n) (added-length n)
    where
      step : (b : Bool) → length (added n) ≡ pair_places
          → length (cond b (with_pair (added n) (left n) (right n)) (added n)) ≡ pair_places
      step true e = length-set (added n) (pair_of (left n) (right n)) 1 ∙ e
      step false e = e

  keep_one : (n a b : ℕ) → has_pair (added n) a b ≡ true → has_pair (added (suc n)) a b ≡ true
  unfolding with_pairs
  keep_one n a b h = step (test n)
    where
      step : (t : Bool) → has_pair (cond t (with_pair (added n) (left n) (right n)) (added n)) a b ≡ true
      step true = with_keeps (added n) (added-length n) (left n) (right n) a b h
      step false = h

  added-keep : (n a b : ℕ) → has_pair pairs a b ≡ true → has_pair (added n) a b ≡ true
  unfolding with_pairs
  added-keep n a b h = le_ind {n = 0} (λ k. has_pair (added k) a b ≡ true) h (λ k d. keep_one k a b) n (omega arith)

  added_have : (n i : ℕ) → i < n → test i ≡ true → has_pair (added n) (left i) (right i) ≡ true
  unfolding with_pairs
  added_have n i b e =
      le_ind (λ k. has_pair (added k) (left i) (right i) ≡ true) (rw e (with-adds (added i) (added-length i) (left i) (right i)))
      (λ k d. keep_one k (left i) (right i))
      n
      b

-- ── Where positions were lost ──

-- in a table of rows, the states of a position with rounds between two numbers are among those found
lost_have : {l : List Position} → SixPartners l → {f : Position → ℕ} {n : ℕ} {table : List ℕ} → BeginsWith l f n table
    → (from below : ℕ) (q : Position) → q ∈ l → from ≤ f q → f q < below → below ≤ all_ones
    → has_pair (lost_pairs table from below n) q.left q.right ≡ true
lost_have {l} six {f} {n} {table} t from below q m a b c =
    let (j, d, u) = member_place q m in
    let rest = drop (n * entry_width) table in
    let found_at = position_at (of_table n) table j in
    let small : f (get_or l j q) < 2 ^ 32 = rw u (omega arith) in
    let place : found_at ≡ q = rw t.begins (rows-position f l rest six j q d ∙ u) in
    let rounds : rounds_at (of_table n) table j ≡ f q = rw t.begins (rows-rounds f l rest six j q d small ∙ ap f u) in
    let inside : between from below (rounds_at (of_table n) table j) ≡ true =
    rw rounds (and_intro _ _ (le-leb from (f q) a) (lt-ltb (f q) below b)) in
    let found : has_pair (lost_pairs table from below n) found_at.left found_at.right ≡ true =
    added_have _ _ _ no_pairs (length-replicate {A = ℕ} pair_places 0) n j (omega (arith, t.counted)) inside in
    rw place at found

-- ── From where rounds lead there ──

module _ (t : Task) (lost : List ℕ) where
  sources-length : (n : ℕ) → length (sources_to t lost n) ≡ pair_places
  unfolding sources_to
  sources-length zero = length-replicate {A = ℕ} pair_places 0
  sources-length (suc n) = added-length _ _ _ _ (sources-length n) _

  -- the pair from which left edge i and right edge j lead into `lost` is among them
  sources_have : (i j : ℕ) → i < t.left.edge_count → j < t.right.edge_count
      → leads_into lost (edge_of t.left i) (edge_of t.right j) ≡ true
      → has_pair (sources t lost) (edge_of t.left i).from (edge_of t.right j).from ≡ true
  unfolding sources_to
  sources_have i j b c h =
      le_ind (λ k. has_pair (sources_to t lost k) (edge_of t.left i).from (edge_of t.right j).from ≡ true)
      (added_have _ _ _ _ (sources-length i) _ j c h)
      (λ k d. added-keep _ _ _ _ (sources-length k) _ _ _)
      t.left.edge_count
      b

module _ {t : Task} (valid : Valid 6 t) (g : Rules) (attacked : g.attacks Left ≡ true) where
  -- a position that leads to one with its states in a set has its own among the sources
  sources_lead : (lost : List ℕ) (p q : Position) → legal 6 t p ≡ true → q ∈ successors g t p
      → has_pair lost q.left q.right ≡ true
      → has_pair (sources t lost) p.left p.right ≡ true
  unfolding moved
  sources_lead lost p q l m h =
      let (i, j, size, x, e) = (successors_by_pairs valid g p l Left attacked q).0 m in
      rw (x.starts, x.other-starts) at
      (sources_have t lost i j x.exists x.other-exists (and_intro _ _ (eq-eqb _ _ (sym x.tag)) (rw e at h)))

  module _ (k : ℕ) (small : suc k < all_ones) {n : ℕ} {table : List ℕ} (b : BeginsWith (reached g t) (level g t k) n table) where
    -- after pass k, the states of what has k rounds or fewer are all with which a position is lost
    pub covers-lost : CoversLost g t k (lost_pairs table 0 (suc k) n)
    covers-lost p m h =
        let within = ltb-true (level g t k p) (suc k) (level_judges g t k k p (omega arith) (omega arith) ∙ h) in
        lost_have (reached_six g valid) b 0 (suc k) p m (omega arith) within (omega arith)

    -- after a pass that is not pass 0, the sources of what it marked are all that the next pass has to look at
    pub covers-next : 1 ≤ k → Covers g t (suc k) (sources t (lost_pairs table k (suc k) n))
    covers-next a p m h =
        let (q, d, i) = ranked_successor g t k p a small h in
        let rounds : level g t k q ≡ k = eqb-true (level g t k q) k i in
        sources_lead (lost_pairs table k (suc k) n) p q (reached-legal valid g p m) d
        (lost_have (reached_six g valid) b k (suc k) q (reached_successor valid g p q m d) (omega arith) (omega arith)
        (omega arith))
