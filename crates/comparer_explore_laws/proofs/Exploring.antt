-- Exploring step by step: the invariant holds once the start is found and stays as positions are expanded; when all are
-- expanded, the keys are those of the positions reached; and where a key has no room, the positions reached outnumber the
-- table's entries. Assumes nothing.
use Prim.Native.Nat.{ℕ, ◌+◌, ◌<◌}
use mathlib.Core.Path.{◌≡◌, refl, sym, ◌∙◌, ap, subst}
use mathlib.Core.Logic.{⊎_elim}
use mathlib.Core.Bool.{true}
use mathlib.Core.List.Memᴰ
use mathlib.Core.List.{List, ◌∷◌, map}
use native.Mathlib.Omega.{arith}
use native.Mathlib.Decide.{ℕ_discrete}
use lib.ListN.{length}
use Rattle.fra.specs.Lists.{◌∈◌}
use Rattle.fra.specs.Rules.{Rules}
use Rattle.fra.specs.Reach.{begin, onward, successors, Reached, reached}
use Rattle.fra.specs.Position.{legal}
use Rattle.fra.specs.Valid.{Valid}
use Rattle.fra.specs.declared.Position.{Position}
use Rattle.fra.specs.declared.Task.{Task}
use Rattle.fra_laws.proofs.Reached.{reached-exactly, reached-legal, history-grows}
use Rattle.outcome.specs.Compare.{capacity}
use Rattle.game_index.specs.Reading.{task_in, rules_in}
use Rattle.game_index.specs.Writing.{Index}
use Rattle.table_keys.specs.Keys.{key_of, key_count, position_from, radix_of, Sized, Fits}
use Rattle.table_laws.specs.Sorted.{Permuted}
use Rattle.table_laws.specs.Table.{key_at, keys}
use Rattle.table_keys.proofs.Keys.{key_bound, position_of-key, key-order, radix_sized, legal-fits}
use Rattle.table_laws.proofs.KeyColumn.{keys_length}
use Rattle.key_set_laws.specs.Stored.{Holds}
use Rattle.key_set_laws.specs.Growth.{Completes, Overflows}
use Rattle.comparer_explore_laws.specs.Exploring.{ReachedKey, SuccessorKey, Expandable, Exploring}
use Rattle.comparer_explore_laws.proofs.Explored.{names-unique, explored_few, explored_members, explored_length}
use Rattle.key_set_laws.proofs.Stored.{holds_member, member_holds, keys-unique}
use Rattle.key_set_laws.proofs.Growth.{grown-all, holds_kept}
use Rattle.key_set_laws.proofs.Permuted.{unique-permuted}

module _ {b : List ℕ} (index : Index b) where
  abbrev g : Rules
  g = rules_in b

  abbrev t : Task
  t = task_in b

  valid : Valid 6 t
  valid = index.indexable.valid

  is_legal : (p : Position) → Reached g t p → legal 6 t p ≡ true
  is_legal p h = reached-legal valid g p ((reached-exactly valid g p).1 h)

  sized : Sized (radix_of t)
  sized = radix_sized index

  fits : (p : Position) → Reached g t p → Fits (radix_of t) p
  fits p h = legal-fits t p valid (is_legal p h) (history-grows g t h)

  -- the position of a reached key
  from_key : (p : Position) → Reached g t p → position_from (radix_of t) (key_of (radix_of t) p) ≡ p
  from_key p h = position_of-key sized (fits p h)

  -- keys tell positions apart
  apart : (p q : Position) → Reached g t p → Reached g t q → key_of (radix_of t) p ≡ key_of (radix_of t) q → p ≡ q
  apart p q a b = (key-order sized (fits p a) (fits q b)).1

  reached-from : {k : ℕ} → ReachedKey g t k → Reached g t (position_from (radix_of t) k)
  reached-from w = subst (Reached g t) (sym (ap (position_from (radix_of t)) w.2 ∙ from_key w.0 w.1)) w.1

  -- a position that is found is legal, and its successors have keys
  pub exploring_expandable : {size n done : ℕ} {table : List ℕ} → Exploring g t size n done table → done < n
      → Expandable t (position_from (radix_of t) (key_at table done))
  exploring_expandable e l =
      let r = reached-from (e.reached _ l) in
      record { legal = is_legal _ r; least = history-grows g t r }

  pub start-below : key_of (radix_of t) t.start < key_count (radix_of t)
  start-below = key_bound sized (fits t.start begin)

  pub start_fits : Fits (radix_of t) t.start
  start_fits = fits t.start begin

  start-reached : (k : ℕ) → k ≡ key_of (radix_of t) t.start → ReachedKey g t k
  start-reached k e = (t.start, begin, e)

  pub exploring_begins : {n : ℕ} {old new : List ℕ} → Completes (key_count (radix_of t)) (λ x. x ≡ key_of (radix_of t) t.start) 0 old n new
      → Exploring g t (length new) n 0 new
  exploring_begins c =
      record {
        long = refl;
        stored = c.grows.stored;
        reached = grown-all (ReachedKey g t) c.grows (λ i l. absurd (omega arith)) start-reached;
        started = c.complete (key_of (radix_of t) t.start) refl;
        ahead = omega arith;
        expanded = λ i l. absurd (omega arith);
      }

  -- the successors of a position that is found
  successors-reached : {k : ℕ} → ReachedKey g t k → (x : ℕ) → SuccessorKey g t (position_from (radix_of t) k) x → ReachedKey g t x
  successors-reached w x s = (s.0, onward (reached-from w) s.1, s.2)

  pub exploring_goes_on : {size n m done : ℕ} {old new : List ℕ} → Exploring g t size n done old → done < n
      → Completes (key_count (radix_of t)) (SuccessorKey g t (position_from (radix_of t) (key_at old done))) n old m new
      → Exploring g t size m (done + 1) new
  exploring_goes_on {m = m} {done} {old} {new} e l c =
      record {
        long = c.grows.long ∙ e.long;
        stored = c.grows.stored;
        reached = grown-all (ReachedKey g t) c.grows e.reached (successors-reached (e.reached done l));
        started = holds_kept c.grows e.started;
        ahead = omega (arith, c.grows.more);
        expanded = λ i h. expanded i h (ℕ_discrete i done);
      }
    where
      expanded : (i : ℕ) → i < done + 1 → Dec (i ≡ done) → (k : ℕ) → SuccessorKey g t (position_from (radix_of t) (key_at new i)) k
          → Holds m new k
      expanded i h (yes d) k w =
          c.complete k (subst (λ j. SuccessorKey g t (position_from (radix_of t) j) k) (ap (key_at new) d ∙ c.grows.kept done l) w)
      expanded i h (no d) k w =
          let f = c.grows.kept i (omega (arith, e.ahead)) in
          holds_kept c.grows (e.expanded i (omega arith) k (subst (λ j. SuccessorKey g t (position_from (radix_of t) j) k) f w))

  keys-reached : (n : ℕ) (table : List ℕ) → ((i : ℕ) → i < n → ReachedKey g t (key_at table i))
      → (k : ℕ) → k ∈ keys n table → ReachedKey g t k
  keys-reached n table all k m = let h = member_holds n table k m in subst (ReachedKey g t) h.2 (all h.0 h.1)

  -- all are expanded
  module _ {size n : ℕ} {table : List ℕ} (e : Exploring g t size n n table) where
    leads : (p q : Position) → Reached g t p → key_of (radix_of t) p ∈ keys n table → q ∈ successors g t p → key_of (radix_of t) q ∈ keys n table
    leads p q c m s =
        let h = member_holds n table (key_of (radix_of t) p) m in
        let same : position_from (radix_of t) (key_at table h.0) ≡ p = ap (position_from (radix_of t)) h.2 ∙ from_key p c in
        holds_member n table (key_of (radix_of t) q) (e.expanded h.0 h.1 (key_of (radix_of t) q) (q, rw same s, refl))

    sound : (k : ℕ) → k ∈ keys n table → ReachedKey g t k
    sound = keys-reached n table e.reached

    starts : key_of (radix_of t) t.start ∈ keys n table
    starts = holds_member n table (key_of (radix_of t) t.start) e.started

    pub exploring_count : n ≡ length (reached g t)
    exploring_count =
        sym (keys_length n table)
        ∙ explored_length valid g (key_of (radix_of t)) (keys n table) (keys-unique e.stored) sound apart starts leads

    pub exploring_keys : Permuted (keys n table) (map (key_of (radix_of t)) (reached g t))
    exploring_keys =
        let same = explored_members valid g (key_of (radix_of t)) (keys n table) (keys-unique e.stored) sound apart starts leads in
        unique-permuted (keys n table) (map (key_of (radix_of t)) (reached g t)) (keys-unique e.stored)
        (names-unique valid g (key_of (radix_of t)) apart)
        (λ k. (same k).0) (λ k. (same k).1)

  -- a reached position has no room
  overflows_reached : {Wanted : ℕ → Type 0} {n : ℕ} {old new : List ℕ} → Overflows (key_count (radix_of t)) Wanted n old new
      → ((i : ℕ) → i < n → ReachedKey g t (key_at old i))
      → ((k : ℕ) → Wanted k → ReachedKey g t k)
      → capacity old < length (reached g t)
  overflows_reached {old = old} {new} o before wanted =
      rw (keys_length c new) at
      (explored_few valid g (key_of (radix_of t)) (o.key ∷ keys c new)
      (λ m. o.missing (member_holds c new o.key m), keys-unique o.grows.stored)
      (λ k m.
      ⊎_elim (λ (d : k ≡ o.key). subst (ReachedKey g t) (sym d) (wanted o.key o.wanted))
      (keys-reached c new (grown-all (ReachedKey g t) o.grows before wanted) k)
      (Memᴰ.cases_cons m)))
    where
      c : ℕ
      c = capacity old

  pub first_overflows : {old new : List ℕ} → Overflows (key_count (radix_of t)) (λ x. x ≡ key_of (radix_of t) t.start) 0 old new
      → capacity old < length (reached g t)
  first_overflows o = overflows_reached o (λ i l. absurd (omega arith)) start-reached

  pub next_overflows : {n done : ℕ} {old new : List ℕ} (entry : List ℕ) → Exploring g t (length entry) n done old → done < n
      → Overflows (key_count (radix_of t)) (SuccessorKey g t (position_from (radix_of t) (key_at old done))) n old new
      → capacity entry < length (reached g t)
  unfolding capacity
  next_overflows {done = done} entry e l o =
      rw e.long at (overflows_reached o e.reached (successors-reached (e.reached done l)))
