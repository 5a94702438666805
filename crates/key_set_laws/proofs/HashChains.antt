-- A chained hash set, for any bucket function: a walk finds every key of the set, and an added key is found as all others are.
-- Assumes nothing.
use Prim.Native.Nat.{ℕ, suc, ◌≤◌, ◌<◌}
use mathlib.Core.Path.{◌≡◌, subst}
use native.Mathlib.Omega.{arith}
use native.Mathlib.Decide.{ℕ_discrete}
use Rattle.key_set_laws.specs.HashChains.{Entries, Visits, here, onward, Falling, Walking, Chained, Adds}

-- ── Walks ──

-- a walk from a head of at most n is the same where links from n on are changed
visits_kept : {n : ℕ} {link new : ℕ → ℕ} → Falling n link → ((i : ℕ) → i < n → new i ≡ link i) → {h i : ℕ}
    → Visits link h i → h ≤ n → Visits new h i
visits_kept falls same here b = here
visits_kept {n} {link} {new} falls same (onward {j = j} {i = i} v) b =
    let f = falls j b in
    onward {j = j} {i = i} (rw (same j b) (visits_kept falls same v (omega arith)))

pub walking_begins : (e : Entries) (k head : ℕ) → Walking e k head head
walking_begins e k head = record { within = omega arith; ahead = λ i v h. v }

-- the entry at this link has another key
pub walking_goes_on : {e : Entries} {k head at : ℕ} → Falling head e.link → Walking e k head at → (j : ℕ) → at ≡ suc j
    → (e.key j ≡ k → ⊥)
    → Walking e k head (e.link j)
walking_goes_on {e} {k} {head} falls w j d other =
    let f = falls j (omega (arith, w.within)) in
    record {
      within = omega (arith, w.within);
      ahead = λ i v h. next (subst (λ a. Visits e.link a i) d (w.ahead i v h)) h;
    }
  where
    next : {i : ℕ} → Visits e.link (suc j) i → e.key i ≡ k → Visits e.link (e.link j) i
    next here h = absurd (other h)
    next (onward v) h = v

pub walking_ends : {e : Entries} {k head : ℕ} → Walking e k head 0 → (i : ℕ) → Visits e.link head i → e.key i ≡ k → ⊥
walking_ends {e} w i v h = none (w.ahead i v h)
  where
    none : Visits e.link 0 i → ⊥
    none = elim [ ]

-- ── The set ──

module _ {entries : ℕ} {bucket : ℕ → ℕ} where
  -- a table with all heads 0 chains no keys
  pub chained_none : (e : Entries) → ((b : ℕ) → b < entries → e.head b ≡ 0) → Chained entries bucket 0 e
  chained_none e h =
      record {
        links = λ i l. absurd (omega arith);
        heads = λ b l. omega (arith, h b l);
        visited = λ i l. absurd (omega arith);
      }

  -- a key that no entry of its bucket's chain has is not in the set
  pub chained-missing : {n : ℕ} {e : Entries} → Chained entries bucket n e → (k : ℕ)
      → ((i : ℕ) → Visits e.link (e.head (bucket k)) i → e.key i ≡ k → ⊥)
      → (i : ℕ) → i < n → e.key i ≡ k → ⊥
  chained-missing {e = e} c k none i l d = none i (subst (λ x. Visits e.link (e.head (bucket x)) i) d (c.visited i l)) d

  pub chained-adds : {n k : ℕ} {old new : Entries} → ((x : ℕ) → bucket x < entries) → Chained entries bucket n old
      → Adds entries bucket n k old new → Chained entries bucket (suc n) new
  chained-adds {n} {k} {old} {new} below c a =
      record {
        links = λ i l. link i l (ℕ_discrete i n);
        heads = λ b l. head b l (ℕ_discrete b (bucket k));
        visited = λ i l. visit i l (ℕ_discrete i n);
      }
    where
      link : (i : ℕ) → i < suc n → Dec (i ≡ n) → new.link i ≤ i
      link i l (yes e) = rw (e, a.link) (c.heads (bucket k) (below k))
      link i l (no d) = rw (a.other-links i (omega arith)) (c.links i (omega arith))

      head : (b : ℕ) → b < entries → Dec (b ≡ bucket k) → new.head b ≤ suc n
      head b l (yes e) = rw (e, a.head) (omega arith)
      head b l (no d) = rw (a.other-heads b l d) (omega (arith, c.heads b l))

      -- the old chains are where they were, and that of k's bucket follows the new entry
      old_chain : (b i : ℕ) → b < entries → Dec (b ≡ bucket k) → Visits old.link (old.head b) i
          → Visits new.link (new.head b) i
      old_chain b i l (yes e) v =
          rw (e, a.head)
          (onward {j = n} {i = i}
          (rw a.link (visits_kept c.links a.other-links (rw e at v) (c.heads (bucket k) (below k)))))
      old_chain b i l (no d) v = rw (a.other-heads b l d) (visits_kept c.links a.other-links v (c.heads b l))

      visit : (i : ℕ) → i < suc n → Dec (i ≡ n) → Visits new.link (new.head (bucket (new.key i))) i
      visit i l (yes e) = rw (e, a.key, a.head) here
      visit i l (no d) =
          rw (a.other_keys i (omega arith))
          (let b = bucket (old.key i) in
          old_chain b i (below (old.key i)) (ℕ_discrete b (bucket k)) (c.visited i (omega arith)))
