-- The set of keys in the lent table, however a key is known to be in it: its keys, the empty set, and one key more. Assumes nothing.
use Prim.Native.Nat.{ℕ, zero, suc, ◌+◌, ◌≤◌, ◌<◌}
use mathlib.Core.Path.{◌≡◌, refl, sym, ◌∙◌, ap, subst}
use mathlib.Core.Bool.{true, false}
use mathlib.Core.List.Memᴰ
use mathlib.Core.List.{List, map}
use native.Mathlib.Omega.{arith}
use native.Mathlib.Decide.{ℕ_discrete}
use lib.ListN.{length}
use Rattle.fra.specs.Lists.{◌∈◌, Unique, count}
use Rattle.fra_laws.proofs.Lists.{count_intro, count_elim}
use Rattle.fra_laws.proofs.Lengths.{count-length, unique-length}
use Rattle.outcome.specs.Compare.{capacity}
use Rattle.table_laws.specs.Table.{key_at, keys}
use Rattle.table_laws.proofs.KeyColumn.{keys_length}
use Rattle.key_set_laws.specs.HashChains.{Chained}
use Rattle.key_set_laws.specs.Bits.{bits_fit}
use Rattle.key_set_laws.specs.Stored.{Holds, Flagged, Stored, bucket_of, entries_of}
use Rattle.key_set_laws.specs.Growth.{Grows, Completes, Overflows}
use Rattle.key_set_laws.proofs.Growth.{grows_none}

-- ── The keys ──

pub holds_member : (n : ℕ) (table : List ℕ) (k : ℕ) → Holds n table k → k ∈ keys n table
unfolding keys
holds_member n table k h =
    Memᴰ.cast (sym h.2) (Memᴰ.map (key_at table) (count_intro 0 n h.0 (omega arith) (omega (arith, h.1))))

pub member_holds : (n : ℕ) (table : List ℕ) (k : ℕ) → k ∈ keys n table → Holds n table k
unfolding keys
member_holds n table k m =
    let w = Memᴰ.of_map (key_at table) (count 0 n) m in
    (w.0, omega (arith, count_elim 0 n w.0 w.1), w.2)

-- values that differ at any two places
places-unique : (f : ℕ → ℕ) (k n : ℕ) → ((i j : ℕ) → k ≤ i → i < j → j < k + n → f i ≡ f j → ⊥) → Unique (map f (count k n))
unfolding count
places-unique f k zero apart = tt
places-unique f k (suc n) apart = (
  λ m.
      let w = Memᴰ.of_map f (count (suc k) n) m in
      let c = count_elim (suc k) n w.0 w.1 in
      apart k w.0 (omega arith) (omega arith) (omega arith) (sym w.2),
  places-unique f (suc k) n (λ i j a b c. apart i j (omega arith) b (omega arith)),
)

module _ {space n : ℕ} {table : List ℕ} (s : Stored space n table) where
  pub keys-unique : Unique (keys n table)
  unfolding keys
  keys-unique =
      places-unique (key_at table) 0 n
      (λ i j a b c e. let d = s.distinct i j (omega arith) (omega arith) e in omega arith)

  -- keys are distinct and below the limit, so there are no more
  pub stored_few : n ≤ space
  stored_few =
      rw (keys_length n table, count-length 0 space) at
      (unique-length (keys n table) (count 0 space) keys-unique
      (λ k m.
      let h = member_holds n table k m in
      count_intro 0 space k (omega arith) (omega (arith, h.2, s.small h.0 h.1))))

-- ── One key more ──

-- k has become key n, and those before it are as they were
pub record KeyAdded (n k : ℕ) (old new : List ℕ) : Type 0 where
  pub long : length new ≡ length old
  pub key : key_at new n ≡ k
  pub others : (i : ℕ) → i < n → key_at new i ≡ key_at old i

-- a key that is not held, where there is room for it; bits and chains tell of themselves
module _ {space n k : ℕ} {table new : List ℕ} (s : Stored space n table) (room : n < capacity table)
    (missing : Holds n table k → ⊥) (small : k < space) (added : KeyAdded n k table new)
    (flagged : bits_fit space (capacity table) ≡ true → Flagged (capacity table) (suc n) new)
    (chained : bits_fit space (capacity table) ≡ false
    → Chained (capacity table) (bucket_of (capacity table)) (suc n) (entries_of (capacity table) new))
  where
    same : capacity table ≡ capacity new
    unfolding capacity
    same = rw added.long

    stored-adds : Stored space (suc n) new
    stored-adds =
        record {
          room = subst (λ c. suc n ≤ c) same room;
          distinct = λ i j x y. distinct i j x y (ℕ_discrete i n) (ℕ_discrete j n);
          small = λ i x. below i x (ℕ_discrete i n);
          flagged = subst (λ c. bits_fit space c ≡ true → Flagged c (suc n) new) same flagged;
          chained =
              subst (λ c. bits_fit space c ≡ false → Chained c (bucket_of c) (suc n) (entries_of c new)) same chained;
        }
      where
        distinct : (i j : ℕ) → i < suc n → j < suc n → Dec (i ≡ n) → Dec (j ≡ n) → key_at new i ≡ key_at new j → i ≡ j
        distinct i j x y (yes d) (yes e) h = d ∙ sym e
        distinct i j x y (yes d) (no e) h =
            absurd (missing (j, omega arith, sym (added.others j (omega arith)) ∙ sym h ∙ ap (key_at new) d ∙ added.key))
        distinct i j x y (no d) (yes e) h =
            absurd (missing (i, omega arith, sym (added.others i (omega arith)) ∙ h ∙ ap (key_at new) e ∙ added.key))
        distinct i j x y (no d) (no e) h =
            s.distinct i j (omega arith) (omega arith)
            (sym (added.others i (omega arith)) ∙ h ∙ added.others j (omega arith))

        below : (i : ℕ) → i < suc n → Dec (i ≡ n) → key_at new i < space
        below i x (yes e) = rw (e, added.key) small
        below i x (no d) = rw (added.others i (omega arith)) (s.small i (omega arith))

    pub completes_adds : Completes space (λ x. x ≡ k) n table (suc n) new
    completes_adds =
        record {
          grows =
              record {
                stored = stored-adds;
                long = added.long;
                more = omega arith;
                kept = added.others;
                sound = λ i x y. let e : i ≡ n = omega arith in rw e added.key;
              };
          complete = λ x e. (n, omega arith, added.key ∙ sym e);
        }

-- ── What an insertion does ──

-- a key that is held
pub completes_held : {space n k : ℕ} {table : List ℕ} → Stored space n table → Holds n table k
    → Completes space (λ x. x ≡ k) n table n table
completes_held {n = n} {k} {table} s h =
    record { grows = grows_none s; complete = λ x e. subst (λ y. Holds n table y) (sym e) h }

-- a key that is not held, where no entry is left
pub overflows_full : {space n k : ℕ} {table : List ℕ} → Stored space n table → capacity table ≤ n → (Holds n table k → ⊥)
    → Overflows space (λ x. x ≡ k) n table table
overflows_full {space} {n} {k} {table} s full missing =
    let e : n ≡ capacity table = omega (arith, s.room) in
    record {
      grows = subst (λ c. Grows space (λ x. x ≡ k) n table c table) e (grows_none s);
      key = k;
      wanted = refl;
      missing = subst (λ c. Holds c table k → ⊥) e missing;
    }
