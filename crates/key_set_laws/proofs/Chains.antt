-- A set of keys that is known by chains: a walk along the chain of a key's bucket says whether the set has it, and an entry that is
-- written before a chain adds its key. Assumes nothing.
use Prim.Native.Nat.{ℕ, suc, ◌+◌, ◌*◌, ◌^◌, ◌≤◌, ◌<◌, min}
use mathlib.Core.Path.{◌≡◌, refl, sym, ◌∙◌, ap, subst}
use mathlib.Core.Logic.{◌⊎◌, inl, inr}
use mathlib.Core.Bool.{Bool, true, false, true≢false, false≢true}
use mathlib.Core.List.{List}
use native.Mathlib.Nat.{suc-mul, mul-le-mul_right}
use native.Mathlib.Omega.{arith}
use native.Mathlib.Decide.{dec_lt}
use lib.ListN.{length}
use lib.Seq.{length-sets}
use Rattle.outcome.specs.Bytes.{word_at}
use Rattle.outcome.specs.Compare.{capacity}
use Rattle.listing.specs.Widths.{word_width, entry_width}
use Rattle.listing.proofs.WordLaws.{read_word, read-other-word}
use Rattle.table_laws.specs.Table.{key_at}
use Rattle.key_set_laws.specs.HashChains.{Chained, Adds}
use Rattle.key_set_laws.specs.Stored.{link_place, link_at, head_place, head_at, entries_of, with_key, with_entry, Holds, Stored}
use Rattle.key_set_laws.specs.Stored.{most_buckets, hash_limit, hash_of, bucket_of, Walkable, Walked}
use Rattle.key_set_laws.specs.Bits.{bits_fit}
use Rattle.key_set_laws.specs.Growth.{Completes}
use Rattle.key_set_laws.proofs.HashChains.{chained-adds, chained-missing}
use Rattle.key_set_laws.proofs.Stored.{KeyAdded, completes_adds}

-- ── The chain of a bucket ──

-- a hash is below its limit, scaled too
pub hash_scaled : (k m : ℕ) → hash_of k * m + m ≤ hash_limit * m
hash_scaled k m =
    let h : suc (hash_of k) ≤ hash_limit = omega arith in
    rw suc-mul at (mul-le-mul_right m h)

pub bucket_below : (buckets k : ℕ) → 0 < buckets → bucket_of buckets k < buckets
unfolding bucket_of
bucket_below buckets k h = let scaled = hash_scaled k (min buckets most_buckets) in omega arith

-- the chain of bucket b is walked from its head
module _ {n b head : ℕ} (table : List ℕ) (room : n ≤ capacity table)
    (chained : Chained (capacity table) (bucket_of (capacity table)) n (entries_of (capacity table) table))
    (below : b < capacity table) (first : head ≡ head_at (capacity table) table b)
  where
    head_few : head ≤ n
    head_few = rw first (chained.heads b below)

    pub chain_walkable : Walkable (capacity table) table head
    chain_walkable =
        let few = head_few in
        record { size = refl; within = omega arith; falls = λ i l. chained.links i (omega arith) }

    pub walk_meets : {k : ℕ} (r : Bool) → Walked (capacity table) table k head r → r ≡ true → Holds n table k
    walk_meets true w e = (w.0, omega (arith, w.1, head_few), w.2)
    walk_meets false w e = absurd (false≢true e)

    pub walk_misses : {k : ℕ} (r : Bool) → b ≡ bucket_of (capacity table) k → Walked (capacity table) table k head r → r ≡ false
        → Holds n table k → ⊥
    walk_misses true bucket w e h = true≢false e
    walk_misses {k} false bucket w e h =
        chained-missing chained k
        (subst (λ x. Walked (capacity table) table k x false) (first ∙ ap (head_at (capacity table) table) bucket) w)
        h.0 h.1 h.2

-- ── One entry more ──

-- two words that share no byte
abbrev Beside : ℕ → ℕ → Type 0
Beside x y = (x + word_width ≤ y) ⊎ (y + word_width ≤ x)

beside : (x y : ℕ) → (x < y → x + word_width ≤ y) → (y ≤ x → y + word_width ≤ x) → Beside x y
beside x y p q = elim (dec_lt x y) [ yes h ↦ inl (p h) | no h ↦ inr (q (omega arith)) ]

module _ (c : ℕ) (table : List ℕ) (n k b : ℕ) (room : n < c) where
  -- a key that is written leaves the heads
  pub head-kept : head_at c (with_key table n k) b ≡ head_at c table b
  head-kept = read-other-word table (n * word_width) k (head_place c b) (inr (omega arith))

  with-other : (x : ℕ) → Beside x (n * word_width) → Beside x (link_place c n) → Beside x (head_place c b)
      → word_at (with_entry c table n k b) x ≡ word_at table x
  with-other x e f g =
      read-other-word _ (head_place c b) (suc n) x g ∙ read-other-word _ (link_place c n) (head_at c table b) x f
      ∙ read-other-word table (n * word_width) k x e

  module _ (bucket : b < c) (fits : c * entry_width ≤ length table) where
    with-key : k < 2 ^ 32 → key_at (with_entry c table n k b) n ≡ k
    with-key small =
        read-other-word _ (head_place c b) (suc n) (n * word_width) (inl (omega arith))
        ∙ read-other-word _ (link_place c n) (head_at c table b) (n * word_width) (inl (omega arith))
        ∙ read_word table (n * word_width) k (omega arith) small

    with-link : head_at c table b < 2 ^ 32 → link_at c (with_entry c table n k b) n ≡ head_at c table b
    with-link small =
        read-other-word _ (head_place c b) (suc n) (link_place c n) (inl (omega arith))
        ∙ read_word _ (link_place c n) (head_at c table b) (rw length-sets (omega arith)) small

    with-head : suc n < 2 ^ 32 → head_at c (with_entry c table n k b) b ≡ suc n
    with-head small = read_word _ (head_place c b) (suc n) (simp length-sets (omega arith)) small

    pub entry-added : k < 2 ^ 32 → KeyAdded n k table (with_entry c table n k b)
    entry-added small =
        record {
          long = simp length-sets;
          key = with-key small;
          others = λ i l. with-other (i * word_width) (inl (omega arith)) (inl (omega arith)) (inl (omega arith));
        }

    pub entry-chained : {bucket_of : ℕ → ℕ} → ((x : ℕ) → bucket_of x < c) → b ≡ bucket_of k → k < 2 ^ 32 → suc n < 2 ^ 32
        → Chained c bucket_of n (entries_of c table)
        → Chained c bucket_of (suc n) (entries_of c (with_entry c table n k b))
    entry-chained {bucket_of} below e small few s = chained-adds below s adds
      where
        adds : Adds c bucket_of n k (entries_of c table) (entries_of c (with_entry c table n k b))
        adds =
            let first = s.heads b bucket in
            record {
              key = with-key small;
              link = rw (← e) (with-link (omega arith));
              head = rw (← e) (with-head few);
              other_keys = λ i l. with-other (i * word_width) (inl (omega arith)) (inl (omega arith)) (inl (omega arith));
              other-links =
                  λ i l. with-other (link_place c i) (inr (omega arith)) (inl (omega arith)) (inl (omega arith));
              other-heads =
                  λ i l d.
                  let apart : i ≡ b → ⊥ = λ f. d (f ∙ e) in
                  with-other (head_place c i) (inr (omega arith)) (inr (omega arith))
                  (beside _ _ (λ a. omega arith) (λ a. omega arith));
            }

pub completes_chained : {space n k b : ℕ} {table : List ℕ} → Stored space n table → bits_fit space (capacity table) ≡ false → k < space
    → (Holds n table k → ⊥)
    → n < capacity table
    → b ≡ bucket_of (capacity table) k
    → k < 2 ^ 32
    → suc n < 2 ^ 32
    → Completes space (λ x. x ≡ k) n table (suc n) (with_entry (capacity table) table n k b)
unfolding capacity
completes_chained {n = n} {k} {b} {table} s none small missing room bucket word_small few =
    let c = capacity table in
    let some : 0 < c = omega arith in
    let below : b < c = rw bucket (bucket_below c k some) in
    completes_adds s room missing small (entry-added c table n k b room below (omega arith) word_small)
    (λ f. absurd (true≢false (sym f ∙ none)))
    (λ f. entry-chained c table n k b room below (omega arith) (λ x. bucket_below c x some) bucket word_small few (s.chained none))
