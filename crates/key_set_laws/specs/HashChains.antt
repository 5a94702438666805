-- A chained hash set in a table: entry i has a key and a link to another entry of its bucket's chain, and bucket b has a head. A
-- link or head is an index plus one, or 0 for none.
use Rattle.std.specs.Prelude.{ℕ, suc, ◌≤◌, ◌<◌, ◌≡◌}

pub record Entries : Type 0 where
  pub key : ℕ → ℕ
  pub link : ℕ → ℕ
  pub head : ℕ → ℕ

-- the walk from a head along the links visits entry i
pub data Visits (link : ℕ → ℕ) : ℕ → ℕ → Type 0 where
  here : {i : ℕ} → Visits link (suc i) i
  onward : {j i : ℕ} → Visits link (link j) i → Visits link (suc j) i

-- below n, a link leads to an entry further down
abbrev pub Falling : ℕ → (ℕ → ℕ) → Type 0
Falling n link = (i : ℕ) → i < n → link i ≤ i

-- a walk from the head that looks for key k has come to a link: an entry with that key is still to be visited
pub record Walking (e : Entries) (k head at : ℕ) : Type 0 where
  pub within : at ≤ head
  pub ahead : (i : ℕ) → Visits e.link head i → e.key i ≡ k → Visits e.link at i

-- the first n keys are chained in as many buckets as there are entries: a walk falls, and each entry is visited from its bucket
pub record Chained (entries : ℕ) (bucket : ℕ → ℕ) (n : ℕ) (e : Entries) : Type 0 where
  pub links : Falling n e.link
  pub heads : (b : ℕ) → b < entries → e.head b ≤ n
  pub visited : (i : ℕ) → i < n → Visits e.link (e.head (bucket (e.key i))) i

-- key k is added as entry n, before the chain of its bucket
pub record Adds (entries : ℕ) (bucket : ℕ → ℕ) (n k : ℕ) (old new : Entries) : Type 0 where
  pub key : new.key n ≡ k
  pub link : new.link n ≡ old.head (bucket k)
  pub head : new.head (bucket k) ≡ suc n
  pub other_keys : (i : ℕ) → i < n → new.key i ≡ old.key i
  pub other-links : (i : ℕ) → i < n → new.link i ≡ old.link i
  pub other-heads : (b : ℕ) → b < entries → (b ≡ bucket k → ⊥) → new.head b ≡ old.head b
