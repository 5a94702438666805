-- The set of keys in the lent table while positions are explored. The table begins with a column of words, the keys found. Behind it
-- stands what tells whether a key is among them: a bit for each possible key where these fit, else a chained hash set, with a column
-- of links and one of heads.
use Rattle.std.specs.Prelude.{ℕ, suc, ◌+◌, ◌*◌, ◌/◌, ◌%◌, ◌≤◌, ◌<◌, min, ◌≡◌, Bool, true, false, List}
use Rattle.outcome.specs.Bytes.{word_at}
use Rattle.outcome.specs.Compare.{capacity}
use Rattle.listing.specs.Widths.{word_width}
use Rattle.listing.specs.Words.{put_word}
use Rattle.table_laws.specs.Table.{key_at}
use Rattle.key_set_laws.specs.HashChains.{Entries, Visits, Falling, Chained}
use Rattle.key_set_laws.specs.Bits.{bits_each, bits_fit, bit_at}

-- ── Chains ──

-- each column has a word for each entry
abbrev pub link_place : ℕ → ℕ → ℕ
link_place entries i = entries * word_width + i * word_width

abbrev pub link_at : ℕ → List ℕ → ℕ → ℕ
link_at entries table i = word_at table (link_place entries i)

-- the head of bucket b
abbrev pub head_place : ℕ → ℕ → ℕ
head_place entries b = entries * word_width + entries * word_width + b * word_width

abbrev pub head_at : ℕ → List ℕ → ℕ → ℕ
head_at entries table b = word_at table (head_place entries b)

abbrev pub entries_of : ℕ → List ℕ → Entries
entries_of entries table = record { key = key_at table; link = link_at entries table; head = head_at entries table }

-- no more buckets are used than this, 2 ^ 26
abbrev pub most_buckets : ℕ
most_buckets = 67108864

-- a hash is of 32 bits: it is below 2 ^ 32
abbrev pub hash_limit : ℕ
hash_limit = 4294967296

-- 2 ^ 32 divided by the golden ratio, the factor of a multiplicative hash
abbrev pub hash_factor : ℕ
hash_factor = 2654435769

abbrev pub hash_of : ℕ → ℕ
hash_of k = k * hash_factor % hash_limit

-- the bucket of a key: its hash, scaled to the buckets
unfoldable pub bucket_of : ℕ → ℕ → ℕ
bucket_of buckets k = hash_of k * min buckets most_buckets / hash_limit

-- the table with k as key n
abbrev pub with_key : List ℕ → ℕ → ℕ → List ℕ
with_key table n k = put_word table (n * word_width) k

-- the same, before the chain of bucket b
abbrev pub with_entry : ℕ → List ℕ → ℕ → ℕ → ℕ → List ℕ
with_entry entries table n k b =
    put_word (put_word (with_key table n k) (link_place entries n) (head_at entries table b)) (head_place entries b) (suc n)

-- ── The set ──

-- one of the first n keys is k
abbrev pub Holds : ℕ → List ℕ → ℕ → Type 0
Holds n table k = (i : ℕ) × (i < n) × (key_at table i ≡ k)

-- a key's bit is 1 exactly if it is one of the first n
pub record Flagged (entries n : ℕ) (table : List ℕ) : Type 0 where
  pub held : (k : ℕ) → k < entries * bits_each → bit_at entries table k ≡ 1 → Holds n table k
  pub set : (k : ℕ) → Holds n table k → bit_at entries table k ≡ 1

-- the first n keys are distinct and below `space`, and are known by bits or by chains
pub record Stored (space n : ℕ) (table : List ℕ) : Type 0 where
  pub room : n ≤ capacity table
  pub distinct : (i j : ℕ) → i < n → j < n → key_at table i ≡ key_at table j → i ≡ j
  pub small : (i : ℕ) → i < n → key_at table i < space
  pub flagged : bits_fit space (capacity table) ≡ true → Flagged (capacity table) n table
  pub chained : bits_fit space (capacity table) ≡ false
      → Chained (capacity table) (bucket_of (capacity table)) n (entries_of (capacity table) table)

-- ── Walks ──

-- a walk from the head ends, inside the table
pub record Walkable (entries : ℕ) (table : List ℕ) (head : ℕ) : Type 0 where
  pub size : entries ≡ capacity table
  pub within : head ≤ entries
  pub falls : Falling head (link_at entries table)

-- it has met the key; or no entry that it visits has the key
abbrev pub Walked : ℕ → List ℕ → ℕ → ℕ → Bool → Type 0
Walked entries table k head true = Holds head table k
Walked entries table k head false = (i : ℕ) → Visits (link_at entries table) head i → key_at table i ≡ k → ⊥
