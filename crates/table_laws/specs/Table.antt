-- The lent table; 02, ticket 2: "Table entries become 13 bytes". While positions are explored it begins with a column of words of
-- four bytes, the keys of the positions found; afterwards an entry holds "position, then rounds".
use Rattle.std.specs.Prelude.{ℕ, suc, ◌*◌, ◌<◌}
use mathlib.Core.List.{List, [], ◌∷◌, ◌++◌, map, flat_map}
use Rattle.fra.specs.Lists.{count}
use Rattle.fra.specs.Position.{bytes}
use Rattle.fra.specs.declared.Position.{Position}
use Rattle.outcome.specs.Bytes.{word, word_at, all_ones}
use Rattle.listing.specs.Widths.{word_width}
use Rattle.listing.specs.Words.{put_word}
use Rattle.listing.specs.Listing as listing
use Rattle.table_keys.specs.Keys.{position_from}
use Rattle.table_keys.specs.declared.Radix.{Radix}

-- key number i
abbrev pub key_at : List ℕ → ℕ → ℕ
key_at table i = word_at table (i * word_width)

-- the first n keys
unfoldable pub keys : ℕ → List ℕ → List ℕ
keys n table = map (key_at table) (count 0 n)

-- the first n keys are below a limit
abbrev pub KeysBelow : ℕ → ℕ → List ℕ → Type 0
KeysBelow limit n table = (i : ℕ) → i < n → key_at table i < limit

-- the table with its keys replaced, from key i on
unfoldable pub with_keys_from : ℕ → List ℕ → List ℕ → List ℕ
with_keys_from i [] table = table
with_keys_from i (k ∷ ks) table = with_keys_from (suc i) ks (put_word table (i * word_width) k)

abbrev pub with_keys : List ℕ → List ℕ → List ℕ
with_keys ks table = with_keys_from 0 ks table

-- the bytes of an entry: "position, then rounds"
unfoldable pub row : Position → ℕ → List ℕ
row p rounds = bytes p ++ word rounds

-- the entries of keys, each with "FF FF FF FF" for its rounds
unfoldable pub laid_out : Radix → List ℕ → List ℕ
laid_out x ks = flat_map (λ k. row (position_from x k) all_ones) ks

-- the position of entry i, whatever number of entries it is one of
abbrev pub position_at : List ℕ → ℕ → Position
position_at table i = listing.position_at (listing.of_table (suc i)) table i

-- the positions of the first n entries
abbrev pub positions : ℕ → List ℕ → List Position
positions n table = listing.positions_in (listing.of_table n) table
