-- From the positions found to the table that is ranked: their keys, in order, are the keys of the positions reached in order, and
-- laid out they are the rows of those positions. Assumes nothing.
use Prim.Native.Nat.{ℕ, ◌*◌, ◌≤◌, ◌<◌}
use mathlib.Core.Path.{◌≡◌, refl, sym, ◌∙◌, ap, ap₂}
use mathlib.Core.List.Memᴰ
use mathlib.Core.List.{List, [], ◌∷◌, ◌++◌, map, flat_map}
use native.Mathlib.Omega.{arith}
use lib.ListN.{length, get_or, length-map}
use Rattle.fra.specs.Lists.{◌∈◌}
use Rattle.fra.specs.Rules.{Rules}
use Rattle.fra.specs.Position.{Rising}
use Rattle.fra.specs.Reach.{reached, rank}
use Rattle.fra.specs.Valid.{Valid}
use Rattle.fra.specs.declared.Position.{Position}
use Rattle.fra.specs.declared.Task.{Task}
use Rattle.fra_laws.proofs.Reached.{reached-exactly, reached-rising, reached-legal, history-grows}
use Rattle.fra_laws.proofs.FixedWidth.{at_member, records-length}
use Rattle.outcome.specs.Bytes.{all_ones}
use Rattle.outcome.specs.Certificate.{rounds_or_never, entry, entries}
use Rattle.listing.specs.Widths.{entry_width}
use Rattle.table_keys.specs.Keys.{key_of, key_count, radix_of, Sized, Fits}
use Rattle.table_laws.specs.Sorted.{sorted, Ascending, Permuted}
use Rattle.table_laws.specs.Table.{keys, KeysBelow, with_keys, row, laid_out}
use Rattle.table_keys.proofs.Keys.{key_bound, key_count-small, position_of-key, key-rises, legal-fits}
use Rattle.table_laws.proofs.Sorted.{ascending_sorted}
use Rattle.table_laws.proofs.KeyColumn.{keys-at, keys-of-with}
use Rattle.table_laws.proofs.LayingOut.{row-length}
use Rattle.comparer_rank_laws.specs.EntryRows.{rows}

module _ {t : Task} (valid : Valid 6 t) (sized : Sized (radix_of t)) (g : Rules) where
  abbrev key : Position → ℕ
  key p = key_of (radix_of t) p

  abbrev Packed : List Position → Type 0
  Packed l = (p : Position) → p ∈ l → Fits (radix_of t) p

  keys_ascend : (l : List Position) → Packed l → Rising l → Ascending (map key l)
  keys_ascend [] packed rises = tt
  keys_ascend (p ∷ l) packed (above, rest) = (
    λ k m.
        let (q, i, e) = Memᴰ.of_map key l m in
        let h = key-rises sized (packed p (Memᴰ.head refl)) (packed q (Memᴰ.tail i)) (above q i) in
        omega arith,
    keys_ascend l (λ q m. packed q (Memᴰ.tail m)) rest,
  )

  keys-laid_out : (l : List Position) → Packed l → laid_out (radix_of t) (map key l) ≡ flat_map (λ p. row p all_ones) l
  unfolding laid_out flat_map
  keys-laid_out [] packed = refl
  keys-laid_out (p ∷ l) packed =
      ap₂ (λ (q : Position) (m : List ℕ). row q all_ones ++ m) (position_of-key sized (packed p (Memᴰ.head refl)))
      (keys-laid_out l (λ q m. packed q (Memᴰ.tail m)))

  packed : Packed (reached g t)
  packed p m = legal-fits t p valid (reached-legal valid g p m) (history-grows g t ((reached-exactly valid g p).0 m))

  -- ── The positions found, arranged ──

  sorted-keys : (ks : List ℕ) → Permuted ks (map key (reached g t)) → sorted ks ≡ map key (reached g t)
  sorted-keys ks p =
      sym
      (ascending_sorted (map key (reached g t)) ks (keys_ascend (reached g t) packed (reached-rising valid g))
      (λ x. sym (p x)))

  key_below : (i : ℕ) → i < length (map key (reached g t)) → get_or (map key (reached g t)) i 0 < key_count (radix_of t)
  key_below i b =
      let (p, m, e) = Memᴰ.of_map key (reached g t) (at_member (map key (reached g t)) i 0 b) in
      rw (← e) (key_bound sized (packed p m))

  module _ (table : List ℕ) (room : length (reached g t) * entry_width ≤ length table)
      (found : Permuted (keys (length (reached g t)) table) (map key (reached g t)))
    where
      ordered : List ℕ
      ordered = with_keys (sorted (keys (length (reached g t)) table)) table

      keys_ordered : keys (length (reached g t)) ordered ≡ map key (reached g t)
      unfolding ordered
      keys_ordered =
          let long = length-map (reached g t) key in
          let few = key_count-small sized in
          rw (sorted-keys (keys (length (reached g t)) table) found)
          (ap (λ (n : ℕ). keys n (with_keys (map key (reached g t)) table)) (sym long)
          ∙ keys-of-with (map key (reached g t)) table (rw long (omega arith)) (λ i b. omega (arith, key_below i b)))

      -- the keys in order are below their count
      pub ordered_below : KeysBelow (key_count (radix_of t)) (length (reached g t)) (with_keys (sorted (keys (length (reached g t)) table)) table)
      unfolding ordered
      ordered_below i l =
          rw (← keys-at (length (reached g t)) ordered i l, keys_ordered) (key_below i (rw (length-map (reached g t) key) l))

      -- in order and laid out, they are the entries of the positions reached, without rounds
      pub arranged : laid_out (radix_of t) (keys (length (reached g t)) (with_keys (sorted (keys (length (reached g t)) table)) table))
          ≡ rows (λ p. all_ones) (reached g t)
      unfolding rows ordered
      arranged = ap (laid_out (radix_of t)) keys_ordered ∙ keys-laid_out (reached g t) packed

  pub entries-length : length (entries g t) ≡ length (reached g t) * entry_width
  unfolding entries entry row
  entries-length =
      records-length (entry g t (length (reached g t))) entry_width (reached g t)
      (λ p m. row-length p (rounds_or_never (rank g t (length (reached g t)) p)) (packed p m).long)
