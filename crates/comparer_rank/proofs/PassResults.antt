-- What passes over the table leave: its positions and spare bytes are as they were, it tells where the next pass has to look,
-- and no more passes mark an entry than there are positions. Assumes nothing.
use Prim.Native.Nat.{ℕ, suc, ◌+◌, ◌*◌, ◌-◌, ◌≤◌, ◌<◌}
use mathlib.Core.Path.{◌≡◌, ◌∙◌, ap}
use mathlib.Core.Bool.{true, false}
use mathlib.Core.List.{List}
use native.Mathlib.Numerals.{add-one}
use native.Mathlib.Omega.{arith}
use lib.ListN.{length, drop}
use lib.Seq.{drop_at}
use Rattle.fra.specs.Rules.{Rules}
use Rattle.fra.specs.Valid.{Valid}
use Rattle.fra.specs.declared.Position.{Position}
use Rattle.fra.specs.declared.Task.{Task}
use Rattle.fra_laws.proofs.Reached.{reached-after}
use Rattle.fra_laws.proofs.Ranks.{Closed}
use Rattle.fra_laws.proofs.StringsInARow.{flat_map-same}
use Rattle.outcome.specs.Bytes.{all_ones}
use Rattle.outcome.specs.Certificate.{entry, entries}
use Rattle.table_laws.specs.Table.{row}
use Rattle.listing.specs.Widths.{entry_width}
use Rattle.game_index.proofs.Reading.{left-attacks}
use Rattle.game_index.specs.Reading.{task_in, rules_in}
use Rattle.game_index.specs.Writing.{Index}
use Rattle.comparer_rank_laws.specs.Levels.{level}
use Rattle.comparer_rank_laws.specs.EntryRows.{rows}
use Rattle.comparer_rank_laws.specs.Sources.{lost_pairs, sources, Covers, CoversLost}
use Rattle.comparer_rank_laws.proofs.Levels.{level_final, ranked_bound}
use Rattle.comparer_rank_laws.proofs.EntryRows.{reached_six, rows-length}
use Rattle.comparer_rank_laws.proofs.Sources.{covers-lost, covers-next}
use Rattle.comparer_rank.specs.RankPasses.{reached_in, ranks_in, Begins, Leveled}

module _ {b : List ℕ} (index : Index b) where
  valid : Valid 6 (task_in b)
  valid = index.indexable.valid

  abbrev g : Rules
  g = rules_in b

  abbrev t : Task
  t = task_in b

  abbrev l : List Position
  l = reached_in b

  module _ (k : ℕ) {h : Position → ℕ} {n : ℕ} {old : List ℕ} (begins : Begins b h n old) {table : List ℕ}
      (left : Leveled b k n old table) where
    pub pass_rest : drop (n * entry_width) table ≡ drop (n * entry_width) old
    pass_rest =
        let rest = drop (n * entry_width) old in
        let long = rows-length (level g t k) l rest (reached_six g valid) in
        rw left (drop_at (rows (level g t k) l) rest (n * entry_width) (long ∙ rw begins.counted))

    pub pass_begins : Begins b (level g t k) n table
    pass_begins = record { counted = begins.counted; begins = rw pass_rest left }

  module _ (k : ℕ) {n : ℕ} {table : List ℕ} (small : k + 1 < all_ones) (begins : Begins b (level g t k) n table) where
    -- what pass k has left tells which states have lost positions
    pub pass_covers-lost : CoversLost g t k (lost_pairs table 0 (k + 1) n)
    pass_covers-lost = rw add-one (covers-lost valid g (left-attacks b) k (rw add-one at small) begins)

    -- what pass k has marked, from pass 1 on, tells where the next one has to look
    pub pass_covers : 1 ≤ k → Covers g t (k + 1) (sources t (lost_pairs table k (k + 1) n))
    pass_covers a = rw add-one (covers-next valid g (left-attacks b) k (rw add-one at small) begins a)

  closed : Closed g t l
  closed p m a i k r = reached-after valid g p a k m i r

  -- a pass from 1 on that marks an entry is one of as many as there are positions
  pub pass_bound : (k : ℕ) → k < all_ones → ranks_in b k ≡ true → k ≤ length l
  pass_bound = ranked_bound g t l closed

  -- one that marks none leaves the rounds of each position
  pub pass_final : (k : ℕ) → 1 ≤ k → ranks_in b k ≡ false → rows (level g t k) l ≡ entries g t
  unfolding rows entries entry row level
  pass_final k b e =
      let s : suc (k - 1) ≡ k = omega arith in
      flat_map-same _ _ l (λ p m. ap (row p) ((rw s at (level_final g t l closed (k - 1) (rw s e))) p m))
