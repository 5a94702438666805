-- A table in the middle of a pass: the entries before i have their new rounds, the others still their old ones. It can be
-- searched, it judges positions as the levels do, and so entry i gets its new rounds. Assumes nothing.
use Prim.Native.Nat.{ℕ, suc, ◌+◌, ◌*◌, ◌-◌, ◌^◌, ◌≤◌, ◌<◌}
use mathlib.Core.Path.{◌≡◌, refl, sym, ◌∙◌, ap}
use mathlib.Core.Logic.{◌⊎◌, ⊎_elim}
use mathlib.Core.Bool.{Bool, true, false, cond, ◌&&◌, and-false}
use mathlib.Core.List.{List, ◌++◌}
use native.Mathlib.Numerals.{add-one}
use native.Mathlib.Omega.{arith}
use lib.ListN.{length, get_or, drop}
use lib.Dec.{eqb}
use Rattle.fra.specs.Lists.{◌∈◌}
use Rattle.fra.specs.Rules.{Rules}
use Rattle.fra.specs.Position.{Rising}
use Rattle.fra.specs.Game.{after, lost_at_once, lost_within}
use Rattle.fra.specs.Valid.{Valid}
use Rattle.fra.specs.declared.Position.{Position}
use Rattle.fra.specs.declared.Task.{Task}
use Rattle.fra_laws.proofs.Tests.{not_both, fails_unless}
use Rattle.fra_laws.proofs.Reached.{reached-rising, reached-after}
use Rattle.fra_laws.proofs.FixedWidth.{at_member}
use Rattle.outcome.specs.Bytes.{all_ones}
use Rattle.outcome.specs.Certificate.{chosen}
use Rattle.listing.specs.Widths.{entry_width}
use Rattle.listing.specs.Listing.{of_table, position_at, rounds_at, positions_in, Searchable}
use Rattle.game_index.specs.Reading.{task_in, rules_in}
use Rattle.game_index.specs.Writing.{Index}
use Rattle.game_state_pairs.specs.StatePairs.{has_pair}
use Rattle.game_replies.specs.Winner.{winner, is_found}
use Rattle.game_replies.proofs.SameWinner.{winner-same}
use Rattle.game_wins.specs.Judgement.{judged, judged_among}
use Rattle.game_wins.specs.declared.Judge.{Judge}
use Rattle.game_wins.specs.declared.Test.TheVariants.{Sooner}
use Rattle.comparer_rank_laws.specs.Levels.{level, ranked}
use Rattle.comparer_rank_laws.specs.EntryRows.{rows}
use Rattle.comparer_rank_laws.specs.Sources.{Covers, CoversLost}
use Rattle.comparer_rank_laws.proofs.Levels.{chosen-winner, level-small, level_judges, level-step, level_zero, ranked-step}
use Rattle.comparer_rank_laws.proofs.EntryRows.{SixPartners, reached_six, partly, partly_none, partly-all, partly-room, partly-position, partly-rounds, partly-positions, partly_here, partly-next, rows-room}
use Rattle.comparer_rank_laws.proofs.RisingPlaces.{place_found}
use Rattle.comparer_rank.specs.RankPasses.{reached_in, Begins, Ready, loses, lost_among, gains, marked_if}

-- the entries before i have rounds f, those from there on h, and the bytes after the n entries are those of an older table
pub record PartWay (b : List ℕ) (f h : Position → ℕ) (n : ℕ) (old : List ℕ) (i : ℕ) (table : List ℕ) : Type 0 where
  pub within : i ≤ n
  pub rounds : table ≡ partly f h (reached_in b) (drop (n * entry_width) old) i

-- pass 0, and pass k from pass 1 on
abbrev pub InPassZero : List ℕ → ℕ → List ℕ → ℕ → List ℕ → Type 0
InPassZero b = PartWay b (level (rules_in b) (task_in b) 0) (λ p. all_ones)

abbrev pub InPass : List ℕ → ℕ → ℕ → List ℕ → ℕ → List ℕ → Type 0
InPass b k = PartWay b (level (rules_in b) (task_in b) k) (level (rules_in b) (task_in b) (k - 1))

module _ {b : List ℕ} (index : Index b) where
  valid : Valid 6 (task_in b)
  valid = index.indexable.valid

  abbrev g : Rules
  g = rules_in b

  abbrev t : Task
  t = task_in b

  abbrev l : List Position
  l = reached_in b

  six : SixPartners l
  six = reached_six g valid

  rises : Rising l
  rises = reached-rising valid g

  -- ── From one entry to the next ──

  module _ (f h : Position → ℕ) {n : ℕ} {old : List ℕ} (begins : Begins b h n old) where
    abbrev rest : List ℕ
    rest = drop (n * entry_width) old

    pub part_start : PartWay b f h n old 0 old
    part_start = record { within = omega arith; rounds = begins.begins ∙ sym (partly_none f h l rest) }

    module _ {i : ℕ} {table : List ℕ} (part : PartWay b f h n old i table) where
      pub part_length : length table ≡ length old
      part_length =
          ap length part.rounds ∙ partly-room f h l rest six i ∙ sym (ap length begins.begins ∙ rows-room h l rest six)

      part_positions : positions_in (of_table n) table ≡ l
      part_positions = rw (begins.counted, part.rounds) (partly-positions f h l rest six i)

      pub part_searchable : Searchable (of_table n) table
      part_searchable =
          let room = partly-room f h l rest six i in
          record {
            fitting = record {
              room = omega (arith, begins.counted, ap length part.rounds);
              position = omega arith;
              rounds = omega arith;
            };
            rising = rw part_positions rises;
          }

      -- the rounds of an entry are its new ones or its old ones
      part_rounds : (j : ℕ) (z : Position) {q : Position} → j < length l → get_or l j z ≡ q → f q < 2 ^ 32 → h q < 2 ^ 32
          → (rounds_at (of_table n) table j ≡ f q) ⊎ (rounds_at (of_table n) table j ≡ h q)
      part_rounds j z c e u v =
          rw (part.rounds, ← e) (partly-rounds f h l rest six i j z c (rw e u) (rw e v))

      module _ (z : Position) (c : i < n) where
        inside : i < length l
        inside = omega (arith, begins.counted)

        -- the next entry
        part_position : position_at (of_table n) table i ≡ get_or l i z
        part_position = rw part.rounds (partly-position f h l rest six i i z inside)

        part_here : h (get_or l i z) < 2 ^ 32 → rounds_at (of_table n) table i ≡ h (get_or l i z)
        part_here d = rw part.rounds (partly_here f h l rest six i z inside d)

        -- it gets the rounds k where a test passes
        part_next : (test : Bool) (k : ℕ) → f (get_or l i z) ≡ cond test k (h (get_or l i z))
            → PartWay b f h n old (i + 1) (marked_if test table i k)
        part_next test k e =
            record { within = omega arith; rounds = rw (part.rounds, add-one) (partly-next f h l rest six i z inside test k e) }

      pub part_end : n ≤ i → table ≡ rows f l ++ rest
      part_end c =
          let full : i ≡ length l = omega (arith, part.within, begins.counted) in
          part.rounds ∙ rw full (partly-all f h l rest)

  -- the same before a pass
  pub begins-searchable : {h : Position → ℕ} {n : ℕ} {table : List ℕ} → Begins b h n table → Searchable (of_table n) table
  begins-searchable {h} begins = part_searchable h h begins (part_start h h begins)

  -- ── Pass 0 ──

  pub zero_next : {n i : ℕ} {old table : List ℕ} → Begins b (λ p. all_ones) n old
      → InPassZero b n old i table
      → i < n
      → InPassZero b n old (i + 1) (marked_if (loses b n table i) table i 0)
  zero_next {n} {i} begins part c =
      let z = t.start in
      rw (part_position (level g t 0) (λ p. all_ones) begins part z c)
      (part_next (level g t 0) (λ p. all_ones) begins part z c (lost_at_once g t (get_or l i z)) 0 (level_zero g t (get_or l i z)))

  -- ── Pass k + 1 ──

  module _ (k : ℕ) (small : suc k < all_ones) {n i : ℕ} {old table : List ℕ} (begins : Begins b (level g t k) n old)
      (part : PartWay b (level g t (suc k)) (level g t k) n old i table) where
    abbrev f : Position → ℕ
    f = level g t (suc k)

    abbrev h : Position → ℕ
    h = level g t k

    abbrev judge : Judge
    judge = record { records = of_table n; test = Sooner (suc k) }

    -- the table judges positions reached rightly
    looked_up : (q : Position) → q ∈ l → judged table judge q ≡ lost_within g t k q
    unfolding judged
    looked_up q m =
        let (j, c, e, found) = place_found l q rises m in
        rw (part_positions f h begins part, found)
        (⊎_elim (λ d. rw d (level_judges g t k (suc k) q (omega arith) (omega arith)))
        (λ d. rw d (level_judges g t k k q (omega arith) (omega arith)))
        (part_rounds f h begins part j q c e (level-small g t (suc k) q (omega arith)) (level-small g t k q (omega arith))))

    module _ (losing worth : List ℕ) (covers-lost : CoversLost g t k losing) (covers : Covers g t (suc k) worth) where
      -- also if it is not asked for those whose states none of the lost positions has
      judges : (q : Position) → q ∈ l → judged_among losing table judge q ≡ lost_within g t k q
      unfolding judged_among
      judges q m = rw (looked_up q m) (step (lost_within g t k q) refl)
        where
          step : (c : Bool) → lost_within g t k q ≡ c
              → has_pair losing q.left q.right && lost_within g t k q ≡ lost_within g t k q
          step true e = rw (covers-lost q m e)
          step false e = rw e (and-false (has_pair losing q.left q.right))

      module _ (z : Position) (c : i < n) where
        abbrev p : Position
        p = get_or l i z

        reached-here : p ∈ l
        reached-here = at_member l i z (omega (arith, begins.counted))

        won : winner g t (lost_among losing table n (suc k)) p ≡ chosen g t k p
        won =
            winner-same g t (lost_among losing table n (suc k)) (lost_within g t k) p
            (λ a m j r. judges (after t p a j) (reached-after valid g p a j reached-here m r))
            ∙ sym (chosen-winner g t k p)

        -- entry i gains rounds exactly if its position has rank k + 1
        gains-rank : gains b table n losing worth (suc k) i ≡ ranked g t (suc k) p
        unfolding gains
        gains-rank = rw (part_position f h begins part z c) (step (has_pair worth p.left p.right) refl)
          where
            step : (seen : Bool) → has_pair worth p.left p.right ≡ seen
                → (has_pair worth p.left p.right
                && eqb (rounds_at (of_table n) table i) all_ones
                && is_found (winner g t (lost_among losing table n (suc k)) p))
                ≡ ranked g t (suc k) p
            step true e =
                rw (e, part_here f h begins part z c (level-small g t k p (omega arith)), won) (sym (ranked-step g t k p small))
            step false e = rw e (sym (fails_unless _ (λ r. not_both _ (covers p reached-here r) e)))

        -- so it has its new level then
        gains-next : PartWay b f h n old (i + 1) (marked_if (gains b table n losing worth (suc k) i) table i (suc k))
        gains-next =
            rw gains-rank (part_next f h begins part z c (ranked g t (suc k) p) (suc k) (level-step g t k p))

  -- ── Pass k, from pass 1 on ──

  module _ {k n i : ℕ} {old table losing worth : List ℕ} (ready : Ready b k n old losing worth) (part : InPass b k n old i table)
      (z : Position)
      (c : i < n)
    where
      s : suc (k - 1) ≡ k
      s = omega (arith, ready.least)

      small-next : suc (k - 1) < all_ones
      small-next = rw s ready.small

      part_way : PartWay b (level g t (suc (k - 1))) (level g t (k - 1)) n old i table
      part_way = rw s part

      covers-next : Covers g t (suc (k - 1)) worth
      covers-next = rw s ready.covers

      pub pass_gains : gains b table n losing worth k i ≡ ranked g t k (get_or l i z)
      pass_gains =
          rw s at (gains-rank (k - 1) small-next ready.begins part_way losing worth ready.covers-lost covers-next z c)

      pub pass_next : InPass b k n old (i + 1) (marked_if (gains b table n losing worth k i) table i k)
      pass_next =
          rw s at (gains-next (k - 1) small-next ready.begins part_way losing worth ready.covers-lost covers-next z c)
