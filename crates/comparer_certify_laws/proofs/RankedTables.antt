-- The records that are written by the entries of a table are the certificate, and the table is restored. Assumes nothing.
use Prim.Native.Nat.{ℕ, ◌/◌, ◌^◌, ◌<◌}
use mathlib.Core.Path.{◌≡◌, refl, sym, ◌∙◌, ap, subst}
use mathlib.Core.Bool.{Bool, false}
use mathlib.Core.List.{List, ◌++◌, flat_map}
use Rattle.std.specs.Prelude.{Option, None, Some}
use native.Mathlib.Omega.{arith}
use lib.ListN.{length, get_or}
use lib.Dec.{eqb}
use Rattle.fra.specs.Lists.{◌∈◌}
use Rattle.fra.specs.Rules.{Rules}
use Rattle.fra.specs.Position.{Rising, unmatched}
use Rattle.fra.specs.Reach.{reached, rounds}
use Rattle.fra.specs.Valid.{Valid}
use Rattle.fra.specs.declared.Position.{Position}
use Rattle.fra.specs.declared.Task.{Task}
use Rattle.fra_laws.proofs.Tests.{clash, fails_unless}
use Rattle.fra_laws.proofs.Reached.{reached-start, reached-rising}
use Rattle.fra_laws.proofs.StringsInARow.{flat_map-map}
use Rattle.outcome.specs.Bytes.{all_ones}
use Rattle.outcome.specs.Certificate.{rounds_or_never, is_never, entry, entries, kept_record, kept_positions, loss_record, loss_with, loss_of, losses}
use Rattle.outcome.specs.declared.Standing.TheVariants.{Kept, Lost}
use Rattle.outcome_laws.proofs.WrittenLists.{listed, rounds-least}
use Rattle.listing.specs.Listing.{of_table, Searchable}
use Rattle.listing.specs.Lookup.{place_of}
use Rattle.table_laws.specs.Table.{row}
use Rattle.comparer_rank_laws.specs.EntryRows.{rows}
use Rattle.comparer_rank_laws.proofs.RisingPlaces.{place_found}
use Rattle.comparer_rank_laws.proofs.EntryRows.{SixPartners, reached_six, rows-room, rows-positions, rows-position, rows-rounds}
use Rattle.comparer_certify_laws.specs.MarkedRounds.{doubled, halved, is_marked, marked_rounds}
use Rattle.comparer_certify_laws.specs.Marking.{changed, rounds_in, rounds_for, attack_by, prepared}
use Rattle.comparer_certify_laws.specs.EntryRecords.{listed_places, record_at, records_of}
use Rattle.comparer_certify_laws.proofs.MarkedRounds.{rounds_fit, never_is, doubled_unmarked, halved-marked, is_marked-marked, is_marked_never, rounds_of-marked}
use Rattle.comparer_certify_laws.proofs.ChangedRounds.{changed-all}
use Rattle.comparer_certify_laws.proofs.MarkedPositions.{also, rank_of, Marks, marks-start, marks-listed, led_lost}
use Rattle.comparer_certify_laws.proofs.StillSearchable.{fitting}
use Rattle.comparer_certify_laws.proofs.Marking.{few_rounds, word_of, word_fits, marked_table, marked-position, marked-rounds, marked-also, attack-found, Marking, marked_down}
use Rattle.comparer_certify_laws.proofs.KeptStrings.{by_places}

module _ {t : Task} (valid : Valid 6 t) (g : Rules) (few : length (reached g t) < 2 ^ 30) (rest : List ℕ) where
  abbrev l : List Position
  l = reached g t

  abbrev N : ℕ
  N = length (reached g t)

  abbrev z : Position
  z = unmatched 6 0 0

  six : SixPartners (reached g t)
  six = reached_six g valid

  -- the rounds of a position, "FF FF FF FF if never lost"
  abbrev rank_word : Position → ℕ
  rank_word p = rounds_or_never (rank_of valid g p)

  rank-fits : (p : Position) → rank_word p < 2 ^ 32
  rank-fits p = rounds_fit (rank_of valid g p) (few_rounds valid g few rest p)

  pub entries-rows : entries g t ≡ rows rank_word (reached g t)
  unfolding entries entry rows row
  entries-rows = refl

  -- ── The table that was ranked ──

  pub ranked-searchable : Searchable (of_table N) (entries g t ++ rest)
  ranked-searchable =
      rw entries-rows
      (record {
        fitting = fitting (omega (arith, rows-room rank_word l rest six));
        rising = subst Rising (sym (rows-positions rank_word l rest six)) (reached-rising valid g);
      })

  pub start-rounds : rounds_for N t.start (entries g t ++ rest) ≡ rounds_or_never (rounds g t t.start)
  unfolding rounds_for rounds
  start-rounds =
      let (i, b, e, f) = place_found l z (reached-rising valid g) (reached-start valid g) in
      ap (λ (m : List ℕ). rounds_for N t.start (m ++ rest)) entries-rows
      ∙ ap (λ (m : List Position). rounds_in (rows rank_word l ++ rest) (place_of t.start m))
      (rows-positions rank_word l rest six)
      ∙ ap (rounds_in (rows rank_word l ++ rest)) f
      ∙ rows-rounds rank_word l rest six i z b (rank-fits _)
      ∙ ap rank_word e

  -- ── Rounds doubled and halved ──

  doubled-table : changed doubled N (entries g t ++ rest) ≡ marked_table valid g few rest (λ p. false)
  doubled-table =
      ap (λ (m : List ℕ). changed doubled N (m ++ rest)) entries-rows
      ∙ changed-all l rest six rank_word doubled (λ p m. rank-fits p)
      ∙ (λ i. rows (λ p. doubled_unmarked (rank_of valid g p) (few_rounds valid g few rest p) i) l ++ rest)

  halved-table : (M : Position → Bool) → changed halved N (marked_table valid g few rest M) ≡ entries g t ++ rest
  halved-table M =
      changed-all l rest six (word_of valid g few rest M) halved (λ p m. word_fits valid g few rest M p)
      ∙ (λ i. rows (λ p. halved-marked (rank_of valid g p) (M p) (few_rounds valid g few rest p) i) l ++ rest)
      ∙ ap (λ (m : List ℕ). m ++ rest) (sym entries-rows)

  -- ── Positions that are never lost ──

  pub kept-records : (kind : ℕ)
      → records_of g t Kept kind N (entries g t ++ rest) ≡ flat_map (kept_record kind) (kept_positions g t)
  unfolding records_of listed_places record_at kept_positions
  kept-records kind =
      ap (λ (m : List ℕ). records_of g t Kept kind N (m ++ rest)) entries-rows
      ∙ by_places l z (λ p. is_never (rank_of valid g p)) _ (kept_record kind) _
      (λ i b.
      ap (λ (w : ℕ). eqb w all_ones) (rows-rounds rank_word l rest six i z b (rank-fits _))
      ∙ never_is (rank_of valid g (get_or l i z)) (few_rounds valid g few rest (get_or l i z)))
      (λ i b h. ap (kept_record kind) (rows-position rank_word l rest six i z b))

  -- ── Positions of an attack ──

  module _ (n : ℕ) (lost : rounds g t t.start ≡ Some n) where
    -- the record of a marked position
    record_of : (M : Position → Bool) (p : Position) (k : ℕ) → p ∈ reached g t → rank_of valid g p ≡ Some k
        → loss_with p (Some (word_of valid g few rest M p / 2))
        (attack_by g t N (marked_table valid g few rest M) (word_of valid g few rest M p / 2) p)
        ≡ loss_of g t N p
    unfolding loss_of
    record_of M p k m e =
        let half : word_of valid g few rest M p / 2 ≡ k =
        ap (λ (o : Option ℕ). marked_rounds o (M p) / 2) e ∙ rounds_of-marked k (M p) in
        rw (half, attack-found valid g few rest M p k m e, e)

    -- a mark is read off the rounds
    mark-read : (M : Position → Bool) → Marks valid g 0 M → (p : Position) → is_marked (word_of valid g few rest M p) ≡ M p
    mark-read M marks p = by (rank_of valid g p) refl
      where
        by : (o : Option ℕ) → rank_of valid g p ≡ o → is_marked (word_of valid g few rest M p) ≡ M p
        by None e =
            ap (λ (o : Option ℕ). is_marked (marked_rounds o (M p))) e
            ∙ is_marked_never (M p)
            ∙ sym (fails_unless (M p) (λ h. let d = (led_lost valid g n lost (marks.sound p h)).2 in clash (cc)))
        by (Some k) e =
            ap (λ (o : Option ℕ). is_marked (marked_rounds o (M p))) e ∙ is_marked-marked k (M p) (few_rounds valid g few rest p k e)

    lost-records : (kind : ℕ) (M : Position → Bool) → Marks valid g 0 M
        → records_of g t Lost kind N (marked_table valid g few rest M) ≡ flat_map (loss_record kind) (losses g t)
    unfolding records_of listed_places record_at losses
    lost-records kind M marks =
        by_places l z M _ (λ p. loss_record kind (loss_of g t N p)) _
        (λ i b. ap is_marked (marked-rounds valid g few rest M i b) ∙ mark-read M marks (get_or l i z))
        (λ i b h.
        let (k, m, e) = led_lost valid g n lost (marks.sound (get_or l i z) h) in
        rw (marked-position valid g few rest M i b, marked-rounds valid g few rest M i b)
        (ap (loss_record kind) (record_of M (get_or l i z) k m e)))
        ∙ ap (flat_map (λ p. loss_record kind (loss_of g t N p))) (marks-listed valid g n lost M marks)
        ∙ sym (flat_map-map (loss_record kind) (loss_of g t N) (listed valid g))

    -- ── A start that is lost ──

    ready : Marking valid g few rest n lost 0 (prepared g t N n (entries g t ++ rest))
    unfolding prepared rounds
    ready =
        rw (doubled-table, marked-also valid g few rest (λ p. false) t.start (reached-start valid g))
        (marked_down valid g few rest n lost n (also t.start (λ p. false)) (rounds-least valid g n lost).1
        (marks-start valid g n lost))

    pub lost-certificate : (kind : ℕ)
        → records_of g t Lost kind N (prepared g t N n (entries g t ++ rest)) ≡ flat_map (loss_record kind) (losses g t)
    lost-certificate kind = rw ready.is (lost-records kind ready.M ready.marks)

    pub table-restored : changed halved N (prepared g t N n (entries g t ++ rest)) ≡ entries g t ++ rest
    table-restored = rw ready.is (halved-table ready.M)
