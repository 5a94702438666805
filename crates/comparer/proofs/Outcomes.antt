-- What the parts of the comparer give, as the outcome definition has it, for the game and the task of an index. Assumes nothing.
use Prim.Native.Nat.{ℕ, ◌+◌, ◌*◌, ◌/◌, ◌^◌, ◌≤◌, ◌<◌}
use mathlib.Core.Path.{◌≡◌, refl, sym, ◌∙◌, ap, subst}
use mathlib.Core.Bool.{Bool, true, false}
use mathlib.Core.List.{List, ◌++◌}
use Rattle.std.specs.Prelude.{Option, None, Some, Result, Ok, Err}
use native.Mathlib.Omega.{arith}
use lib.ListN.{length, take, drop, length-drop, length-append}
use lib.Seq.{take-append_seam, drop-append_seam}
use lib.Dec.{ltb}
use borrow.Author.Tests.{ltb-false, ne_eqb}
use Rattle.fra.specs.Rules.{Rules}
use Rattle.fra.specs.Reach.{reached, rounds}
use Rattle.fra.specs.Valid.{Valid}
use Rattle.fra.specs.declared.Task.{Task}
use Rattle.fra_laws.proofs.Tests.{clash}
use Rattle.task.specs.TaskFile.{read_task}
use Rattle.task.specs.declared.Refusal.{Refusal}
use Rattle.task.specs.declared.Refusal.TheVariants.{TableTooSmall, BufferTooSmall}
use Rattle.outcome.specs.Bytes.{all_ones, cleared, then_zeros}
use Rattle.outcome.specs.Verdicts.{Contest}
use Rattle.outcome.specs.Certificate.{rounds_or_never, entries, certificate_by}
use Rattle.outcome.specs.Compare.{Outcome, capacity, decided, refused_late, judge, compare_task, compare_read, compare}
use Rattle.outcome.specs.declared.Comparison.{Comparison}
use Rattle.outcome_laws.proofs.WrittenLists.{rounds-least}
use Rattle.listing.specs.Widths.{entry_width}
use Rattle.listing.specs.Listing.{of_table, Searchable}
use Rattle.game_index.specs.Reading.{task_in, rules_in}
use Rattle.game_index.specs.Writing.{Index}
use Rattle.table_keys.specs.Keys.{key_count, radix_of}
use Rattle.table_keys.proofs.Keys.{radix_sized}
use Rattle.table_laws.specs.Sorted.{sorted}
use Rattle.table_laws.specs.Table.{keys, KeysBelow, with_keys, laid_out}
use Rattle.table_laws.proofs.KeyColumn.{keys_length}
use Rattle.table_laws.proofs.LayingOut.{laid_out-length}
use Rattle.comparer_explore.specs.ExploreAnswers.{explored_in, Explores}
use Rattle.key_set.specs.declared.Full.{Full}
use Rattle.comparer_rank_laws.specs.EntryRows.{rows}
use Rattle.fra_laws.proofs.LegalPositions.{most_positions}
use Rattle.comparer_rank_laws.proofs.FewPositions.{few_positions}
use Rattle.comparer_rank.specs.RankPasses.{reached_in, Begins}
use Rattle.comparer_laws.proofs.Arranged.{ordered_below, arranged, entries-length}
use Rattle.comparer_certify_laws.specs.Marking.{rounds_for}
use Rattle.comparer_certify_laws.proofs.RankedTables.{ranked-searchable, start-rounds}
use Rattle.comparer_certify.specs.RecordFields.{contest_in}
use Rattle.comparer_certify.specs.CertifyAnswers.{Ranked, certificate_in, answer_of, buffer_after, Certifies}
use Rattle.comparer_certify.specs.declared.TooLong.{TooLong}
use Rattle.comparer.specs.Outcomes.{Found, rounds_from, Gives}

-- ── What depends on the table's length alone ──

cleared-long : (a b : List ℕ) → length a ≡ length b → cleared a ≡ cleared b
unfolding cleared
cleared-long a b e = rw e refl

zeros_long : (w a b : List ℕ) → length a ≡ length b → then_zeros w a ≡ then_zeros w b
unfolding then_zeros
zeros_long w a b e =
    ap (λ (r : List ℕ). w ++ r)
    (cleared-long (drop (length w) a) (drop (length w) b) (length-drop (length w) a ∙ rw e refl ∙ sym (length-drop (length w) b)))

judge-long : (c : Contest) (t : Task) (a b buffer : List ℕ) → length a ≡ length b → judge c t a buffer ≡ judge c t b buffer
unfolding judge refused_late
judge-long c t a b buffer e = by (ltb (length buffer) (length written)) refl
  where
    written : List ℕ
    written = certificate_by c t (rounds c.rules t t.start)

    by : (test : Bool) → ltb (length buffer) (length written) ≡ test → judge c t a buffer ≡ judge c t b buffer
    by true f = rw (f, judge, cleared-long a b e) refl
    by false f = rw (f, judge, zeros_long (entries c.rules t) a b e) refl

-- ── Exploring ──

many_outnumber : (room n : ℕ) {e : Full} → Err e ≡ explored_in room n → ltb room n ≡ true
unfolding explored_in
many_outnumber room n {e} h = by (ltb room n) refl
  where
    by : (b : Bool) → ltb room n ≡ b → ltb room n ≡ true
    by true e = e
    by false f =
        let g : explored_in room n ≡ Ok n = rw (f, explored_in) refl in
        clash (cc)

count_fits : (room n m : ℕ) → Ok m ≡ explored_in room n → (m ≡ n) × (ltb room n ≡ false)
unfolding explored_in
count_fits room n m h = by (ltb room n) refl
  where
    by : (b : Bool) → ltb room n ≡ b → (m ≡ n) × (ltb room n ≡ false)
    by true e =
        let f : explored_in room n ≡ Err (record {}) = rw (e, explored_in) refl in
        clash (cc)
    by false e =
        let f : explored_in room n ≡ Ok n = rw (e, explored_in) refl in
        let s : m ≡ n = cc in
        (s, e)

module _ (b : List ℕ) {old new : List ℕ} where
  -- 11: the positions reached outnumber the table's entries
  pub too_many : {e : Full} (buffer : List ℕ) → Explores (rules_in b) (task_in b) old (Err e) new
      → Gives (compare_task (contest_in b) (task_in b) old buffer) (Err TableTooSmall) (cleared new) buffer
  unfolding compare_task refused_late cleared
  too_many buffer h =
      let e = many_outnumber (capacity old) (length (reached_in b)) h.answer in
      record {
        answers = rw (e, compare_task) refl;
        tables = rw (e, compare_task, h.long) refl;
        certificates = rw (e, compare_task) refl;
      }

  module _ {n : ℕ} (h : Explores (rules_in b) (task_in b) old (Ok n) new) where
    fits : (n ≡ length (reached_in b)) × (ltb (capacity old) (length (reached_in b)) ≡ false)
    fits = count_fits (capacity old) (length (reached_in b)) n h.answer

    pub all_found : Found b n new
    unfolding capacity
    all_found =
        let (e, f) = fits in
        let room : length (reached_in b) ≤ length old / entry_width = ltb-false (length old / entry_width) (length (reached_in b)) f in
        let long = h.long in
        record { counted = e; room = omega arith; found = h.found n refl; stored = h.stored n refl }

    -- what follows depends on the table's length alone
    pub found-judged : {r : Result Comparison Refusal} {table : List ℕ} {certificate : List ℕ} (mid buffer : List ℕ) → length mid ≡ length old
        → Gives (judge (contest_in b) (task_in b) mid buffer) r table certificate
        → Gives (compare_task (contest_in b) (task_in b) old buffer) r table certificate
    unfolding compare_task
    found-judged {r} {table} {certificate} mid buffer long g =
        rw (fits.1, compare_task)
        (subst (λ (o : Outcome). Gives o r table certificate) (judge-long (contest_in b) (task_in b) mid old buffer long) g)

-- ── Reading ──

-- a file that is turned back changes no buffer
pub unread : {e : Refusal} (c : Contest) (file table buffer : List ℕ) → read_task file ≡ Err e
    → Gives (compare c file table buffer) (Err e) table buffer
unfolding compare compare_read
unread c file table buffer f = rw f record { answers = refl; tables = refl; certificates = refl }

pub read-compared : {t : Task} {r : Result Comparison Refusal} {table' buffer' : List ℕ} (c : Contest) (file table buffer : List ℕ)
    → read_task file ≡ Ok t
    → Gives (compare_task c t table buffer) r table' buffer'
    → Gives (compare c file table buffer) r table' buffer'
unfolding compare compare_read
read-compared c file table buffer e g = rw e g

-- ── Entries ──

begins-with : (a b x : List ℕ) (m : ℕ) → length a ≡ m → x ≡ a ++ b → x ≡ a ++ drop m x
begins-with a b x m l e = e ∙ ap (λ (r : List ℕ). a ++ r) (sym (rw (e, sym l) (drop-append_seam a b)))

taken : (a b x : List ℕ) (m : ℕ) → length a ≡ m → x ≡ a ++ b → take m x ≡ a
taken a b x m l e = rw (e, sym l) (take-append_seam a b)

rounds_few : {t : Task} → Valid 6 t → (g : Rules) → length (reached g t) < all_ones
    → rounds_from (rounds_or_never (rounds g t t.start)) ≡ rounds g t t.start
rounds_few {t} valid g few = by (rounds g t t.start) refl
  where
    by : (o : Option ℕ) → rounds g t t.start ≡ o → rounds_from (rounds_or_never o) ≡ o
    by None e = refl
    by (Some n) e =
        let (r, b) = rounds-least valid g n e in
        let f = ne_eqb n all_ones (λ s. omega arith) in
        rw f refl

module _ {b : List ℕ} (index : Index b) where
  abbrev g : Rules
  g = rules_in b

  abbrev t : Task
  t = task_in b

  abbrev valid : Valid 6 t
  valid = index.indexable.valid

  few : length (reached g t) ≤ most_positions
  few = few_positions index g

  wide : length (entries g t) ≡ length (reached g t) * entry_width
  wide = entries-length valid (radix_sized index) g

  -- the keys found, in order
  pub in_order-below : {n : ℕ} {table x : List ℕ} → Found b n table → x ≡ with_keys (sorted (keys n table)) table
      → KeysBelow (key_count (radix_of t)) n x
  in_order-below f d =
      rw (d, f.counted)
      (ordered_below valid (radix_sized index) g _ (rw f.counted at f.room) (rw f.counted at f.found))

  -- and laid out
  pub laid_out_lem : {n : ℕ} {table x y : List ℕ} → Found b n table → x ≡ with_keys (sorted (keys n table)) table
      → y ≡ laid_out (radix_of t) (keys n x) ++ drop (n * entry_width) x
      → Begins b (λ p. all_ones) n y
  laid_out_lem {n} {table} {x} {y} f d e =
      let all = arranged valid (radix_sized index) g table (rw f.counted at f.room) (rw f.counted at f.found) in
      let same : laid_out (radix_of t) (keys n x) ≡ rows (λ p. all_ones) (reached g t) = rw (d, f.counted) all in
      let long : length (laid_out (radix_of t) (keys n x)) ≡ n * entry_width =
      laid_out-length (radix_of t) (keys n x) (radix_sized index) ∙ ap (λ (m : ℕ). m * entry_width) (keys_length n x) in
      record {
        counted = f.counted;
        begins =
            begins-with (rows (λ p. all_ones) (reached g t)) (drop (n * entry_width) x) y (n * entry_width) (rw same at long)
            (rw same at e);
      }

  -- and ranked
  pub all-ranked : {n : ℕ} {y : List ℕ} (x : List ℕ) → n ≡ length (reached g t) → y ≡ entries g t ++ drop (n * entry_width) x
      → Ranked b n y
  all-ranked {n} x counted e = record { counted = counted; rest = drop (n * entry_width) x; begins = e }

  -- there is room for so many entries, and they are not many
  pub ranked-room : {n : ℕ} {table : List ℕ} → Ranked b n table → (n ≤ most_positions) × (n * entry_width ≤ length table)
  ranked-room {n} {table} r =
      let counted = r.counted in
      let long : length table ≡ length (entries g t) + length r.rest =
      ap length r.begins ∙ length-append (entries g t) r.rest in
      (omega (arith, few), omega (arith, wide))

  -- the start can be looked up, with its rounds
  pub ranked-start : {n : ℕ} {table : List ℕ} → Ranked b n table
      → Searchable (of_table n) table × (rounds_for n t.start table ≡ rounds_or_never (rounds g t t.start))
  ranked-start {n} {table} r =
      let rest = r.rest in
      let small : length (reached g t) < 2 ^ 30 = omega (arith, few) in
      let whole : entries g t ++ rest ≡ table = sym r.begins in
      let search = ranked-searchable valid g small rest in
      let start = start-rounds valid g small rest in
      (rw (whole, sym r.counted) at search, rw (whole, sym r.counted) at start)

  -- ── The verdict ──

  module _ {table buffer table' buffer' : List ℕ} where
    -- 12: the certificate is longer than its buffer
    pub too_long_lem : {e : TooLong} → Certifies (certificate_in b) table buffer (Err e) table' buffer'
        → Gives (judge (contest_in b) t table buffer) (Err BufferTooSmall) (cleared table') buffer'
    unfolding judge refused_late answer_of buffer_after
    too_long_lem {e} h = by (ltb (length buffer) (length (certificate_in b))) refl
      where
        by : (test : Bool) → ltb (length buffer) (length (certificate_in b)) ≡ test
            → Gives (judge (contest_in b) t table buffer) (Err BufferTooSmall) (cleared table') buffer'
        by true f =
            record {
              answers = rw (f, judge) refl;
              tables = rw (f, judge) (ap cleared h.restored);
              certificates = rw (f, judge) (rw (f, buffer_after) at h.written);
            }
        by false f =
            let g : ◌≡◌ {A = Result ℕ TooLong} (Err e) (Ok (length (certificate_in b))) = rw (f, answer_of) at h.answers in
            clash (cc)

    -- the verdict, with its table and certificate
    pub judged : {n m r : ℕ} → Ranked b n table → r ≡ rounds_or_never (rounds g t t.start)
        → Certifies (certificate_in b) table buffer (Ok m) table' buffer'
        → Gives (judge (contest_in b) t table buffer) (Ok (decided (contest_in b) n (rounds_from r) m))
        (then_zeros (take (n * entry_width) table') table')
        buffer'
    unfolding judge answer_of buffer_after
    judged {n} {m} {r} ranked is h = by (ltb (length buffer) (length (certificate_in b))) refl
      where
        by : (test : Bool) → ltb (length buffer) (length (certificate_in b)) ≡ test
            → Gives (judge (contest_in b) t table buffer) (Ok (decided (contest_in b) n (rounds_from r) m))
            (then_zeros (take (n * entry_width) table') table')
            buffer'
        by true e =
            let f : ◌≡◌ {A = Result ℕ TooLong} (Ok m) (Err (record {})) = rw (e, answer_of) at h.answers in
            clash (cc)
        by false e =
            let f : ◌≡◌ {A = Result ℕ TooLong} (Ok m) (Ok (length (certificate_in b))) = rw (e, answer_of) at h.answers in
            let long : m ≡ length (certificate_in b) = cc in
            let begun =
            taken (entries g t) ranked.rest table (n * entry_width) (rw ranked.counted wide) ranked.begins in
            record {
              answers = rw (e, judge) (rw (ranked.counted, long, is, rounds_few valid g (omega (arith, few))) refl);
              tables = rw (e, judge) (rw (h.restored, begun) refl);
              certificates = rw (e, judge) (rw (e, buffer_after) at h.written);
            }
