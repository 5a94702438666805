-- The records of entries, counted and written one after another. Assumes nothing.
use Prim.Native.Nat.{ℕ, zero, suc, ◌+◌, ◌*◌, ◌≤◌, ◌<◌}
use mathlib.Core.Path.{◌≡◌, refl, ◌∙◌, ap, subst}
use mathlib.Core.Bool.{Bool, true, false}
use mathlib.Core.List.{List, flat_map}
use native.Mathlib.Omega.{arith}
use native.Mathlib.Numerals.{add-one}
use native.Mathlib.Nat.{zero-add}
use lib.ListN.{length, drop, length-append, length-drop}
use lib.Seq.{sets, sets-eq, length-sets, length-take-le}
use Rattle.fra.specs.Lists.{keep, count}
use Rattle.fra.specs.Rules.{Rules}
use Rattle.fra.specs.declared.Position.{Position}
use Rattle.fra.specs.declared.Task.{Task}
use Rattle.fra_laws.proofs.Lists.{keep_elim, count_elim}
use Rattle.fra_laws.proofs.Lengths.{flat_map-length}
use Rattle.outcome.specs.Bytes.{then_rest}
use Rattle.outcome.specs.Check.{position_of}
use Rattle.outcome.specs.Verdicts.{width_of}
use Rattle.outcome.specs.Certificate.{Loss, kept_record, loss_record}
use Rattle.outcome.specs.declared.Standing.{Standing}
use Rattle.outcome.specs.declared.Standing.TheVariants.{Kept, Lost}
use Rattle.outcome_laws.proofs.Encoding.{position-length, loss_length_lem}
use Rattle.outcome_laws.proofs.WrittenLists.{loss_position}
use Rattle.listing.specs.Widths.{entry_width, kept_width, lost_width}
use Rattle.listing.specs.Listing.{of_table, position_at, Fitting}
use Rattle.listing.proofs.PositionNumbers.{record_room}
use Rattle.comparer_certify_laws.specs.Marking.{rounds_of}
use Rattle.comparer_certify_laws.specs.EntryRecords.{is_listed, listed_places, record_at, records_of}
use Rattle.comparer_certify_laws.proofs.KeptStrings.{keep-count_passes, keep-count_fails, strings_below, strings_more, strings_same, strings_grow, strings_write}

-- entry i has a record
abbrev pub listed_at : Standing → List ℕ → ℕ → Bool
listed_at s table i = is_listed s (rounds_of table i)

-- all records, from a buffer's start
pub written-whole : (certificate buffer : List ℕ) → length certificate ≤ length buffer
    → sets buffer 0 certificate ≡ then_rest certificate buffer
unfolding then_rest
written-whole certificate buffer b = sets-eq certificate buffer 0 (omega arith) ∙ rw zero-add

-- ── The width of records ──

pub kept_width_lem : (kind : ℕ) (p : Position) → length p.partners ≡ 6 → length (kept_record kind p) ≡ kept_width
unfolding kept_record
kept_width_lem kind p e = ap suc (position-length 6 p e)

pub loss_width : (kind : ℕ) (x : Loss) → length x.position.partners ≡ 6 → length (loss_record kind x) ≡ lost_width
unfolding loss_record
loss_width kind x e = ap suc (loss_length_lem 6 x e)

module _ (n : ℕ) (table : List ℕ) (room : Fitting (of_table n) table) where
  -- an entry's position has six partners
  pub entry_six : (i : ℕ) → i < n → length (position_at (of_table n) table i).partners ≡ 6
  unfolding position_of
  entry_six i b =
      length-take-le 6 (drop 2 (drop (i * entry_width) table))
      (simp length-drop (omega (arith, record_room (of_table n) table room i b)))

  module _ (g : Rules) (t : Task) (kind : ℕ) where
    pub record_width : (s : Standing) (i : ℕ) → i < n → length (record_at g t s kind n table i) ≡ width_of s
    unfolding record_at
    record_width Kept i b = kept_width_lem kind (position_at (of_table n) table i) (entry_six i b)
    record_width Lost i b =
        loss_width kind _
        (ap (λ (p : Position). length p.partners) (loss_position (position_at (of_table n) table i) _ _) ∙ entry_six i b)

    pub records_width : (s : Standing) → length (records_of g t s kind n table) ≡ length (listed_places s n table) * width_of s
    unfolding records_of listed_places
    records_width s =
        flat_map-length (record_at g t s kind n table) (listed_places s n table) (width_of s)
        (λ i m.
        let (c, h) = keep_elim (listed_at s table) i (count 0 n) m in
        record_width s i (omega (arith, (count_elim 0 n i c).1)))

-- ── How many there are ──

module _ (s : Standing) (table : List ℕ) (i : ℕ) where
  pub listed_more : listed_at s table i ≡ true → length (listed_places s (i + 1) table) ≡ length (listed_places s i table) + 1
  unfolding listed_places
  listed_more e = rw (keep-count_passes (listed_at s table) i e, length-append)

  pub listed_same : listed_at s table i ≡ false → length (listed_places s (i + 1) table) ≡ length (listed_places s i table)
  unfolding listed_places
  listed_same e = ap length (keep-count_fails (listed_at s table) i e)

-- no more than the entries
pub listed_few : (s : Standing) (table : List ℕ) (i : ℕ) → length (listed_places s i table) ≤ i
unfolding listed_places keep count
listed_few s table zero = omega arith
listed_few s table (suc i) =
    subst (λ (k : ℕ). length (listed_places s k table) ≤ k) (add-one i) (step (listed_at s table i) refl (listed_few s table i))
  where
    step : (b : Bool) → listed_at s table i ≡ b → length (listed_places s i table) ≤ i
        → length (listed_places s (i + 1) table) ≤ i + 1
    step true e h = omega (arith, listed_more s table i e)
    step false e h = omega (arith, listed_same s table i e)

pub bytes_few : (s : Standing) (table : List ℕ) (i : ℕ) → length (listed_places s i table) * width_of s ≤ i * lost_width
bytes_few Kept table i = omega (arith, listed_few Kept table i)
bytes_few Lost table i = omega (arith, listed_few Lost table i)

-- ── Records written one after another ──

module _ (g : Rules) (t : Task) (s : Standing) (kind n : ℕ) (table first : List ℕ) where
  -- those of the entries before i
  abbrev records_below : ℕ → List ℕ
  records_below i = strings_below (listed_at s table) (record_at g t s kind n table) i

  -- they stand at the buffer's start, and the next goes to this place
  pub record Filled (i at : ℕ) (buffer : List ℕ) : Type 0 where
    pub within : i ≤ n
    pub place : at ≡ length (records_below i)
    pub is : buffer ≡ sets first 0 (records_below i)

  pub filled_none : Filled 0 0 first
  unfolding keep count flat_map
  filled_none = record { within = omega arith; place = refl; is = refl }

  pub filled-long : {i at : ℕ} {buffer : List ℕ} → Filled i at buffer → length buffer ≡ length first
  filled-long {i} h = ap length h.is ∙ length-sets first 0 (records_below i)

  pub filled-same : {i at : ℕ} {buffer : List ℕ} → Filled i at buffer → i < n → listed_at s table i ≡ false
      → Filled (i + 1) at buffer
  filled-same {i} h b e =
      let same = strings_same (listed_at s table) (record_at g t s kind n table) i e in
      record { within = omega arith; place = rw same h.place; is = rw same h.is }

  module _ (room : Fitting (of_table n) table) {i at : ℕ} {buffer : List ℕ} (h : Filled i at buffer) (b : i < n)
      (e : listed_at s table i ≡ true) where
    next_place : at + width_of s ≡ length (records_below (i + 1))
    next_place =
        rw (
          strings_more (listed_at s table) (record_at g t s kind n table) i e,
          length-append,
          ← h.place,
          record_width n table room g t kind s i b,
        )

    pub next_fits : length (records_of g t s kind n table) ≤ length first → at + width_of s ≤ length buffer
    unfolding records_of listed_places
    next_fits fits =
        omega (
          arith,
          fits,
          next_place,
          filled-long h,
          strings_grow (listed_at s table) (record_at g t s kind n table) (i + 1) n (omega arith),
        )

    pub filled_more : (buffer' : List ℕ) → buffer' ≡ sets buffer at (record_at g t s kind n table i)
        → Filled (i + 1) (at + width_of s) buffer'
    filled_more buffer' w =
        record {
          within = omega arith;
          place = next_place;
          is = w ∙ rw (h.is, h.place) (strings_write (listed_at s table) (record_at g t s kind n table) first i e);
        }

  pub filled-all : {i at : ℕ} {buffer : List ℕ} → Filled i at buffer → n ≤ i → buffer ≡ sets first 0 (records_of g t s kind n table)
  unfolding records_of listed_places
  filled-all {i} h b = let all-of_them : i ≡ n = omega arith in rw all-of_them at h.is
