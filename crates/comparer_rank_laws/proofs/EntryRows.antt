-- A table that begins with the entries of positions: how it is read, also while some entries have new rounds already and the
-- others their old ones, and how it gets new rounds entry by entry. Assumes nothing.
use Prim.Native.Nat.{ℕ, zero, suc, ◌+◌, ◌*◌, ◌^◌, ◌<◌}
use mathlib.Core.Path.{◌≡◌, refl, sym, ◌∙◌, ap, subst}
use mathlib.Core.Logic.{◌⊎◌, inl, inr, ⊎_elim}
use mathlib.Core.Bool.{Bool, true, false, cond}
use mathlib.Core.List.Memᴰ
use mathlib.Core.List.{List, [], ◌∷◌, ◌++◌, map, flat_map, append_assoc, append-nil}
use native.Mathlib.Omega.{arith}
use lib.ListN.{length, get_or, set, drop, length-append, length-map, drop_of_length-le, get_or-append}
use lib.Seq.{sets, sets-eq, take_at, drop-cons, drop-drop, get_or-append-add, ext_get_or, set-get_or}
use Rattle.fra.specs.Lists.{◌∈◌}
use Rattle.fra.specs.Position.{bytes, unmatched}
use Rattle.fra.specs.Rules.{Rules}
use Rattle.fra.specs.Reach.{reached}
use Rattle.fra.specs.Valid.{Valid}
use Rattle.fra.specs.declared.Position.{Position}
use Rattle.fra.specs.declared.Task.{Task}
use Rattle.fra_laws.proofs.Legal.{legal_facts}
use Rattle.fra_laws.proofs.Reached.{reached-legal}
use Rattle.fra_laws.proofs.FixedWidth.{Wide, at_member, records-length, records-from, record_write}
use Rattle.outcome.specs.Bytes.{word, word_at}
use Rattle.outcome.specs.Check.{position_of}
use Rattle.listing.specs.Widths.{entry_width, entry_rounds}
use Rattle.listing.specs.Words.{put_word}
use Rattle.listing.specs.Listing.{of_table, position_at, rounds_at, positions_in}
use Rattle.listing.specs.declared.Listing.{Listing}
use Rattle.listing.proofs.WordLaws.{word-from, word-drop}
use Rattle.listing.proofs.PositionNumbers.{bytes-length, position-read, positions-length, positions-at}
use Rattle.table_laws.specs.Table.{row}
use Rattle.table_laws.proofs.LayingOut.{row-length}
use Rattle.comparer_rank_laws.specs.EntryRows.{rows}

-- each of the positions fills an entry
abbrev pub SixPartners : List Position → Type 0
SixPartners l = (p : Position) → p ∈ l → length p.partners ≡ 6

pub reached_six : (g : Rules) {t : Task} → Valid 6 t → SixPartners (reached g t)
reached_six g {t} valid p m = (legal_facts 6 t p (reached-legal valid g p m)).long

-- ── A row ──

module _ (p : Position) (n : ℕ) (six : length p.partners ≡ 6) (rest : List ℕ) where
  row-position : position_of 6 (row p n ++ rest) ≡ p
  unfolding row
  row-position = rw append_assoc (position-read p (word n ++ rest) six)

  row-rounds : n < 2 ^ 32 → word_at (row p n ++ rest) entry_rounds ≡ n
  unfolding row word
  row-rounds b =
      word-from (row p n ++ rest) entry_rounds n b
      (λ k c.
      rw (append_assoc, ← bytes-length p six)
      (get_or-append-add (bytes p) (word n ++ rest) k 0 ∙ get_or-append (word n) rest 0 k c))

row_write : (p : Position) (old new : ℕ) → length p.partners ≡ 6 → row p new ≡ sets (row p old) entry_rounds (word new)
unfolding row word
row_write p old new six =
    let long = bytes-length p six in
    let e = length-append (bytes p) (word old) in
    sym
    (sets-eq (word new) (row p old) entry_rounds (omega arith)
    ∙ rw (
      take_at (bytes p) (word old) entry_rounds long,
      drop_of_length-le (row p old) {i = entry_width} (omega arith),
      append-nil,
    ))

-- ── Entries with new rounds f up to a place, and old rounds h from there on ──

module _ (f h : Position → ℕ) where
  abbrev mixed : ℕ → List Position → List (Position × ℕ)
  mixed i [] = []
  mixed zero (p ∷ l) = (p, h p) ∷ mixed zero l
  mixed (suc i) (p ∷ l) = (p, f p) ∷ mixed i l

  mixed-positions : (i : ℕ) (l : List Position) → map (λ e. e.0) (mixed i l) ≡ l
  mixed-positions i [] = refl
  mixed-positions zero (p ∷ l) = ap (λ (m : List Position). p ∷ m) (mixed-positions zero l)
  mixed-positions (suc i) (p ∷ l) = ap (λ (m : List Position). p ∷ m) (mixed-positions i l)

  mixed-length : (i : ℕ) (l : List Position) → length (mixed i l) ≡ length l
  mixed-length i l = sym (length-map (mixed i l) (λ e. e.0)) ∙ ap length (mixed-positions i l)

  -- the next entry to be given new rounds
  mixed-here : (i : ℕ) (l : List Position) (z : Position) → i < length l
      → get_or (mixed i l) i (z, 0) ≡ (get_or l i z, h (get_or l i z))
  mixed-here i [] z b = absurd (omega arith)
  mixed-here zero (p ∷ l) z b = refl
  mixed-here (suc i) (p ∷ l) z b = mixed-here i l z (omega arith)

  -- any entry
  mixed-at : (i : ℕ) (l : List Position) (j : ℕ) (z : Position) → j < length l
      → (get_or (mixed i l) j (z, 0) ≡ (get_or l j z, f (get_or l j z))) ⊎ (get_or (mixed i l) j (z, 0) ≡ (get_or l j z, h (get_or l j z)))
  mixed-at i [] j z b = absurd (omega arith)
  mixed-at zero (p ∷ l) zero z b = inr refl
  mixed-at (suc i) (p ∷ l) zero z b = inl refl
  mixed-at zero (p ∷ l) (suc j) z b = mixed-at zero l j z (omega arith)
  mixed-at (suc i) (p ∷ l) (suc j) z b = mixed-at i l j z (omega arith)

  mixed-more : (i : ℕ) (l : List Position) (z : Position) → i < length l
      → set (mixed i l) i (get_or l i z, f (get_or l i z)) ≡ mixed (suc i) l
  mixed-more i [] z b = absurd (omega arith)
  mixed-more zero (p ∷ l) z b = refl
  mixed-more (suc i) (p ∷ l) z b = ap (λ (m : List (Position × ℕ)). (p, f p) ∷ m) (mixed-more i l z (omega arith))

  mixed_none : (l : List Position) → flat_map (λ e. row e.0 e.1) (mixed 0 l) ≡ rows h l
  unfolding rows flat_map
  mixed_none [] = refl
  mixed_none (p ∷ l) = ap (λ (m : List ℕ). row p (h p) ++ m) (mixed_none l)

  mixed-all : (l : List Position) → flat_map (λ e. row e.0 e.1) (mixed (length l) l) ≡ rows f l
  unfolding rows flat_map
  mixed-all [] = refl
  mixed-all (p ∷ l) = ap (λ (m : List ℕ). row p (f p) ++ m) (mixed-all l)

-- ── The table while it gets new rounds ──

abbrev row_of : Position × ℕ → List ℕ
row_of e = row e.0 e.1

-- rows with new rounds up to entry i, with old ones from there on, and then other bytes
abbrev pub partly : (Position → ℕ) → (Position → ℕ) → List Position → List ℕ → ℕ → List ℕ
partly f h l rest i = flat_map row_of (mixed f h i l) ++ rest

module _ (f h : Position → ℕ) (l : List Position) (rest : List ℕ) where
  pub partly_none : partly f h l rest 0 ≡ rows h l ++ rest
  partly_none = ap (λ (m : List ℕ). m ++ rest) (mixed_none f h l)

  pub partly-all : partly f h l rest (length l) ≡ rows f l ++ rest
  partly-all = ap (λ (m : List ℕ). m ++ rest) (mixed-all f h l)

  module _ (six : SixPartners l) (i : ℕ) where
    abbrev es : List (Position × ℕ)
    es = mixed f h i l

    abbrev table : List ℕ
    table = partly f h l rest i

    abbrev records : Listing
    records = of_table (length l)

    wide : Wide row_of entry_width es
    wide e m =
        row-length e.0 e.1
        (six e.0 (subst (λ (k : List Position). e.0 ∈ k) (mixed-positions f h i l) (Memᴰ.map (λ (e : Position × ℕ). e.0) m)))

    pub partly-room : length table ≡ length l * entry_width + length rest
    partly-room = length-append (flat_map row_of es) rest ∙ rw (records-length row_of entry_width es wide, mixed-length f h i l)

    module _ (j : ℕ) (z : Position) (b : j < length l) where
      abbrev e : Position × ℕ
      e = get_or es j (z, 0)

      within : j < length es
      within = omega (arith, mixed-length f h i l)

      entry_is : e.0 ≡ get_or l j z
      entry_is = ⊎_elim (λ d. ap (λ (w : Position × ℕ). w.0) d) (λ d. ap (λ (w : Position × ℕ). w.0) d) (mixed-at f h i l j z b)

      entry_six : length e.0.partners ≡ 6
      entry_six = six e.0 (rw entry_is (at_member l j z b))

      from-entry : drop (j * entry_width) table ≡ row_of e ++ (flat_map row_of (drop (suc j) es) ++ rest)
      unfolding flat_map
      from-entry =
          records-from row_of entry_width es rest j wide (omega (arith, within))
          ∙ rw (drop-cons es j (z, 0) within, append_assoc)

      pub partly-position : position_at records table j ≡ get_or l j z
      partly-position = ap (position_of 6) from-entry ∙ row-position e.0 e.1 entry_six _ ∙ entry_is

      rounds-at : e.1 < 2 ^ 32 → rounds_at records table j ≡ e.1
      rounds-at c =
          sym (word-drop table (j * entry_width + entry_rounds))
          ∙ ap (λ (m : List ℕ). word_at m 0) (sym (drop-drop entry_rounds (j * entry_width) table))
          ∙ word-drop (drop (j * entry_width) table) entry_rounds
          ∙ ap (λ (m : List ℕ). word_at m entry_rounds) from-entry
          ∙ row-rounds e.0 e.1 entry_six _ c

      pub partly-rounds : f (get_or l j z) < 2 ^ 32 → h (get_or l j z) < 2 ^ 32
          → (rounds_at records table j ≡ f (get_or l j z)) ⊎ (rounds_at records table j ≡ h (get_or l j z))
      partly-rounds c d =
          ⊎_elim (λ r. inl (read (f (get_or l j z)) r c)) (λ r. inr (read (h (get_or l j z)) r d)) (mixed-at f h i l j z b)
        where
          read : (n : ℕ) → e ≡ (get_or l j z, n) → n < 2 ^ 32 → rounds_at records table j ≡ n
          read n r c = let s = ap (λ (w : Position × ℕ). w.1) r in rounds-at (rw s c) ∙ s

    pub partly-positions : positions_in records table ≡ l
    partly-positions =
        let z = unmatched 6 0 0 in
        ext_get_or z (positions_in records table) l (positions-length records table)
        (λ j b.
        let c : j < length l = omega (arith, positions-length records table) in
        positions-at records table j z c ∙ partly-position j z c)

    module _ (z : Position) (b : i < length l) where
      -- the next entry has old rounds
      pub partly_here : h (get_or l i z) < 2 ^ 32 → rounds_at records table i ≡ h (get_or l i z)
      partly_here c =
          let s = ap (λ (w : Position × ℕ). w.1) (mixed-here f h i l z b) in
          rounds-at i z b (rw s c) ∙ s

      -- it is given new ones
      partly_write : put_word table (i * entry_width + entry_rounds) (f (get_or l i z)) ≡ partly f h l rest (suc i)
      unfolding word
      partly_write =
          let p = get_or l i z in
          record_write row_of entry_width es rest i entry_rounds (z, 0) (p, f p) (word (f p)) wide (within i z b) (omega arith)
          (rw (mixed-here f h i l z b) (row_write p (h p) (f p) (six p (at_member l i z b))))
          ∙ ap (λ (m : List (Position × ℕ)). flat_map row_of m ++ rest) (mixed-more f h i l z b)

      -- the next entry is written where a test passes, and its rounds stay where it fails
      pub partly-next : (test : Bool) (n : ℕ) → f (get_or l i z) ≡ cond test n (h (get_or l i z))
          → cond test (put_word table (i * entry_width + entry_rounds) n) table ≡ partly f h l rest (suc i)
      partly-next true n e = ap (put_word table (i * entry_width + entry_rounds)) (sym e) ∙ partly_write
      partly-next false n e =
          ap (λ (m : List (Position × ℕ)). flat_map row_of m ++ rest)
          (sym (set-get_or es i (z, 0)) ∙ rw (mixed-here f h i l z b, ← e) (mixed-more f h i l z b))

-- ── The table with one kind of rounds ──

module _ (f : Position → ℕ) (l : List Position) (rest : List ℕ) (six : SixPartners l) where
  abbrev whole : List ℕ
  whole = rows f l ++ rest

  abbrev entries : Listing
  entries = of_table (length l)

  pub rows-room : length whole ≡ length l * entry_width + length rest
  rows-room = rw (← partly_none f f l rest) (partly-room f f l rest six 0)

  pub rows-positions : positions_in entries whole ≡ l
  rows-positions = rw (← partly_none f f l rest) (partly-positions f f l rest six 0)

  pub rows-length : length (rows f l) ≡ length l * entry_width
  rows-length = omega (arith, rows-room, length-append (rows f l) rest)

  module _ (i : ℕ) (z : Position) (b : i < length l) where
    pub rows-position : position_at entries whole i ≡ get_or l i z
    rows-position = rw (← partly_none f f l rest) (partly-position f f l rest six 0 i z b)

    pub rows-rounds : f (get_or l i z) < 2 ^ 32 → rounds_at entries whole i ≡ f (get_or l i z)
    rows-rounds c = rw (← partly_none f f l rest) (⊎_elim (λ e. e) (λ e. e) (partly-rounds f f l rest six 0 i z b c c))
