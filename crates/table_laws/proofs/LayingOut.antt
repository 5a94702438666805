-- Entries in their final layout, "position, then rounds": their width, and how keys are spread to entries. Assumes nothing.
use Prim.Native.Nat.{ℕ, suc, ◌+◌, ◌*◌, ◌≤◌, ◌<◌}
use mathlib.Core.Path.{◌≡◌, refl, sym, ◌∙◌, ap}
use mathlib.Core.List.{List, ◌++◌, flat_map, append_assoc}
use native.Mathlib.Nat.{le_trans, mul-le-mul_right, suc-mul, zero-mul}
use native.Mathlib.Omega.{arith}
use lib.ListN.{length, take, drop, get_or, take-append-drop, length-append, get_or-append}
use lib.Seq.{sets, sets-eq, length-take-le, take-append-le, take-take, get_or-take, drop_at, drop-cons, drop-length}
use Rattle.fra.specs.Position.{bytes}
use Rattle.fra.specs.declared.Position.{Position}
use Rattle.fra_laws.proofs.FixedWidth.{records-length}
use Rattle.outcome.specs.Bytes.{word, word_at, all_ones}
use Rattle.listing.specs.Widths.{word_width, entry_width}
use Rattle.listing.proofs.PositionNumbers.{bytes-length}
use Rattle.table_keys.specs.Keys.{position_from, Sized}
use Rattle.table_keys.specs.declared.Radix.{Radix}
use Rattle.table_keys.proofs.Keys.{position_from-registers}
use Rattle.table_laws.specs.Table.{row, laid_out}

pub row-length : (p : Position) (n : ℕ) → length p.partners ≡ 6 → length (row p n) ≡ entry_width
unfolding row word
row-length p n e = length-append (bytes p) (word n) ∙ ap (λ (k : ℕ). k + word_width) (bytes-length p e)

-- ── Keys laid out ──

-- a key's entry
abbrev pub entry_of : Radix → ℕ → List ℕ
entry_of x k = row (position_from x k) all_ones

pub entry_of-length : (x : Radix) → Sized x → (k : ℕ) → length (entry_of x k) ≡ entry_width
entry_of-length x s k = row-length (position_from x k) all_ones (position_from-registers s k)

pub laid_out-length : (x : Radix) (ks : List ℕ) → Sized x → length (laid_out x ks) ≡ length ks * entry_width
unfolding laid_out
laid_out-length x ks s = records-length (entry_of x) entry_width ks (λ k m. entry_of-length x s k)

-- ── Records spread to a greater width, from the last one down ──

-- those from i on are spread, and the bytes before them are as they were
abbrev pub spread_from : ℕ → (ℕ → List ℕ) → List ℕ → List ℕ → ℕ → List ℕ
spread_from width f ks t i = take (i * width) t ++ (flat_map f (drop i ks) ++ drop (length ks * width) t)

module _ (width : ℕ) (f : ℕ → List ℕ) (wide : (k : ℕ) → length (f k) ≡ width) (ks t : List ℕ)
    (room : length ks * width ≤ length t)
  where
    pub spread_none : spread_from width f ks t (length ks) ≡ t
    unfolding flat_map
    spread_none = rw (drop-length ks) (take-append-drop (length ks * width) t)

    front_long : (i : ℕ) → i ≤ length ks → length (take (i * width) t) ≡ i * width
    front_long i h = length-take-le (i * width) t (le_trans (mul-le-mul_right width h) room)

    -- what stands before record i is still there
    pub spread_word : (i at : ℕ) → i ≤ length ks → at + word_width ≤ i * width → word_at (spread_from width f ks t i) at ≡ word_at t at
    unfolding word_at
    spread_word i at h inside =
        rw (byte at (omega arith), byte (at + 1) (omega arith), byte (at + 2) (omega arith), byte (at + 3) (omega arith))
      where
        byte : (k : ℕ) → k < i * width → get_or (spread_from width f ks t i) k 0 ≡ get_or t k 0
        byte k l = get_or-append (take (i * width) t) _ 0 k (rw (front_long i h) l) ∙ get_or-take (i * width) t k 0 l

    pub spread_next : (i : ℕ) → i < length ks → sets (spread_from width f ks t (suc i)) (i * width) (f (get_or ks i 0)) ≡ spread_from width f ks t i
    unfolding flat_map
    spread_next i h =
        let r = f (get_or ks i 0) in
        let front = take (suc i * width) t in
        let rest = flat_map f (drop (suc i) ks) ++ drop (length ks * width) t in
        let end : length front ≡ i * width + length r = front_long (suc i) h ∙ suc-mul i width ∙ ap (λ (n : ℕ). i * width + n) (sym (wide _)) in
        let fits = length-append front rest in
        let first = take-append-le (i * width) front rest (omega arith) ∙ take-take (i * width) (suc i * width) t (omega arith) in
        sets-eq r (front ++ rest) (i * width) (omega arith)
        ∙ rw (first, drop_at front rest (i * width + length r) end, drop-cons ks i 0 h)
        (append_assoc (take (i * width) t) r rest
        ∙ ap (λ (l : List ℕ). take (i * width) t ++ l) (sym (append_assoc r (flat_map f (drop (suc i) ks)) (drop (length ks * width) t))))

    pub spread_all : spread_from width f ks t 0 ≡ flat_map f ks ++ drop (length ks * width) t
    spread_all = rw zero-mul refl
