-- A set of keys that is known by bits: a key whose bit is set adds itself. Assumes nothing.
use Prim.Native.Nat.{ℕ, suc, ◌+◌, ◌*◌, ◌/◌, ◌%◌, ◌^◌, ◌<◌}
use mathlib.Core.Path.{◌≡◌, sym, ◌∙◌, ap}
use mathlib.Core.Logic.{inl, inr}
use mathlib.Core.Bool.{true, false, true≢false}
use mathlib.Core.List.{List}
use native.Mathlib.Omega.{arith}
use native.Mathlib.Decide.{ℕ_discrete}
use lib.ListN.{length, length-set, get_or}
use lib.Seq.{length-sets}
use lib.Dec.{eqb}
use borrow.Author.Tests.{leb-true, eqb-true, eqb-false}
use Rattle.outcome.specs.Bytes.{word}
use Rattle.outcome.specs.Compare.{capacity}
use Rattle.listing.specs.Widths.{word_width}
use Rattle.listing.proofs.WordLaws.{read_word, read-other-word, put_other}
use Rattle.table_laws.specs.Table.{key_at}
use Rattle.key_set_laws.specs.Bits.{bits_each, bits_fit, bit_in, bit_byte, bit_at, with_bit}
use Rattle.key_set_laws.specs.Stored.{with_key, Holds, Flagged, Stored}
use Rattle.key_set_laws.specs.Growth.{Completes}
use Rattle.key_set_laws.proofs.Bits.{with_bit-word, with_bit-same, with_bit-other}
use Rattle.key_set_laws.proofs.Stored.{KeyAdded, completes_adds}

zero≢one : ◌≡◌ {A = ℕ} 0 1 → ⊥
zero≢one e = omega arith

-- where bits fit, a key's bit is in the table
pub bit_inside : (space k : ℕ) (table : List ℕ) → bits_fit space (capacity table) ≡ true → k < space
    → bit_byte (capacity table) k < length table
unfolding bits_fit capacity
bit_inside space k table fit small = let h = leb-true space (capacity table * bits_each) fit in omega arith

-- the table with k's bit set, and k as key n
abbrev pub flagged_with : List ℕ → ℕ → ℕ → List ℕ
flagged_with table n k = with_key (with_bit (capacity table) table k) n k

module _ (space n k : ℕ) (table : List ℕ) (room : n < capacity table) (fit : bits_fit space (capacity table) ≡ true)
    (small : k < space) (word_small : k < 2 ^ 32)
  where
    pub flag-added : KeyAdded n k table (flagged_with table n k)
    unfolding capacity
    flag-added =
        let flagged = with_bit (capacity table) table k in
        let same = length-set table (bit_byte (capacity table) k) (get_or table (bit_byte (capacity table) k) 0 + 2 ^ (k % 8)) in
        record {
          long = length-sets flagged (n * word_width) (word k) ∙ same;
          key = read_word flagged (n * word_width) k (rw same (omega arith)) word_small;
          others = λ i l.
              read-other-word flagged (n * word_width) k (i * word_width) (inl (omega arith))
              ∙ with_bit-word (capacity table) table k (i * word_width) (omega arith);
        }

    -- a key that is written leaves the bits
    bit_kept : (j : ℕ) → bit_at (capacity table) (flagged_with table n k) j ≡ bit_at (capacity table) (with_bit (capacity table) table k) j
    bit_kept j =
        rw (put_other (with_bit (capacity table) table k) (n * word_width) k (bit_byte (capacity table) j) (inr (omega arith)))

    module _ (f : Flagged (capacity table) n table) (zero : bit_at (capacity table) table k ≡ 0) where
      other : (j : ℕ) → (j ≡ k → ⊥) → bit_at (capacity table) (flagged_with table n k) j ≡ bit_at (capacity table) table j
      other j d = bit_kept j ∙ with_bit-other (capacity table) table k (bit_inside space k table fit small) zero j d

      own : bit_at (capacity table) (flagged_with table n k) k ≡ 1
      own = bit_kept k ∙ with_bit-same (capacity table) table k (bit_inside space k table fit small) zero

      pub flag-flagged : Flagged (capacity table) (suc n) (flagged_with table n k)
      flag-flagged =
          record {
            held = λ j l e. held j l e (ℕ_discrete j k);
            set = λ j h. set j h (ℕ_discrete h.0 n);
          }
        where
          held : (j : ℕ) → j < capacity table * bits_each → bit_at (capacity table) (flagged_with table n k) j ≡ 1 → Dec (j ≡ k)
              → Holds (suc n) (flagged_with table n k) j
          held j l e (yes d) = (n, omega arith, flag-added.key ∙ sym d)
          held j l e (no d) =
              let h = f.held j l (sym (other j d) ∙ e) in
              (h.0, omega (arith, h.1), flag-added.others h.0 h.1 ∙ h.2)

          -- an old key has its bit already, so it is not k
          set : (j : ℕ) (h : Holds (suc n) (flagged_with table n k) j) → Dec (h.0 ≡ n)
              → bit_at (capacity table) (flagged_with table n k) j ≡ 1
          set j h (yes e) =
              let d : j ≡ k = sym h.2 ∙ ap (key_at (flagged_with table n k)) e ∙ flag-added.key in
              rw d own
          set j h (no d) =
              let early : h.0 < n = omega (arith, h.1) in
              let one = f.set j (h.0, early, sym (flag-added.others h.0 early) ∙ h.2) in
              other j (λ e. zero≢one (sym zero ∙ ap (bit_at (capacity table) table) (sym e) ∙ one)) ∙ one

-- ── What an insertion does ──

pub bit_zero : (b s : ℕ) → eqb (bit_in b s) 1 ≡ false → bit_in b s ≡ 0
unfolding bit_in
bit_zero b s e = let other = eqb-false (b / 2 ^ s % 2) 1 e in omega arith

module _ {space n k : ℕ} {table : List ℕ} (s : Stored space n table) (fit : bits_fit space (capacity table) ≡ true)
    (small : k < space)
  where
    pub flag_meets : eqb (bit_at (capacity table) table k) 1 ≡ true → Holds n table k
    unfolding bits_fit
    flag_meets e =
        let inside = leb-true space (capacity table * bits_each) fit in
        (s.flagged fit).held k (omega arith) (eqb-true (bit_at (capacity table) table k) 1 e)

    module _ (unset : eqb (bit_at (capacity table) table k) 1 ≡ false) where
      pub flag_misses : Holds n table k → ⊥
      flag_misses h = eqb-false (bit_at (capacity table) table k) 1 unset ((s.flagged fit).set k h)

      pub completes_flagged : n < capacity table → k < 2 ^ 32 → Completes space (λ x. x ≡ k) n table (suc n) (flagged_with table n k)
      completes_flagged room word_small =
          completes_adds s room flag_misses small (flag-added space n k table room fit small word_small)
          (λ f. flag-flagged space n k table room fit small word_small (s.flagged fit)
          (bit_zero (get_or table (bit_byte (capacity table) k) 0) (k % 8) unset))
          (λ f. absurd (true≢false (sym fit ∙ f)))
