-- Words of four bytes: what is written is read back, and all other bytes stay as they were. Assumes nothing.
use Prim.Native.Nat.{ℕ, zero, suc, ◌+◌, ◌^◌, ◌≤◌, ◌<◌}
use mathlib.Core.Path.{◌≡◌, refl, ◌∙◌}
use mathlib.Core.Logic.{◌⊎◌, inl, inr, ⊎_elim}
use mathlib.Core.List.{List, [], ◌∷◌}
use native.Mathlib.Omega.{arith}
use native.Mathlib.Nat.{add-zero, add-suc, suc-add}
use Rattle.std.proofs.Common.{append_assoc}
use lib.ListN.{length, drop, get_or, set, length-set}
use borrow.Rule.Slice.PartMut.{put_mid}
use lib.Seq.{sets, sets-eq, drop-drop, get_or-drop, get_or-set_same, get_or-set_other}
use Rattle.outcome.specs.Bytes.{word, word_at}
use Rattle.outcome_laws.proofs.WordBytes.{word_value, word_bytes}
use Rattle.listing.specs.Words.{put_word}

-- ── A run of stores, of anything ──

module _ {A : Type 0} where
  pub sets_other : (l : List A) (i : ℕ) (vs : List A) (k : ℕ) (d : A) → (k < i) ⊎ (i + length vs ≤ k)
      → get_or (sets l i vs) k d ≡ get_or l k d
  sets_other l i [] k d h = refl
  sets_other l i (v ∷ vs) k d h =
      sets_other (set l i v) (suc i) vs k d (further h) ∙ get_or-set_other l i k v d (⊎_elim (λ a e. omega arith) (λ a e. omega arith) h)
    where
      further : (k < i) ⊎ (i + suc (length vs) ≤ k) → (k < suc i) ⊎ (suc i + length vs ≤ k)
      further (inl a) = inl (omega arith)
      further (inr a) = inr (omega arith)

  pub sets_inside : (l : List A) (i : ℕ) (vs : List A) (j : ℕ) (d : A) → j < length vs → i + length vs ≤ length l
      → get_or (sets l i vs) (i + j) d ≡ get_or vs j d
  sets_inside l i [] j d h k = absurd (omega arith)
  sets_inside l i (v ∷ vs) zero d h k =
      rw add-zero (sets_other (set l i v) (suc i) vs i d (inl (omega arith)) ∙ get_or-set_same l i v d (omega arith))
  sets_inside l i (v ∷ vs) (suc j) d h k =
      rw (add-suc, ← suc-add) (sets_inside (set l i v) (suc i) vs j d (omega arith) (rw length-set (omega arith)))

  -- a part that is written at once
  pub put_mid-sets : (a k : ℕ) (l ys vs : List A) → ys ≡ vs → length vs ≡ k → a + k ≤ length l → put_mid a k l ys ≡ sets l a vs
  put_mid-sets a k l ys vs e n h = rw (e, sets-eq vs l a (omega arith), n, drop-drop, append_assoc) refl

-- ── Words ──

-- every byte of a list is one
abbrev pub Bytes : List ℕ → Type 0
Bytes l = (i : ℕ) → get_or l i 0 < 256

pub word_byte : (l : List ℕ) (i k : ℕ) → Bytes l → k < 4 → get_or (word (word_at l i)) k 0 ≡ get_or l (i + k) 0
word_byte l i k b h = rw (word_bytes l i b) (at k h)
  where
    at : (k : ℕ) → k < 4
        → get_or (get_or l i 0 ∷ get_or l (i + 1) 0 ∷ get_or l (i + 2) 0 ∷ get_or l (i + 3) 0 ∷ []) k 0 ≡ get_or l (i + k) 0
    at zero h = rw add-zero
    at (suc zero) h = refl
    at (suc (suc zero)) h = refl
    at (suc (suc (suc zero))) h = refl
    at (suc (suc (suc (suc k)))) h = absurd (omega arith)

-- a word is known by its bytes
pub word-from : (l : List ℕ) (i n : ℕ) → n < 2 ^ 32 → ((k : ℕ) → k < 4 → get_or l (i + k) 0 ≡ get_or (word n) k 0)
    → word_at l i ≡ n
unfolding word word_at
word-from l i n h e =
    let first : get_or l i 0 ≡ get_or (word n) 0 0 = rw add-zero at (e 0 (omega arith)) in
    rw (first, e 1 (omega arith), e 2 (omega arith), e 3 (omega arith)) (word_value n h)

-- the word at the front of a part
pub word-drop : (l : List ℕ) (i : ℕ) → word_at (drop i l) 0 ≡ word_at l i
unfolding word_at
word-drop l i = simp (get_or-drop, add-zero)

-- ── A word written ──

pub put_other : (l : List ℕ) (i n k : ℕ) → (k < i) ⊎ (i + 4 ≤ k) → get_or (put_word l i n) k 0 ≡ get_or l k 0
unfolding word
put_other l i n k = sets_other l i (word n) k 0

pub put_inside : (l : List ℕ) (i n k : ℕ) → k < 4 → i + 4 ≤ length l → get_or (put_word l i n) (i + k) 0 ≡ get_or (word n) k 0
unfolding word
put_inside l i n k = sets_inside l i (word n) k 0

pub read_word : (l : List ℕ) (i n : ℕ) → i + 4 ≤ length l → n < 2 ^ 32 → word_at (put_word l i n) i ≡ n
read_word l i n h b = word-from (put_word l i n) i n b (λ k m. put_inside l i n k m h)

pub read-other-word : (l : List ℕ) (i n j : ℕ) → (j + 4 ≤ i) ⊎ (i + 4 ≤ j) → word_at (put_word l i n) j ≡ word_at l j
unfolding word_at
read-other-word l i n j h =
    let first : get_or (put_word l i n) j 0 ≡ get_or l j 0 = rw add-zero at (e 0 (omega arith)) in
    rw (first, e 1 (omega arith), e 2 (omega arith), e 3 (omega arith))
  where
    e : (k : ℕ) → k < 4 → get_or (put_word l i n) (j + k) 0 ≡ get_or l (j + k) 0
    e k m = put_other l i n (j + k) (⊎_elim (λ a. inl (omega arith)) (λ a. inr (omega arith)) h)
