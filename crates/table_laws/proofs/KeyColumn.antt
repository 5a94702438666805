-- The key column of a table: how to read it, and how a table is known by its keys and its other bytes. Assumes nothing.
use Prim.Native.Nat.{ℕ, zero, suc, ◌+◌, ◌*◌, ◌/◌, ◌%◌, ◌^◌, ◌≤◌, ◌<◌}
use mathlib.Core.Path.{◌≡◌, refl, sym, ◌∙◌, subst}
use mathlib.Core.Logic.{◌⊎◌, inl, inr}
use mathlib.Core.List.{List, [], ◌∷◌}
use native.Mathlib.Omega.{arith}
use native.Mathlib.Nat.{zero-add, add-zero, add-suc, suc-add, div-add-mod', mod-lt}
use native.Mathlib.Decide.{ℕ_discrete, dec_lt}
use lib.ListN.{set, length-set, length, get_or}
use lib.Seq.{get_or-set_same, get_or-set_other, length-sets, ext_get_or}
use Rattle.fra_laws.proofs.ByPlace.{places-length, places-at}
use Rattle.outcome.specs.Bytes.{word}
use Rattle.listing.specs.Widths.{word_width}
use Rattle.listing.specs.Words.{put_word}
use Rattle.listing.proofs.WordLaws.{Bytes, read_word, read-other-word, word_byte, word-from, put_other, put_inside}
use Rattle.table_laws.specs.Table.{key_at, keys, with_keys_from, with_keys}
use Rattle.table_laws.specs.SortPasses.{Beside}

-- ── Keys ──

pub keys_length : (n : ℕ) (t : List ℕ) → length (keys n t) ≡ n
unfolding keys
keys_length n t = places-length (key_at t) n

pub keys-at : (n : ℕ) (t : List ℕ) (i : ℕ) → i < n → get_or (keys n t) i 0 ≡ key_at t i
unfolding keys
keys-at n t i h = places-at (key_at t) n i 0 h

-- a list of n keys is the table's if it has the key of each entry
pub keys_are : (n : ℕ) (t ks : List ℕ) → length ks ≡ n → ((i : ℕ) → i < n → key_at t i ≡ get_or ks i 0) → keys n t ≡ ks
keys_are n t ks e h =
    ext_get_or 0 (keys n t) ks (keys_length n t ∙ sym e)
    (λ i b. let c : i < n = omega (arith, keys_length n t) in keys-at n t i c ∙ h i c)

-- ── A key written ──

pub key_elsewhere : (t : List ℕ) (i v k : ℕ) → (k ≡ i → ⊥) → key_at (put_word t (i * word_width) v) k ≡ key_at t k
key_elsewhere t i v k d =
    read-other-word t (i * word_width) v (k * word_width)
    (elim (dec_lt k i) [ yes l ↦ inl (omega arith) | no l ↦ inr (omega arith) ])

pub keys_put : (n : ℕ) (t : List ℕ) (i v : ℕ) → i < n → i * word_width + word_width ≤ length t → v < 2 ^ 32
    → keys n (put_word t (i * word_width) v) ≡ set (keys n t) i v
keys_put n t i v h room b =
    keys_are n (put_word t (i * word_width) v) (set (keys n t) i v) (length-set (keys n t) i v ∙ keys_length n t)
    (λ k l. at k l (ℕ_discrete k i))
  where
    at : (k : ℕ) → k < n → Dec (k ≡ i) → key_at (put_word t (i * word_width) v) k ≡ get_or (set (keys n t) i v) k 0
    at k l (yes e) =
        rw e (read_word t (i * word_width) v room b ∙ sym (get_or-set_same (keys n t) i v 0 (omega (arith, keys_length n t))))
    at k l (no d) = key_elsewhere t i v k d ∙ sym (get_or-set_other (keys n t) i k v 0 d ∙ keys-at n t k l)

-- ── Keys replaced ──

pub with-length : (i : ℕ) (ks t : List ℕ) → length (with_keys_from i ks t) ≡ length t
unfolding with_keys_from
with-length i [] t = refl
with-length i (k ∷ ks) t = with-length (suc i) ks (put_word t (i * word_width) k) ∙ length-sets t (i * word_width) (word k)

with-other : (i : ℕ) (ks t : List ℕ) (at : ℕ)
    → ((j : ℕ) → i ≤ j → j < i + length ks → (at < j * word_width) ⊎ (j * word_width + word_width ≤ at))
    → get_or (with_keys_from i ks t) at 0 ≡ get_or t at 0
unfolding with_keys_from
with-other i [] t at h = refl
with-other i (k ∷ ks) t at h =
    with-other (suc i) ks (put_word t (i * word_width) k) at (λ j a b. h j (omega arith) (omega arith))
    ∙ put_other t (i * word_width) k at (h i (omega arith) (omega arith))

-- what stands behind the keys stays
pub with-behind : (ks t : List ℕ) (at : ℕ) → length ks * word_width ≤ at → get_or (with_keys ks t) at 0 ≡ get_or t at 0
with-behind ks t at h = with-other 0 ks t at (λ j a b. inr (omega arith))

with-key : (i : ℕ) (ks t : List ℕ) (j f : ℕ) → j < length ks → f < word_width → (i + length ks) * word_width ≤ length t
    → get_or (with_keys_from i ks t) ((i + j) * word_width + f) 0 ≡ get_or (word (get_or ks j 0)) f 0
unfolding with_keys_from
with-key i [] t j f h m b = absurd (omega arith)
with-key i (k ∷ ks) t zero f h m b =
    rw add-zero
    (with-other (suc i) ks (put_word t (i * word_width) k) (i * word_width + f) (λ j a c. inl (omega arith))
    ∙ put_inside t (i * word_width) k f m (omega arith))
with-key i (k ∷ ks) t (suc j) f h m b =
    rw (add-suc, ← suc-add)
    (with-key (suc i) ks (put_word t (i * word_width) k) j f (omega arith) m (rw length-sets (omega arith)))

-- the keys of a table whose keys were replaced
pub keys-of-with : (ks t : List ℕ) → length ks * word_width ≤ length t → ((i : ℕ) → i < length ks → get_or ks i 0 < 2 ^ 32)
    → keys (length ks) (with_keys ks t) ≡ ks
keys-of-with ks t h b =
    keys_are (length ks) (with_keys ks t) ks refl
    (λ i l.
    word-from (with_keys ks t) (i * word_width) (get_or ks i 0) (b i l)
    (λ k m. rw zero-add at (with-key 0 ks t i k l m (omega arith))))

-- a table that differs from another in its first n keys alone
pub known_by_keys : (n : ℕ) (t u : List ℕ) → n * word_width ≤ length t → length u ≡ length t → Bytes u
    → ((at : ℕ) → Beside n at → get_or u at 0 ≡ get_or t at 0)
    → u ≡ with_keys (keys n u) t
known_by_keys n t u h e b same =
    ext_get_or 0 u v (e ∙ sym (with-length 0 (keys n u) t))
    (λ at l.
    let i = at / word_width in
    let f = at % word_width in
    subst (λ (k : ℕ). get_or u k 0 ≡ get_or v k 0) (div-add-mod' at word_width)
    (split i f (mod-lt at (omega arith)) (dec_lt i n)))
  where
    v : List ℕ
    v = with_keys (keys n u) t

    other : (at : ℕ) → Beside n at → get_or u at 0 ≡ get_or v at 0
    other at beside =
        same at beside
        ∙ sym (with-other 0 (keys n u) t at (λ j a c. beside j (omega (arith, keys_length n u))))

    split : (i f : ℕ) → f < word_width → Dec (i < n) → get_or u (i * word_width + f) 0 ≡ get_or v (i * word_width + f) 0
    split i f l (yes a) =
        let written = with-key 0 (keys n u) t i f (omega (arith, keys_length n u)) l (omega (arith, keys_length n u)) in
        sym (word_byte u (i * word_width) f b l) ∙ sym (rw (zero-add, keys-at n u i a) at written)
    split i f l (no a) = other (i * word_width + f) (λ j x. inr (omega arith))
