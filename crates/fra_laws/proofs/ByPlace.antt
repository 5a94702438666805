-- Lists given by a function of the place, and parts of a list. Assumes nothing.
use Prim.Native.Nat.{ℕ, zero, suc, ◌+◌, ◌-◌, ◌≤◌, ◌<◌}
use mathlib.Core.Path.{◌≡◌, sym, ◌∙◌, refl, ap, ap₂}
use mathlib.Core.Bool.{Bool, true, false}
use mathlib.Core.List.{List, [], ◌∷◌, ◌++◌, map, map-append}
use native.Mathlib.Omega.{arith}
use native.Mathlib.Nat.{zero-add, add-zero, add-suc, suc-add}
use native.Mathlib.Numerals.{add-one}
use lib.ListN.{length, get_or, take, drop, length-map, length-drop, replicate}
use lib.Seq.{length-take-le, get_or-take, get_or-drop, ext_get_or}
use Rattle.fra.specs.Lists.{all, count}
use Rattle.fra_laws.proofs.Lengths.{count-length, count-more}

module _ {A : Type 0} (f : ℕ → A) where
  pub places-length : (n : ℕ) → length (map f (count 0 n)) ≡ n
  places-length n = length-map (count 0 n) f ∙ count-length 0 n

  pub places-from : (k n i : ℕ) (z : A) → i < n → get_or (map f (count k n)) i z ≡ f (k + i)
  unfolding count
  places-from k zero i z h = absurd (omega arith)
  places-from k (suc n) zero z h = rw add-zero
  places-from k (suc n) (suc i) z h = rw (add-suc, ← suc-add) (places-from (suc k) n i z (omega arith))

  pub places-at : (n i : ℕ) (z : A) → i < n → get_or (map f (count 0 n)) i z ≡ f i
  places-at n i z h = rw zero-add at (places-from 0 n i z h)

  pub places-more : (n : ℕ) → map f (count 0 (n + 1)) ≡ map f (count 0 n) ++ (f n ∷ [])
  places-more n = rw (add-one, count-more, zero-add) (map-append f (count 0 n) (n ∷ []))

-- a list of n elements that the function gives
pub listed : {A : Type 0} (f : ℕ → A) (n : ℕ) (l : List A) (z : A) → length l ≡ n → ((i : ℕ) → i < n → f i ≡ get_or l i z)
    → map f (count 0 n) ≡ l
listed f n l z e h =
    let long = places-length f n in
    ext_get_or z (map f (count 0 n)) l (long ∙ sym e)
    (λ i b. let c : i < n = omega arith in places-at f n i z c ∙ h i c)

-- a list is its elements
pub elements : {A : Type 0} (n : ℕ) (l : List A) (z : A) → length l ≡ n → map (λ j. get_or l j z) (count 0 n) ≡ l
elements n l z e = listed (λ j. get_or l j z) n l z e (λ i h. refl)

-- n bytes from a place on
pub part : (n : ℕ) (l : List ℕ) (at : ℕ) → at + n ≤ length l → map (λ j. get_or l (at + j) 0) (count 0 n) ≡ take n (drop at l)
part n l at h =
    ext_get_or 0 (map f (count 0 n)) (take n (drop at l)) (places-length f n ∙ sym long)
    (λ i b.
    let c : i < n = omega (arith, places-length f n) in
    places-at f n i 0 c ∙ sym (get_or-take n (drop at l) i 0 c ∙ get_or-drop at l i 0))
  where
    f : ℕ → ℕ
    f j = get_or l (at + j) 0

    long : length (take n (drop at l)) ≡ n
    long = length-take-le n (drop at l) (rw length-drop (omega arith))

-- n numbers and k more
pub count_add : (i n k : ℕ) → count i (n + k) ≡ count i n ++ count (i + n) k
unfolding count
count_add i zero k = rw (zero-add, add-zero)
count_add i (suc n) k = rw (suc-add, add-suc, ← suc-add) (ap (λ (l : List ℕ). i ∷ l) (count_add (suc i) n k))

pub map_constant : (f : ℕ → ℕ) (v i n : ℕ) → ((c : ℕ) → i ≤ c → c < i + n → f c ≡ v) → map f (count i n) ≡ replicate n v
unfolding count
map_constant f v i zero h = refl
map_constant f v i (suc n) h =
    ap₂ (λ (x : ℕ) (l : List ℕ). x ∷ l) (h i (omega arith) (omega arith))
    (map_constant f v (suc i) n (λ c p q. h c (omega arith) (omega arith)))

-- ── A test at all numbers from one on ──

module _ (f : ℕ → Bool) (i n : ℕ) where
  more : i < n → n - i ≡ suc (n - (i + 1))
  more p = omega arith

  -- the test fails here
  pub all_stop : i < n → f i ≡ false → all f (count i (n - i)) ≡ false
  unfolding all count
  all_stop p e = rw (more p, e)

  -- it passes here, so it is left to what follows
  pub all_on : i < n → f i ≡ true → all f (count i (n - i)) ≡ all f (count (i + 1) (n - (i + 1)))
  unfolding all count
  all_on p e = rw (more p, e, add-one)

  pub all_end : n ≤ i → all f (count i (n - i)) ≡ true
  unfolding all count
  all_end p = let e : n - i ≡ 0 = omega arith in rw e
