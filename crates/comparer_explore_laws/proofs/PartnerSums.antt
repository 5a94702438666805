-- How the number of the partners changes in a round that drops no register: the register that is written counts its new partner
-- and no longer its old one, and the pair of the right register is taken out. For any register count. Assumes nothing.
use Prim.Native.Nat.{ℕ, zero, suc, ◌+◌, ◌*◌, ◌-◌, ◌^◌, ◌≤◌, ◌<◌}
use mathlib.Core.Path.{◌≡◌, refl, sym, ◌∙◌, ap, subst}
use mathlib.Core.Bool.{Bool, true, false, cond}
use mathlib.Core.List.{List, [], ◌∷◌}
use native.Mathlib.Nat.{le_trans, add-zero, zero-mul, add-mul, mul_assoc, mul-one, pow-zero, pow-succ'}
use native.Mathlib.Omega.{arith}
use native.Mathlib.Decide.{ℕ_discrete}
use lib.ListN.{length, get_or, set, take, drop, length-set, length-drop}
use lib.Seq.{drop-cons, get_or-set_same, get_or-set_other}
use lib.Dec.{eqb}
use borrow.Author.Tests.{eq-eqb, ne_eqb}
use Rattle.fra.specs.Game.{rejoined}
use Rattle.fra_laws.proofs.Registers.{rejoined-written, rejoined-taken, rejoined-kept}
use Rattle.listing.specs.Digits.{value}
use Rattle.table_keys.specs.Keys.{partner_base}
use Rattle.comparer_explore_laws.specs.PartnerSums.{rejoined_by, place_of, word_of, added_by, AddsOf}

-- ── Digits ──

-- what stands before digits counts as much as a digit that they follow
pub value_front : (base x : ℕ) (l : List ℕ) → value base x l ≡ x * base ^ length l + value base 0 l
unfolding value
value_front base x [] = rw (pow-zero base, mul-one x, add-zero x)
value_front base x (d ∷ ds) =
    let low : value base (0 * base + d) ds ≡ d * base ^ length ds + value base 0 ds =
    rw (zero-mul base) (value_front base (0 + d) ds ∙ ap (λ (n : ℕ). n * base ^ length ds + value base 0 ds) (omega arith)) in
    let high = value_front base (x * base + d) ds in
    let apart : (x * base + d) * base ^ length ds ≡ x * base * base ^ length ds + d * base ^ length ds =
    add-mul (x * base) d (base ^ length ds) in
    let power : x * base * base ^ length ds ≡ x * base ^ suc (length ds) =
    mul_assoc x base (base ^ length ds) ∙ ap (λ (n : ℕ). x * n) (sym (pow-succ' base (length ds))) in
    omega (arith, low, high, apart, power)

-- a first digit
pub word_cons : (x : ℕ) (l : List ℕ) → word_of (x ∷ l) ≡ x * place_of (length l) + word_of l
unfolding value
word_cons x l = ap (λ (n : ℕ). value partner_base n l) (omega arith) ∙ value_front partner_base x l

-- a register's pairs count no more than all do
pub added-most : (b : ℕ) (l : List ℕ) → added_by b l ≤ word_of l
unfolding added_by value
added-most b [] = omega arith
added-most b (x ∷ xs) = step (eqb x b) (added-most b xs)
  where
    step : (k : Bool) → added_by b xs ≤ word_of xs → cond k (x * place_of (length xs)) 0 + added_by b xs ≤ word_of (x ∷ xs)
    step true h = omega (arith, word_cons x xs)
    step false h = omega (arith, word_cons x xs)

-- ── A round ──

pub rejoined-length : (a b i : ℕ) (l : List ℕ) → length (rejoined_by a b i l) ≡ length l
unfolding rejoined_by
rejoined-length a b i [] = refl
rejoined-length a b i (x ∷ xs) = ap suc (rejoined-length a b (suc i) xs)

pub rejoined-take : (a b i n : ℕ) (l : List ℕ) → take n (rejoined_by a b i l) ≡ rejoined_by a b i (take n l)
unfolding rejoined_by
rejoined-take a b i zero l = refl
rejoined-take a b i (suc n) [] = refl
rejoined-take a b i (suc n) (x ∷ xs) = ap {B = List ℕ} (λ m. rejoined a b i x ∷ m) (rejoined-take a b (suc i) n xs)

module _ (a b : ℕ) where
  -- a register that is not written: the pair of b is taken out, all else stays
  other-digit : (i x w : ℕ) → (i ≡ a → ⊥) → rejoined a b i x * w + cond (eqb x b) (x * w) 0 ≡ x * w
  other-digit i x w d = step (ℕ_discrete x b)
    where
      step : Dec (x ≡ b) → rejoined a b i x * w + cond (eqb x b) (x * w) 0 ≡ x * w
      step (yes e) =
          let gone : rejoined a b i x ≡ 0 = rw e (rejoined-taken a b i d) in
          rw (gone, eq-eqb x b e, zero-mul w) (omega arith)
      step (no e) = rw (rejoined-kept a b i x d e, ne_eqb x b e) (omega arith)

  -- registers past the one that is written
  past : (i : ℕ) (l : List ℕ) → a < i → word_of (rejoined_by a b i l) + added_by b l ≡ word_of l
  unfolding rejoined_by added_by value
  past i [] h = refl
  past i (x ∷ xs) h =
      let digit = other-digit i x (place_of (length xs)) (λ e. omega arith) in
      let new = word_cons (rejoined a b i x) (rejoined_by a b (suc i) xs) in
      let new_at = rw (rejoined-length a b (suc i) xs) at new in
      omega (arith, digit, new_at, word_cons x xs, past (suc i) xs (omega arith))

  -- the register that is written stands at place k, and n registers follow it
  pub rejoined-sum : (i k n : ℕ) (l : List ℕ) → i + k ≡ a → n + suc k ≡ length l
      → word_of (rejoined_by a b i l) + (get_or l k 0 * place_of n + added_by b l)
      ≡ word_of l + (b * place_of n + cond (eqb (get_or l k 0) b) (get_or l k 0 * place_of n) 0)
  unfolding rejoined_by added_by value
  rejoined-sum i k n [] h e = absurd (omega arith)
  rejoined-sum i zero n (x ∷ xs) h e =
      let here : i ≡ a = omega arith in
      let last : n ≡ length xs = omega arith in
      let written : rejoined a b i x ≡ b = rw here (rejoined-written a b x) in
      let new = word_cons (rejoined a b i x) (rejoined_by a b (suc i) xs) in
      let new_at = rw (rejoined-length a b (suc i) xs, written) at new in
      rw (last, written) (omega (arith, new_at, word_cons x xs, past (suc i) xs (omega arith)))
  rejoined-sum i (suc k) n (x ∷ xs) h e =
      let digit = other-digit i x (place_of (length xs)) (λ d. omega arith) in
      let new = word_cons (rejoined a b i x) (rejoined_by a b (suc i) xs) in
      let new_at = rw (rejoined-length a b (suc i) xs) at new in
      omega (arith, digit, new_at, word_cons x xs, rejoined-sum (suc i) k n xs (omega arith) (omega arith))

-- ── The numbers that a key after a round is made of ──

-- the last partners count no more than all do
pub word-drop : (i : ℕ) (l : List ℕ) → word_of (drop i l) ≤ word_of l
word-drop zero l = omega arith
word-drop (suc i) [] = omega arith
word-drop (suc i) (x ∷ xs) = omega (arith, word_cons x xs, word-drop i xs)

-- a partner more, of which the others are the last ones
pub word_more : (l : List ℕ) (i n : ℕ) → n + suc i ≡ length l
    → word_of (drop i l) ≡ get_or l i 0 * place_of n + word_of (drop (suc i) l)
word_more l i n e =
    let last : length (drop (suc i) l) ≡ n = length-drop (suc i) l ∙ omega arith in
    rw (drop-cons l i 0 (omega arith)) (rw last at (word_cons (get_or l i 0) (drop (suc i) l)))

pub adds_none : (adds : List ℕ) → length adds ≡ partner_base → ((b : ℕ) → b < partner_base → get_or adds b 0 ≡ 0) → AddsOf [] adds
unfolding added_by
adds_none adds h e = record { long = h; each = e }

pub adds-more : (l adds : List ℕ) (i n : ℕ) → n + suc i ≡ length l → get_or l i 0 < partner_base → AddsOf (drop (suc i) l) adds
    → AddsOf (drop i l) (set adds (get_or l i 0) (get_or adds (get_or l i 0) 0 + get_or l i 0 * place_of n))
unfolding added_by
adds-more l adds i n e h a =
    rw (drop-cons l i 0 (omega arith))
    (record { long = length-set adds x _ ∙ a.long; each = λ b k. step b k (ℕ_discrete b x) })
  where
    x : ℕ
    x = get_or l i 0

    last : length (drop (suc i) l) ≡ n
    last = length-drop (suc i) l ∙ omega arith

    step : (b : ℕ) → b < partner_base → Dec (b ≡ x)
        → get_or (set adds x (get_or adds x 0 + x * place_of n)) b 0 ≡ added_by b (x ∷ drop (suc i) l)
    step b k (yes d) =
        rw (d, get_or-set_same adds x (get_or adds x 0 + x * place_of n) 0 (omega (arith, a.long)), eq-eqb x x refl, last)
        (omega (arith, subst (λ (y : ℕ). get_or adds y 0 ≡ added_by b (drop (suc i) l)) d (a.each b k)))
    step b k (no d) =
        rw (get_or-set_other adds x b (get_or adds x 0 + x * place_of n) 0 d, ne_eqb x b (λ s. d (sym s)))
        (omega (arith, a.each b k))

-- a pair counts no more than the pairs of its right register
pub added-least : (k n : ℕ) (l : List ℕ) → n + suc k ≡ length l → get_or l k 0 * place_of n ≤ added_by (get_or l k 0) l
unfolding added_by
added-least k n [] e = absurd (omega arith)
added-least zero n (x ∷ xs) e = let last : n ≡ length xs = omega arith in rw (last, eq-eqb x x refl) (omega arith)
added-least (suc k) n (x ∷ xs) e = le_trans (added-least k n xs (omega arith)) (omega arith)

-- register a is written, and n registers follow it
pub rest_sum : (l adds : List ℕ) → AddsOf l adds → (a k n : ℕ) → 1 + k ≡ a → n + suc k ≡ length l → get_or l k 0 < partner_base
    → (b : ℕ) → b < partner_base
    → word_of (rejoined_by a b 1 l) + get_or (set adds (get_or l k 0) (get_or adds (get_or l k 0) 0 - get_or l k 0 * place_of n)) b 0
    ≡ (word_of l - get_or l k 0 * place_of n) + b * place_of n
rest_sum l adds s a k n e f h b j = step (ℕ_discrete b x)
  where
    x : ℕ
    x = get_or l k 0

    left : ℕ
    left = get_or adds x 0 - x * place_of n

    step : Dec (b ≡ x) → word_of (rejoined_by a b 1 l) + get_or (set adds x left) b 0 ≡ (word_of l - x * place_of n) + b * place_of n
    step (yes d) =
        let here : get_or (set adds x left) b 0 ≡ left = rw d (get_or-set_same adds x left 0 (omega (arith, s.long))) in
        let all = rw (eq-eqb x b (sym d)) at (rejoined-sum a b 1 k n l e f) in
        let own : added_by b l ≡ get_or adds x 0 = rw d (sym (s.each x h)) in
        let same : b * place_of n ≡ x * place_of n = ap (λ (y : ℕ). y * place_of n) d in
        rw here (omega (arith, all, own, same, added-least k n l f, added-most x l, s.each x h))
    step (no d) =
        let all = rw (ne_eqb x b (λ q. d (sym q))) at (rejoined-sum a b 1 k n l e f) in
        rw (get_or-set_other adds x b left 0 d)
        (omega (arith, all, s.each b j, added-least k n l f, added-most x l))

-- what is left for each right register, where some of one's is taken out, is no more than all partners count
pub rest-most : (l adds : List ℕ) → AddsOf l adds → (x y : ℕ) → x < partner_base → y ≤ get_or adds x 0 → (b : ℕ) → b < partner_base
    → get_or (set adds x y) b 0 ≤ word_of l
rest-most l adds s x y h few b j = step (ℕ_discrete b x)
  where
    step : Dec (b ≡ x) → get_or (set adds x y) b 0 ≤ word_of l
    step (yes d) = rw (d, get_or-set_same adds x y 0 (omega (arith, s.long))) (omega (arith, s.each x h, added-most x l))
    step (no d) = rw (get_or-set_other adds x b y 0 d) (omega (arith, s.each b j, added-most b l))
