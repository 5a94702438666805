-- The order of strings is a strict total order, and so is that of positions by their bytes. Assumes nothing.
use Prim.Native.Nat.{ℕ, ◌<◌}
use mathlib.Core.Path.{◌≡◌, refl, sym, ◌∙◌, ap₂}
use mathlib.Core.Logic.{◌⊎◌, inl, inr, ⊎_elim, ◌↔◌}
use mathlib.Core.Bool.{Bool, true, false, ◌&&◌, false≢true, true≢false, ◌||◌}
use mathlib.Core.List.Memᴰ
use mathlib.Core.List.{List, [], ◌∷◌, ◌++◌}
use native.Mathlib.Omega.{arith}
use lib.Dec.{ltb, eqb}
use borrow.Author.Tests.{ltb-true, ltb-false, eqb-true, lt-ltb, le-ltb, eq-eqb}
use Rattle.fra.specs.Lists.{◌∈◌, below, equal, keep}
use Rattle.fra.specs.Position.{bytes, before, Rising}
use Rattle.fra.specs.declared.Position.{Position}
use Rattle.fra_laws.proofs.Tests.{and_left, and_right, and_intro, or_cases, or_left, or_right, or_false_left, or_false_right, not_both, fails_unless, clash}
use Rattle.fra_laws.proofs.Lists.{keep_passes, keep_fails, keep_elim}

-- ── equal ──

pub equal_refl : (l : List ℕ) → equal l l ≡ true
unfolding equal
equal_refl [] = refl
equal_refl (x ∷ l) = and_intro (eqb x x) (equal l l) (eq-eqb x x refl) (equal_refl l)

pub equal-sound : (l m : List ℕ) → equal l m ≡ true → l ≡ m
unfolding equal
equal-sound [] [] h = refl
equal-sound [] (y ∷ m) h = absurd (false≢true h)
equal-sound (x ∷ l) [] h = absurd (false≢true h)
equal-sound (x ∷ l) (y ∷ m) h =
    ap₂ (λ (a : ℕ) (b : List ℕ). a ∷ b) (eqb-true x y (search and_left)) (equal-sound l m (search and_right))

-- ── below ──

pub below_irreflexive : (l : List ℕ) → below l l ≡ false
unfolding below
below_irreflexive [] = refl
below_irreflexive (x ∷ l) = rw (le-ltb x x (omega arith), eq-eqb x x refl) (below_irreflexive l)

pub below_transitive : (l m n : List ℕ) → below l m ≡ true → below m n ≡ true → below l n ≡ true
unfolding below
below_transitive [] [] n p q = absurd (false≢true p)
below_transitive [] (y ∷ m) [] p q = absurd (false≢true q)
below_transitive [] (y ∷ m) (z ∷ n) p q = refl
below_transitive (x ∷ l) [] n p q = absurd (false≢true p)
below_transitive (x ∷ l) (y ∷ m) [] p q = absurd (false≢true q)
below_transitive (x ∷ l) (y ∷ m) (z ∷ n) p q =
    step (or_cases (ltb x y) (eqb x y && below l m) p) (or_cases (ltb y z) (eqb y z && below m n) q) (below_transitive l m n)
  where
    less : x < z → (ltb x z || (eqb x z && below l n)) ≡ true
    less h = or_left (ltb x z) (eqb x z && below l n) (lt-ltb x z h)

    step : (ltb x y ≡ true) ⊎ ((eqb x y && below l m) ≡ true) → (ltb y z ≡ true) ⊎ ((eqb y z && below m n) ≡ true)
        → (below l m ≡ true → below m n ≡ true → below l n ≡ true)
        → (ltb x z || (eqb x z && below l n)) ≡ true
    step (inl a) (inl b) rest = less (omega (arith, ltb-true x y a, ltb-true y z b))
    step (inl a) (inr b) rest = let e = eqb-true y z (search and_left) in less (omega (arith, ltb-true x y a))
    step (inr a) (inl b) rest = let d = eqb-true x y (search and_left) in less (omega (arith, ltb-true y z b))
    step (inr a) (inr b) rest =
        let d = eqb-true x y (search and_left) in
        let e = eqb-true y z (search and_left) in
        or_right (ltb x z) (eqb x z && below l n)
        (and_intro (eqb x z) (below l n) (eq-eqb x z (d ∙ e)) (rest (search and_right) (search and_right)))

-- two strings neither of which is below the other are the same
pub below_total : (l m : List ℕ) → below l m ≡ false → below m l ≡ false → l ≡ m
unfolding below
below_total [] [] p q = refl
below_total [] (y ∷ m) p q = absurd (true≢false p)
below_total (x ∷ l) [] p q = absurd (true≢false q)
below_total (x ∷ l) (y ∷ m) p q =
    ap₂ (λ (a : ℕ) (b : List ℕ). a ∷ b) same (below_total l m (rest l m x y same p) (rest m l y x (sym same) q))
  where
    same : x ≡ y
    same =
        let a = ltb-false x y (or_false_left (ltb x y) (eqb x y && below l m) p) in
        let b = ltb-false y x (or_false_left (ltb y x) (eqb y x && below m l) q) in
        omega arith

    rest : (l m : List ℕ) (x y : ℕ) → x ≡ y → (ltb x y || (eqb x y && below l m)) ≡ false → below l m ≡ false
    rest l m x y e h =
        fails_unless (below l m)
        (λ b.
        not_both (eqb x y && below l m) (and_intro (eqb x y) (below l m) (eq-eqb x y e) b)
        (or_false_right (ltb x y) (eqb x y && below l m) h))

-- ── positions ──

-- strings that end in one more number each
ends_injective : (l m : List ℕ) (x y : ℕ) → l ++ (x ∷ []) ≡ m ++ (y ∷ []) → (l ≡ m) × (x ≡ y)
ends_injective [] [] x y e = (refl, cc)
ends_injective [] (b ∷ []) x y e = absurd (clash (cc))
ends_injective [] (b ∷ c ∷ m) x y e = absurd (clash (cc))
ends_injective (a ∷ []) [] x y e = absurd (clash (cc))
ends_injective (a ∷ c ∷ l) [] x y e = absurd (clash (cc))
ends_injective (a ∷ l) (b ∷ m) x y e =
    let first : a ≡ b = cc in
    let (same, last) = ends_injective l m x y cc in
    (ap₂ (λ (c : ℕ) (k : List ℕ). c ∷ k) first same, last)

pub bytes_injective : (p q : Position) → bytes p ≡ bytes q → p ≡ q
unfolding bytes
bytes_injective p q e = λ i. record { left = a i; right = b i; partners = c.0 i; history = c.1 i }
  where
    a : p.left ≡ q.left
    a = cc

    b : p.right ≡ q.right
    b = cc

    c : (p.partners ≡ q.partners) × (p.history ≡ q.history)
    c = ends_injective p.partners q.partners p.history q.history cc

pub before_irreflexive : (p : Position) → before p p ≡ false
unfolding before
before_irreflexive p = below_irreflexive (bytes p)

pub before_transitive : (p q r : Position) → before p q ≡ true → before q r ≡ true → before p r ≡ true
unfolding before
before_transitive p q r = below_transitive (bytes p) (bytes q) (bytes r)

pub before_total : (p q : Position) → before p q ≡ false → before q p ≡ false → p ≡ q
unfolding before
before_total p q a b = bytes_injective p q (below_total (bytes p) (bytes q) a b)

-- what is kept of a rising list rises
pub keep-rising : (f : Position → Bool) (l : List Position) → Rising l → Rising (keep f l)
unfolding keep
keep-rising f [] h = tt
keep-rising f (p ∷ l) (above, rest) = step (f p) refl (keep-rising f l rest)
  where
    step : (b : Bool) → f p ≡ b → Rising (keep f l) → Rising (keep f (p ∷ l))
    step true e r = rw (keep_passes f p l e) (λ q m. above q (keep_elim f q l m).0, r)
    step false e r = rw (keep_fails f p l e) r

-- two rising lists with the same members are one
pub rising-same : (l m : List Position) → Rising l → Rising m → ((p : Position) → p ∈ l ↔ p ∈ m) → l ≡ m
rising-same [] [] r s h = refl
rising-same [] (q ∷ m) r s h = absurd (Memᴰ.not-nil ((h q).1 (Memᴰ.head refl)))
rising-same (p ∷ l) [] r s h = absurd (Memᴰ.not-nil ((h p).0 (Memᴰ.head refl)))
rising-same (p ∷ l) (q ∷ m) (above, r) (beyond, s) h =
    ap₂ {C = List Position} (λ x xs. x ∷ xs) same (rising-same l m r s (λ x. (to x, from x)))
  where
    first : (p ≡ q) ⊎ (p ∈ m) → (q ≡ p) ⊎ (q ∈ l) → p ≡ q
    first (inl e) b = e
    first (inr i) (inl e) = sym e
    first (inr i) (inr j) =
        absurd (not_both (before p p) (before_transitive p q p (above q j) (beyond p i)) (before_irreflexive p))

    same : p ≡ q
    same =
        first (Memᴰ.cases_cons ((h p).0 (Memᴰ.head refl))) (Memᴰ.cases_cons ((h q).1 (Memᴰ.head refl)))

    to : (x : Position) → x ∈ l → x ∈ m
    to x i =
        ⊎_elim (λ (e : x ≡ q). absurd (not_both (before p x) (above x i) (rw (e ∙ sym same) (before_irreflexive p)))) (λ j. j)
        (Memᴰ.cases_cons ((h x).0 (Memᴰ.tail i)))

    from : (x : Position) → x ∈ m → x ∈ l
    from x i =
        ⊎_elim (λ (e : x ≡ p). absurd (not_both (before q x) (beyond x i) (rw (e ∙ same) (before_irreflexive q)))) (λ j. j)
        (Memᴰ.cases_cons ((h x).1 (Memᴰ.tail i)))
