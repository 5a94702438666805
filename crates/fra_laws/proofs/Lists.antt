-- Laws of the functions on lists that the definitions use. Assumes nothing.
use Prim.Native.Nat.{ℕ, zero, suc, ◌+◌, ◌≤◌, ◌<◌}
use mathlib.Core.Path.{◌≡◌, refl, sym, ◌∙◌, ap, ap₂, subst}
use mathlib.Core.Logic.{◌⊎◌, inl, inr, ⊎_elim}
use mathlib.Core.Bool.{Bool, true, false, false≢true, true≢false}
use mathlib.Core.List.Memᴰ
use mathlib.Core.List.{List, [], ◌∷◌, ◌++◌, map, flat_map}
use Rattle.std.specs.Prelude.{Option, None, Some}
use Rattle.std.specs.Option.{option_or}
use native.Mathlib.Omega.{arith}
use native.Mathlib.Decide.{ℕ_discrete}
use lib.Dec.{eqb}
use borrow.Author.Tests.{eqb-true, eq-eqb}
use Rattle.fra.specs.Lists.{◌∈◌, any, all, keep, first, count, least}
use Rattle.fra_laws.proofs.Tests.{clash, and_left, and_right, and_intro, and_false, or_cases, or_left, or_right, or_false_left, or_false_right, not_both}

module _ {A : Type 0} where
  -- ── any, all ──

  -- some element has the property: the first one, or one of the others
  some_cons : (P : A → Type 0) {R : Type 0} (x : A) (xs : List A) → (R → (y : A) × (y ∈ xs) × P y) → P x ⊎ R
      → (y : A) × (y ∈ x ∷ xs) × P y
  some_cons P x xs rest (inl p) = (x, Memᴰ.head refl, p)
  some_cons P x xs rest (inr r) = let (y, m, p) = rest r in (y, Memᴰ.tail m, p)

  -- some element passes a test that passes at some element
  pub any_witness : (f : A → Bool) (l : List A) → any f l ≡ true → (x : A) × (x ∈ l) × (f x ≡ true)
  unfolding any
  any_witness f [] h = absurd (false≢true h)
  any_witness f (x ∷ xs) h = some_cons (λ y. f y ≡ true) x xs (any_witness f xs) (or_cases (f x) (any f xs) h)

  pub any_intro : (f : A → Bool) {x : A} {l : List A} → x ∈ l → f x ≡ true → any f l ≡ true
  unfolding any
  any_intro f {x} (Memᴰ.head {x = y} {xs = ys} e) h = or_left (f y) (any f ys) (ap f (sym e) ∙ h)
  any_intro f (Memᴰ.tail {x = y} {xs = ys} m) h = or_right (f y) (any f ys) (any_intro f m h)

  -- no element passes a test that passes at none
  pub any_none : (f : A → Bool) {x : A} {l : List A} → any f l ≡ false → x ∈ l → f x ≡ true → ⊥
  any_none f {l = l} h m e = not_both (any f l) (any_intro f m e) h

  pub all-at : (f : A → Bool) {x : A} {l : List A} → all f l ≡ true → x ∈ l → f x ≡ true
  unfolding all
  all-at f h (Memᴰ.head {x = y} {xs = ys} e) = ap f e ∙ and_left (f y) (all f ys) h
  all-at f h (Memᴰ.tail {x = y} {xs = ys} m) = all-at f (and_right (f y) (all f ys) h) m

  pub all_intro : (f : A → Bool) (l : List A) → ((x : A) → x ∈ l → f x ≡ true) → all f l ≡ true
  unfolding all
  all_intro f [] h = refl
  all_intro f (x ∷ xs) h =
      and_intro (f x) (all f xs) (h x (Memᴰ.head refl)) (all_intro f xs (λ y m. h y (Memᴰ.tail m)))

  -- tests that agree on a list
  pub all_same : (f h : A → Bool) (l : List A) → ((x : A) → x ∈ l → f x ≡ h x) → all f l ≡ all h l
  unfolding all
  all_same f h [] e = refl
  all_same f h (x ∷ xs) e = rw (e x (Memᴰ.head refl), all_same f h xs (λ y m. e y (Memᴰ.tail m)))

  pub all_map : {B : Type 0} (f : A → Bool) (g : B → A) (l : List B) → all f (map g l) ≡ all (λ x. f (g x)) l
  unfolding all
  all_map f g [] = refl
  all_map f g (x ∷ l) = rw (all_map f g l)

  -- some element fails a test that does not pass at all
  pub all_counterexample : (f : A → Bool) (l : List A) → all f l ≡ false → (x : A) × (x ∈ l) × (f x ≡ false)
  unfolding all
  all_counterexample f [] h = absurd (true≢false h)
  all_counterexample f (x ∷ xs) h =
      some_cons (λ y. f y ≡ false) x xs (all_counterexample f xs) (and_false (f x) (all f xs) h)

  -- ── keep ──

  pub keep_passes : (f : A → Bool) (x : A) (xs : List A) → f x ≡ true → keep f (x ∷ xs) ≡ x ∷ keep f xs
  unfolding keep
  keep_passes f x xs e = rw (e, keep)

  pub keep_fails : (f : A → Bool) (x : A) (xs : List A) → f x ≡ false → keep f (x ∷ xs) ≡ keep f xs
  unfolding keep
  keep_fails f x xs e = rw (e, keep)

  pub keep_intro : (f : A → Bool) {x : A} {l : List A} → x ∈ l → f x ≡ true → x ∈ keep f l
  keep_intro f {x} (Memᴰ.head {x = y} {xs = ys} e) h =
      subst (λ (l : List A). x ∈ l) (sym (keep_passes f y ys (ap f (sym e) ∙ h))) (Memᴰ.head e)
  keep_intro f {x} (Memᴰ.tail {x = y} {xs = ys} m) h = step (f y) refl (keep_intro f m h)
    where
      step : (b : Bool) → f y ≡ b → x ∈ keep f ys → x ∈ keep f (y ∷ ys)
      step true e r = subst (λ (l : List A). x ∈ l) (sym (keep_passes f y ys e)) (Memᴰ.tail r)
      step false e r = subst (λ (l : List A). x ∈ l) (sym (keep_fails f y ys e)) r

  -- what is kept stood in the list and passes the test
  pub keep_elim : (f : A → Bool) (x : A) (l : List A) → x ∈ keep f l → (x ∈ l) × (f x ≡ true)
  unfolding keep
  keep_elim f x [] m = absurd (Memᴰ.not-nil m)
  keep_elim f x (y ∷ ys) m = step (f y) refl (keep_elim f x ys)
    where
      step : (b : Bool) → f y ≡ b → (x ∈ keep f ys → (x ∈ ys) × (f x ≡ true)) → (x ∈ y ∷ ys) × (f x ≡ true)
      step true e rest =
          ⊎_elim (λ (d : x ≡ y). (Memᴰ.head d, ap f d ∙ e))
          (λ (n : x ∈ keep f ys). (Memᴰ.tail (rest n).0, (rest n).1))
          (Memᴰ.cases_cons (subst (λ (l : List A). x ∈ l) (keep_passes f y ys e) m))
      step false e rest =
          let n = subst (λ (l : List A). x ∈ l) (keep_fails f y ys e) m in
          (Memᴰ.tail (rest n).0, (rest n).1)

  -- ── first ──

  pub first_passes : (f : A → Bool) (x : A) (xs : List A) → f x ≡ true → first f (x ∷ xs) ≡ Some x
  unfolding first
  first_passes f x xs e = rw (e, first)

  pub first_fails : (f : A → Bool) (x : A) (xs : List A) → f x ≡ false → first f (x ∷ xs) ≡ first f xs
  unfolding first
  first_fails f x xs e = rw (e, first)

  -- what is found passes, and nothing before it does
  pub first_split : (f : A → Bool) (l : List A) (x : A) → first f l ≡ Some x
      → (earlier : List A) × (later : List A) × (l ≡ earlier ++ x ∷ later) × (f x ≡ true) × (any f earlier ≡ false)
  unfolding first any
  first_split f [] x h = clash (cc)
  first_split f (y ∷ ys) x h = step (f y) refl (first_split f ys x)
    where
      step : (b : Bool) → f y ≡ b
          → (first f ys ≡ Some x
          → (earlier : List A) × (later : List A) × (ys ≡ earlier ++ x ∷ later) × (f x ≡ true) × (any f earlier ≡ false))
          → (earlier : List A) × (later : List A) × (y ∷ ys ≡ earlier ++ x ∷ later) × (f x ≡ true) × (any f earlier ≡ false)
      step true e rest =
          let d = first_passes f y ys e in
          let s : y ≡ x = cc in
          ([], ys, ap (λ (z : A). z ∷ ys) s, ap f (sym s) ∙ e, refl)
      step false e rest =
          let (earlier, later, place, passes, fails) = rest (sym (first_fails f y ys e) ∙ h) in
          (y ∷ earlier, later, ap (λ (l : List A). y ∷ l) place, passes, rw e fails)

  pub first_found : (f : A → Bool) (l : List A) (x : A) → first f l ≡ Some x → (x ∈ l) × (f x ≡ true)
  first_found f l x h =
      let (earlier, later, place, passes, fails) = first_split f l x h in
      (rw place (Memᴰ.append_right earlier (Memᴰ.head refl)), passes)

  -- the first that passes is found
  pub first-at : (f : A → Bool) (earlier : List A) (x : A) (later : List A) → f x ≡ true → any f earlier ≡ false
      → first f (earlier ++ x ∷ later) ≡ Some x
  unfolding any
  first-at f [] x later e h = first_passes f x later e
  first-at f (y ∷ ys) x later e h =
      first_fails f y (ys ++ x ∷ later) (or_false_left (f y) (any f ys) h)
      ∙ first-at f ys x later e (or_false_right (f y) (any f ys) h)

  -- where nothing is found, no element passes
  pub first_none : (f : A → Bool) (l : List A) → first f l ≡ None → any f l ≡ false
  unfolding first any
  first_none f [] h = refl
  first_none f (y ∷ ys) h = step (f y) refl (first_none f ys)
    where
      step : (b : Bool) → f y ≡ b → (first f ys ≡ None → any f ys ≡ false) → any f (y ∷ ys) ≡ false
      step true e rest =
          let d : first f (y ∷ ys) ≡ Some y = rw (e, first) in
          clash (cc)
      step false e rest =
          let d : first f (y ∷ ys) ≡ first f ys = rw (e, first) in
          rw e (rest (sym d ∙ h))

  -- nothing is found where no element passes
  pub first-missing : (f : A → Bool) (l : List A) → any f l ≡ false → first f l ≡ None
  first-missing f l h = step (first f l) refl
    where
      step : (o : Option A) → first f l ≡ o → first f l ≡ None
      step None e = e
      step (Some x) e = let (m, p) = first_found f l x e in absurd (any_none f h m p)

module _ {A B : Type 0} where
  -- what undoes a function at each element undoes it on the list
  pub map_undone : (f : A → B) (h : B → A) (l : List A) → ((a : A) → a ∈ l → h (f a) ≡ a) → map h (map f l) ≡ l
  map_undone f h [] e = refl
  map_undone f h (a ∷ l) e =
      ap₂ {C = List A} (λ b m. b ∷ m) (e a (Memᴰ.head refl)) (map_undone f h l (λ b m. e b (Memᴰ.tail m)))

  -- two lists of elements that are told apart by their keys
  pub keys-same : (key : A → B) (l m : List A) → map key l ≡ map key m
      → ((a b : A) → a ∈ l → b ∈ m → key a ≡ key b → a ≡ b)
      → l ≡ m
  keys-same key [] [] e h = refl
  keys-same key [] (b ∷ m) e h = clash (cc)
  keys-same key (a ∷ l) [] e h = clash (cc)
  keys-same key (a ∷ l) (b ∷ m) e h =
      let d : key a ≡ key b = cc in
      let f : map key l ≡ map key m = cc in
      ap₂ {C = List A} (λ x xs. x ∷ xs) (h a b (Memᴰ.head refl) (Memᴰ.head refl) d)
      (keys-same key l m f (λ x y i j. h x y (Memᴰ.tail i) (Memᴰ.tail j)))

  pub flat_map_intro : (f : A → List B) {a : A} {l : List A} {b : B} → a ∈ l → b ∈ f a → b ∈ flat_map f l
  unfolding flat_map
  flat_map_intro f {b = b} (Memᴰ.head {x = x} {xs = xs} e) m =
      Memᴰ.append_left (flat_map f xs) (subst (λ (y : A). b ∈ f y) e m)
  flat_map_intro f (Memᴰ.tail {x = x} {xs = xs} n) m = Memᴰ.append_right (f x) (flat_map_intro f n m)

  pub flat_map_elim : (f : A → List B) (l : List A) {b : B} → b ∈ flat_map f l → (a : A) × (a ∈ l) × (b ∈ f a)
  unfolding flat_map
  flat_map_elim f [] m = absurd (Memᴰ.not-nil m)
  flat_map_elim f (x ∷ xs) {b} m =
      some_cons (λ a. b ∈ f a) x xs (λ (n : b ∈ flat_map f xs). flat_map_elim f xs n) (Memᴰ.append_cases (f x) m)

-- ── The first that passes ──

module _ {A : Type 0} where
  pub first-append : (f : A → Bool) (l m : List A) → first f (l ++ m) ≡ option_or (first f l) (first f m)
  unfolding first
  first-append f [] m = refl
  first-append f (x ∷ l) m = step (f x) refl (first-append f l m)
    where
      step : (b : Bool) → f x ≡ b → first f (l ++ m) ≡ option_or (first f l) (first f m)
          → first f (x ∷ (l ++ m)) ≡ option_or (first f (x ∷ l)) (first f m)
      step true e r = rw (first_passes f x (l ++ m) e, first_passes f x l e)
      step false e r = rw (first_fails f x (l ++ m) e, first_fails f x l e) r

  -- tests that agree on a list
  pub first-same : (f h : A → Bool) (l : List A) → ((x : A) → x ∈ l → f x ≡ h x) → first f l ≡ first h l
  unfolding first
  first-same f h [] e = refl
  first-same f h (x ∷ xs) e =
      step (h x) (e x (Memᴰ.head refl)) refl (first-same f h xs (λ y m. e y (Memᴰ.tail m)))
    where
      step : (b : Bool) → f x ≡ b → h x ≡ b → first f xs ≡ first h xs → first f (x ∷ xs) ≡ first h (x ∷ xs)
      step true p q r = first_passes f x xs p ∙ sym (first_passes h x xs q)
      step false p q r = first_fails f x xs p ∙ r ∙ sym (first_fails h x xs q)

-- ── Numbers that stand in a list ──

pub any-equal : (n : ℕ) (l : List ℕ) → any (eqb n) l ≡ true → n ∈ l
any-equal n l e = let (k, m, q) = any_witness (eqb n) l e in Memᴰ.cast (eqb-true n k q) m

pub none_equal : (n : ℕ) (l : List ℕ) → any (eqb n) l ≡ false → n ∈ l → ⊥
none_equal n l e m = any_none (eqb n) e m (eq-eqb n n refl)

-- ── count ──

pub count_intro : (i n k : ℕ) → i ≤ k → k < i + n → k ∈ count i n
unfolding count
count_intro i zero k p q = absurd (omega arith)
count_intro i (suc n) k p q = step (ℕ_discrete k i) (λ (h : suc i ≤ k). count_intro (suc i) n k h (omega arith))
  where
    step : Dec (k ≡ i) → (suc i ≤ k → k ∈ count (suc i) n) → k ∈ count i (suc n)
    step (yes e) rest = Memᴰ.head e
    step (no d) rest = Memᴰ.tail (rest (omega arith))

pub count_elim : (i n k : ℕ) → k ∈ count i n → (i ≤ k) × (k < i + n)
unfolding count
count_elim i zero k m = absurd (Memᴰ.not-nil m)
count_elim i (suc n) k m = step (λ (h : k ∈ count (suc i) n). count_elim (suc i) n k h) (Memᴰ.cases_cons m)
  where
    step : (k ∈ count (suc i) n → (suc i ≤ k) × (k < suc i + n)) → (k ≡ i) ⊎ (k ∈ count (suc i) n)
        → (i ≤ k) × (k < i + suc n)
    step rest (inl e) = (omega arith, omega arith)
    step rest (inr h) = let r = rest h in (omega arith, omega arith)

-- ── least ──

pub least-found : (f : ℕ → Bool) (i n k : ℕ) → least f i n ≡ Some k
    → (f k ≡ true) × (k < i + n) × ((j : ℕ) → i ≤ j → j < k → f j ≡ false)
unfolding least
least-found f i zero k h = clash (cc)
least-found f i (suc n) k h = step (f i) refl (least-found f (suc i) n k)
  where
    step : (b : Bool) → f i ≡ b
        → (least f (suc i) n ≡ Some k → (f k ≡ true) × (k < suc i + n) × ((j : ℕ) → suc i ≤ j → j < k → f j ≡ false))
        → (f k ≡ true) × (k < i + suc n) × ((j : ℕ) → i ≤ j → j < k → f j ≡ false)
    step true e rest =
        let d : least f i (suc n) ≡ Some i = rw (e, least) in
        let s : k ≡ i = cc in
        (ap f s ∙ e, omega arith, λ j p q. absurd (omega arith))
    step false e rest =
        let d : least f i (suc n) ≡ least f (suc i) n = rw (e, least) in
        let r = rest (sym d ∙ h) in
        (r.0, omega (arith, r.1), λ j p q. at j p q (ℕ_discrete j i) r.2)
      where
        at : (j : ℕ) → i ≤ j → j < k → Dec (j ≡ i) → ((j : ℕ) → suc i ≤ j → j < k → f j ≡ false) → f j ≡ false
        at j p q (yes d) r = ap f d ∙ e
        at j p q (no d) r = r j (omega arith) q

pub least_none : (f : ℕ → Bool) (i n : ℕ) → least f i n ≡ None → (k : ℕ) → i ≤ k → k < i + n → f k ≡ false
unfolding least
least_none f i zero h k p q = absurd (omega arith)
least_none f i (suc n) h k p q = step (f i) refl (λ (e : least f (suc i) n ≡ None) (s : suc i ≤ k). least_none f (suc i) n e k s (omega arith))
  where
    step : (b : Bool) → f i ≡ b → (least f (suc i) n ≡ None → suc i ≤ k → f k ≡ false) → f k ≡ false
    step true e rest =
        let d : least f i (suc n) ≡ Some i = rw (e, least) in
        clash (cc)
    step false e rest =
        let d : least f i (suc n) ≡ least f (suc i) n = rw (e, least) in
        at (ℕ_discrete k i) (rest (sym d ∙ h))
      where
        at : Dec (k ≡ i) → (suc i ≤ k → f k ≡ false) → f k ≡ false
        at (yes d) r = ap f d ∙ e
        at (no d) r = r (omega arith)
