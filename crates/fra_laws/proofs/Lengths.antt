-- Counting in lists: lengths, lists without duplicates, and the pigeonhole principle. Assumes nothing.
use Prim.Native.Nat.{ℕ, zero, suc, ◌+◌, ◌*◌, ◌≤◌, ◌<◌}
use mathlib.Core.Path.{◌≡◌, refl, sym, ◌∙◌, ap}
use mathlib.Core.Logic.{◌⊎◌, inl, inr, ⊎_elim}
use mathlib.Core.Bool.{Bool, true, false}
use mathlib.Core.List.Memᴰ
use mathlib.Core.List.{List, [], ◌∷◌, ◌++◌, map, flat_map}
use native.Mathlib.Nat.{add-zero}
use native.Mathlib.Omega.{arith}
use lib.ListN.{length, length-append, length-map}
use Rattle.fra.specs.Lists.{◌∈◌, Unique, keep, count}
use Rattle.fra_laws.proofs.Lists.{keep_passes, keep_fails, keep_elim, count_elim}

-- ── Lengths ──

pub count-length : (i n : ℕ) → length (count i n) ≡ n
unfolding count
count-length i zero = refl
count-length i (suc n) = ap suc (count-length (suc i) n)

pub count-more : (i n : ℕ) → count i (suc n) ≡ count i n ++ ((i + n) ∷ [])
unfolding count
count-more i zero = rw (add-zero i)
count-more i (suc n) =
    let e : suc i + n ≡ i + suc n = omega arith in rw (← e) (ap (λ (l : List ℕ). i ∷ l) (count-more (suc i) n))

-- the ownership of an array of structs speaks of what its elements are mapped to, which are as many as they
pub length-of-map : {A B : Type 0} (f : A → B) (l : List A) (n : ℕ) → length (map f l) ≡ n → length l ≡ n
length-of-map f l n p = sym (length-map l f) ∙ p

pub count-unique : (i n : ℕ) → Unique (count i n)
unfolding count
count-unique i zero = tt
count-unique i (suc n) = (λ m. let h = count_elim (suc i) n i m in omega arith, count-unique (suc i) n)

-- a test keeps fewer elements than there are, or all
pub keep_shortens : {A : Type 0} (f : A → Bool) (l : List A) → (length (keep f l) < length l) ⊎ (keep f l ≡ l)
unfolding keep
keep_shortens f [] = inr refl
keep_shortens {A} f (x ∷ xs) = step (f x) refl (keep_shortens f xs)
  where
    step : (b : Bool) → f x ≡ b → (length (keep f xs) < length xs) ⊎ (keep f xs ≡ xs)
        → (length (keep f (x ∷ xs)) < suc (length xs)) ⊎ (keep f (x ∷ xs) ≡ x ∷ xs)
    step true e (inl r) = inl (rw (keep_passes f x xs e) (omega arith))
    step true e (inr r) = inr (keep_passes f x xs e ∙ ap (λ (l : List A). x ∷ l) r)
    step false e (inl r) = inl (rw (keep_fails f x xs e) (omega arith))
    step false e (inr r) = inl (rw (keep_fails f x xs e, r) (omega arith))

module _ {A B : Type 0} where
  pub flat_map-length : (f : A → List B) (l : List A) (n : ℕ) → ((a : A) → a ∈ l → length (f a) ≡ n)
      → length (flat_map f l) ≡ length l * n
  unfolding flat_map
  flat_map-length f [] n h = omega arith
  flat_map-length f (x ∷ xs) n h =
      let a = h x (Memᴰ.head refl) in
      let b = flat_map-length f xs n (λ y m. h y (Memᴰ.tail m)) in
      rw length-append (omega arith)

-- ── Picking an element ──

module _ {A : Type 0} where
  -- each element of a list, with the list of the others
  abbrev pub picks : List A → List (A × List A)
  picks [] = []
  picks (x ∷ xs) = (x, xs) ∷ map (λ v. (v.0, x ∷ v.1)) (picks xs)

  pub picks-length : (l : List A) → length (picks l) ≡ length l
  picks-length [] = refl
  picks-length (x ∷ xs) = rw length-map (ap suc (picks-length xs))

  pub picks-rest : (l : List A) (w : A × List A) → w ∈ picks l → suc (length w.1) ≡ length l
  picks-rest [] w m = absurd (Memᴰ.not-nil m)
  picks-rest (x ∷ xs) w m = step (picks-rest xs) (Memᴰ.cases_cons m)
    where
      step : ((v : A × List A) → v ∈ picks xs → suc (length v.1) ≡ length xs)
          → (w ≡ (x, xs)) ⊎ (w ∈ map (λ v. (v.0, x ∷ v.1)) (picks xs)) → suc (length w.1) ≡ suc (length xs)
      step rest (inl e) = rw e
      step rest (inr n) =
          let v = Memᴰ.of_map (λ v. (v.0, x ∷ v.1)) (picks xs) n in
          rw (← v.2) (ap suc (rest v.0 v.1))

  -- an element can be picked, and all others are left
  pub picks_intro : {x : A} {l : List A} → x ∈ l
      → (rest : List A) × ((x, rest) ∈ picks l) × ((y : A) → y ∈ l → (y ≡ x → ⊥) → y ∈ rest)
  picks_intro (Memᴰ.head {x = z} {xs = xs} e) = (
    xs,
    Memᴰ.head (λ i. (e i, xs)),
    λ y n d. ⊎_elim (λ s. absurd (d (s ∙ sym e))) (λ k. k) (Memᴰ.cases_cons n),
  )
  picks_intro (Memᴰ.tail {x = z} {xs = xs} m) =
      let w = picks_intro m in (
        z ∷ w.0,
        Memᴰ.tail (Memᴰ.map (λ v. (v.0, z ∷ v.1)) w.1),
        λ y n d. ⊎_elim (λ s. Memᴰ.head s) (λ k. Memᴰ.tail (w.2 y k d)) (Memᴰ.cases_cons n),
      )

  -- ── Lists without duplicates ──

  pub keep-unique : (f : A → Bool) (l : List A) → Unique l → Unique (keep f l)
  unfolding keep
  keep-unique f [] u = tt
  keep-unique f (x ∷ xs) (new, u) = step (f x) refl (keep-unique f xs u)
    where
      step : (b : Bool) → f x ≡ b → Unique (keep f xs) → Unique (keep f (x ∷ xs))
      step true e rest = rw (keep_passes f x xs e) (λ m. new (keep_elim f x xs m).0, rest)
      step false e rest = rw (keep_fails f x xs e) rest

  pub append-unique : (l m : List A) → Unique l → Unique m → ((x : A) → x ∈ l → x ∈ m → ⊥) → Unique (l ++ m)
  append-unique [] m u v apart = v
  append-unique (x ∷ l) m (new, u) v apart = (
    λ n. ⊎_elim new (apart x (Memᴰ.head refl)) (Memᴰ.append_cases l n),
    append-unique l m u v (λ y i j. apart y (Memᴰ.tail i) j),
  )

  -- a function that tells the elements of a list apart
  pub map-unique : {B : Type 0} (f : A → B) (l : List A) → ((a b : A) → a ∈ l → b ∈ l → f a ≡ f b → a ≡ b) → Unique l
      → Unique (map f l)
  map-unique f [] apart u = tt
  map-unique f (x ∷ xs) apart u = (
    λ m.
        let w = Memᴰ.of_map f xs m in
        u.0 (Memᴰ.cast (sym (apart w.0 x (Memᴰ.tail w.1) (Memᴰ.head refl) w.2)) w.1),
    map-unique f xs (λ a b m n. apart a b (Memᴰ.tail m) (Memᴰ.tail n)) u.1,
  )

  -- ── The pigeonhole principle ──

  pub unique-length : (l m : List A) → Unique l → ((x : A) → x ∈ l → x ∈ m) → length l ≤ length m
  unique-length [] m u h = omega arith
  unique-length (x ∷ xs) m u h =
      let p = picks_intro (h x (Memᴰ.head refl)) in
      let e = picks-rest m (x, p.0) p.1 in
      let r = unique-length xs p.0 u.1 (λ y n. p.2 y (h y (Memᴰ.tail n)) (λ d. u.0 (Memᴰ.cast (sym d) n))) in
      omega arith
