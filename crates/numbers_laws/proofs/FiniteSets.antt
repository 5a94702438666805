-- Finite sets of numbers as lists in which no number stands twice: a longer set is not covered by a shorter list, some
-- number is outside of each, a number joins a set, and a list lies inside a set of any size from its length on. Assumes nothing.
use Prim.Native.Nat.{ℕ, zero, suc, ◌≤◌, ◌<◌}
use mathlib.Core.Path.{◌≡◌, refl, ap}
use mathlib.Core.Logic.{⊎_elim}
use mathlib.Core.Bool.{Bool, true, false, cond}
use mathlib.Core.List.Memᴰ
use mathlib.Core.List.{List, [], ◌∷◌}
use native.Mathlib.Omega.{arith}
use lib.ListN.{length}
use lib.Dec.{eqb}
use Rattle.fra.specs.Lists.{◌∈◌, Unique, any, all, count}
use Rattle.fra_laws.proofs.Lists.{all-at, all_counterexample, any-equal, none_equal}
use Rattle.fra_laws.proofs.Lengths.{count-length, count-unique, unique-length}
use Rattle.numbers.specs.Numbers.{joined}

-- ── A number outside ──

-- a set that is longer than a list has a number outside of it
pub pigeonhole : (l k : List ℕ) → Unique l → length k < length l → (n : ℕ) × (n ∈ l) × (n ∈ k → ⊥)
pigeonhole l k u h = step (all stands l) refl
  where
    stands : ℕ → Bool
    stands n = any (eqb n) k

    step : (b : Bool) → all stands l ≡ b → (n : ℕ) × (n ∈ l) × (n ∈ k → ⊥)
    step true e =
        let b = unique-length l k u (λ n m. any-equal n k (all-at stands e m)) in
        absurd (omega arith)
    step false e = let (n, m, f) = all_counterexample stands l e in (n, m, none_equal n k f)

-- numbers never run out
pub outside : (l : List ℕ) → (n : ℕ) × (n ∈ l → ⊥)
outside l =
    let (n, m, out) =
    pigeonhole (count 0 (suc (length l))) l (count-unique 0 (suc (length l))) (rw count-length (omega arith)) in
    (n, out)

-- ── A number joins a set ──

pub record Joined (n : ℕ) (l k : List ℕ) : Type 0 where
  pub unique : Unique k
  pub joins : n ∈ k
  pub keeps : (m : ℕ) → m ∈ l → m ∈ k
  -- a number that was there changes nothing, and any other makes the set longer by one
  pub known : n ∈ l → k ≡ l
  pub longer : (n ∈ l → ⊥) → length k ≡ suc (length l)

pub joined-set : (n : ℕ) (l : List ℕ) → Unique l → Joined n l (joined n l)
unfolding joined
joined-set n l u = step (any (eqb n) l) refl
  where
    step : (b : Bool) → any (eqb n) l ≡ b → Joined n l (cond b l (n ∷ l))
    step true e =
        let m = any-equal n l e in
        record { unique = u; joins = m; keeps = λ m h. h; known = λ h. refl; longer = λ new. absurd (new m) }
    step false e =
        record {
          unique = (none_equal n l e, u);
          joins = Memᴰ.head refl;
          keeps = λ m h. Memᴰ.tail h;
          known = λ h. absurd (none_equal n l e h);
          longer = λ new. refl;
        }

-- ── A set of a given size ──

-- one number more, so that x is among them
one_more : (x : ℕ) (k : List ℕ) → (y : ℕ) × (y ∈ k → ⊥) × (x ∈ y ∷ k)
one_more x k = step (any (eqb x) k) refl
  where
    step : (b : Bool) → any (eqb x) k ≡ b → (y : ℕ) × (y ∈ k → ⊥) × (x ∈ y ∷ k)
    step true e = let (y, new) = outside k in (y, new, Memᴰ.tail (any-equal x k e))
    step false e = (x, none_equal x k e, Memᴰ.head refl)

-- a list of at most n numbers lies inside a set of n
pub set_around : (n : ℕ) (l : List ℕ) → length l ≤ n
    → (k : List ℕ) × Unique k × (length k ≡ n) × ((m : ℕ) → m ∈ l → m ∈ k)
set_around zero [] h = ([], tt, refl, λ m i. i)
set_around zero (x ∷ l) h = absurd (omega arith)
set_around (suc n) [] h =
    let (k, u, long, inside) = set_around n [] (omega arith) in
    let (y, new) = outside k in
    (y ∷ k, (new, u), ap suc long, λ m i. Memᴰ.tail (inside m i))
set_around (suc n) (x ∷ l) h =
    let (k, u, long, inside) = set_around n l (omega arith) in
    let (y, new, there) = one_more x k in (
      y ∷ k,
      (new, u),
      ap suc long,
      λ m i. ⊎_elim (λ e. Memᴰ.cast e there) (λ j. Memᴰ.tail (inside m j)) (Memᴰ.cases_cons i),
    )
