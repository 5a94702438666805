-- The functions on lists that the definitions use beside the library's: tests that compute, and counting.
use Rattle.std.specs.Prelude.{ℕ, zero, suc, Bool, true, false, ◌&&◌, ◌||◌, ltb, eqb, Option, None, Some}
use mathlib.Core.List.{List, [], ◌∷◌, Memᴰ}

module _ {A : Type 0} where
  infix 45 ◌∈◌
  -- a stands in l
  abbrev pub ◌∈◌ : A → List A → Type 0
  a ∈ l = Memᴰ a l

  -- no element stands in l twice
  abbrev pub Unique : List A → Type 0
  Unique [] = Unit {0}
  Unique (x ∷ xs) = (x ∈ xs → ⊥) × Unique xs

  -- the test passes at some element
  unfoldable pub any : (A → Bool) → List A → Bool
  any f [] = false
  any f (x ∷ xs) = f x || any f xs

  -- the test passes at every element
  unfoldable pub all : (A → Bool) → List A → Bool
  all f [] = true
  all f (x ∷ xs) = f x && all f xs

  -- the elements at which the test passes, in their order
  unfoldable pub keep : (A → Bool) → List A → List A
  keep f [] = []
  keep f (x ∷ xs) = elim (f x) [ true ↦ x ∷ keep f xs | false ↦ keep f xs ]

  -- the first element at which the test passes
  unfoldable pub first : (A → Bool) → List A → Option A
  first f [] = None
  first f (x ∷ xs) = elim (f x) [ true ↦ Some x | false ↦ first f xs ]

-- n numbers from k on: k, k + 1, ..
unfoldable pub count : ℕ → ℕ → List ℕ
count k zero = []
count k (suc n) = k ∷ count (suc k) n

-- the least number from k on, among n of them, at which the test passes
unfoldable pub least : (ℕ → Bool) → ℕ → ℕ → Option ℕ
least f k zero = None
least f k (suc n) = elim (f k) [ true ↦ Some k | false ↦ least f (suc k) n ]

-- the strict lexicographic order of two strings
unfoldable pub below : List ℕ → List ℕ → Bool
below [] [] = false
below [] (y ∷ ys) = true
below (x ∷ xs) [] = false
below (x ∷ xs) (y ∷ ys) = ltb x y || (eqb x y && below xs ys)

-- the two strings are the same
unfoldable pub equal : List ℕ → List ℕ → Bool
equal [] [] = true
equal [] (y ∷ ys) = false
equal (x ∷ xs) [] = false
equal (x ∷ xs) (y ∷ ys) = eqb x y && equal xs ys
