-- Lists read by index: what a store leaves at each index, at which index a test passes, and the first elements of a list with a
-- filling after them. Assumes nothing.
use Prim.Native.Nat.{ℕ, zero, suc, ◌≤◌, ◌<◌}
use mathlib.Core.Path.{◌≡◌, refl, sym, ◌∙◌, ap}
use mathlib.Core.Logic.{◌⊎◌, inl, inr}
use mathlib.Core.Bool.{Bool, true, false, cond, false≢true}
use mathlib.Core.List.{List, [], ◌∷◌}
use native.Mathlib.Omega.{arith}
use native.Mathlib.Decide.{dec_lt}
use lib.ListN.{length, get_or, set, replicate, length-replicate}
use lib.Seq.{get_or-set_same, get_or-set_other, ext_get_or}
use lib.Dec.{eqb}
use borrow.Author.Tests.{eqb-true, eqb-false}
use Rattle.fra.specs.Lists.{any}
use Rattle.fra_laws.proofs.Tests.{or_cases, or_left, or_right}

module _ {A : Type 0} where
  pub get_d_replicate_default : (n k : ℕ) (a : A) → get_or (replicate n a) k a ≡ a
  get_d_replicate_default zero k a = refl
  get_d_replicate_default (suc n) zero a = refl
  get_d_replicate_default (suc n) (suc k) a = get_d_replicate_default n k a

  pub get_d_set : (l : List A) (i k : ℕ) (v d : A) → i < length l → get_or (set l i v) k d ≡ cond (eqb i k) v (get_or l k d)
  get_d_set l i k v d h = at (eqb i k) refl
    where
      at : (t : Bool) → eqb i k ≡ t → get_or (set l i v) k d ≡ cond t v (get_or l k d)
      at true e = rw (← eqb-true i k e) (get_or-set_same l i v d h)
      at false e = get_or-set_other l i k v d (λ q. eqb-false i k e (sym q))

  pub any_at : (f : A → Bool) (l : List A) (k : ℕ) (d : A) → k < length l → f (get_or l k d) ≡ true → any f l ≡ true
  unfolding any
  any_at f [] k d h e = absurd (omega arith)
  any_at f (x ∷ l) zero d h e = or_left (f x) (any f l) e
  any_at f (x ∷ l) (suc k) d h e = or_right (f x) (any f l) (any_at f l k d (omega arith) e)

  -- some index holds an element at which the test passes
  pub any-index : (f : A → Bool) (l : List A) (d : A) → any f l ≡ true → (k : ℕ) × (k < length l) × (f (get_or l k d) ≡ true)
  unfolding any
  any-index f [] d h = absurd (false≢true h)
  any-index f (x ∷ l) d h = at (any-index f l d) (or_cases (f x) (any f l) h)
    where
      at : (any f l ≡ true → (k : ℕ) × (k < length l) × (f (get_or l k d) ≡ true)) → (f x ≡ true) ⊎ (any f l ≡ true)
          → (k : ℕ) × (k < suc (length l)) × (f (get_or (x ∷ l) k d) ≡ true)
      at rest (inl e) = (0, omega arith, e)
      at rest (inr e) = let w = rest e in (suc w.0, omega arith, w.2)

-- the first n elements of a list, and z in the places after them
module _ {A : Type 0} (z : A) where
  abbrev pub up_to : ℕ → List A → List A
  up_to n [] = []
  up_to zero (x ∷ l) = z ∷ up_to zero l
  up_to (suc n) (x ∷ l) = x ∷ up_to n l

  up_to-length : (n : ℕ) (l : List A) → length (up_to n l) ≡ length l
  up_to-length n [] = refl
  up_to-length zero (x ∷ l) = ap suc (up_to-length zero l)
  up_to-length (suc n) (x ∷ l) = ap suc (up_to-length n l)

  pub up_to-before : (n : ℕ) (l : List A) (k : ℕ) → k < n → get_or (up_to n l) k z ≡ get_or l k z
  up_to-before n [] k h = refl
  up_to-before zero (x ∷ l) k h = absurd (omega arith)
  up_to-before (suc n) (x ∷ l) zero h = refl
  up_to-before (suc n) (x ∷ l) (suc k) h = up_to-before n l k (omega arith)

  pub up_to_past : (n : ℕ) (l : List A) (k : ℕ) → n ≤ k → get_or (up_to n l) k z ≡ z
  up_to_past n [] k h = refl
  up_to_past zero (x ∷ l) zero h = refl
  up_to_past zero (x ∷ l) (suc k) h = up_to_past zero l k (omega arith)
  up_to_past (suc n) (x ∷ l) zero h = absurd (omega arith)
  up_to_past (suc n) (x ∷ l) (suc k) h = up_to_past n l k (omega arith)

  pub up_to_none : (n : ℕ) (l : List A) → length l ≡ n → up_to 0 l ≡ replicate n z
  up_to_none n l e =
      ext_get_or z (up_to 0 l) (replicate n z) (up_to-length 0 l ∙ e ∙ sym (length-replicate n z))
      (λ k b. up_to_past 0 l k (omega arith) ∙ sym (get_d_replicate_default n k z))

  -- a list that has nothing else after its first n elements
  pub up_to-all : (n : ℕ) (l : List A) → ((k : ℕ) → n ≤ k → get_or l k z ≡ z) → up_to n l ≡ l
  up_to-all n l past = ext_get_or z (up_to n l) l (up_to-length n l) (λ k b. at k (dec_lt k n))
    where
      at : (k : ℕ) → Dec (k < n) → get_or (up_to n l) k z ≡ get_or l k z
      at k (yes d) = up_to-before n l k d
      at k (no d) = up_to_past n l k (omega arith) ∙ sym (past k (omega arith))

  -- one element more
  pub up_to-set : (n : ℕ) (l : List A) → n < length l → set (up_to n l) n (get_or l n z) ≡ up_to (suc n) l
  up_to-set n [] h = absurd (omega arith)
  up_to-set zero (x ∷ l) h = refl
  up_to-set (suc n) (x ∷ l) h = ap (λ (m : List A). x ∷ m) (up_to-set n l (omega arith))
