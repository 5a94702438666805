-- Lists that are records of one width, one after the other, and then anything: how to read and write in record i. Serves tables,
-- certificates and every other list of such records. Assumes nothing.
use Prim.Native.Nat.{ℕ, zero, suc, ◌+◌, ◌*◌, ◌≤◌, ◌<◌}
use mathlib.Core.Path.{◌≡◌, refl, sym, ◌∙◌, ap}
use mathlib.Core.List.Memᴰ
use mathlib.Core.List.{List, [], ◌∷◌, ◌++◌, flat_map, append_assoc}
use native.Mathlib.Omega.{arith}
use native.Mathlib.Nat.{zero-add, add-zero, add-suc, suc-add, suc-mul, zero-mul, add_comm}
use lib.ListN.{length, get_or, set, drop, length-set}
use lib.Seq.{sets, drop-append-add, set-append_left}
use Rattle.fra.specs.Lists.{◌∈◌}
use Rattle.fra_laws.proofs.Lengths.{flat_map-length}

module _ {A : Type 0} where
  pub at_member : (l : List A) (i : ℕ) (z : A) → i < length l → get_or l i z ∈ l
  at_member [] i z h = absurd (omega arith)
  at_member (x ∷ xs) zero z h = Memᴰ.head refl
  at_member (x ∷ xs) (suc i) z h = Memᴰ.tail (at_member xs i z (omega arith))

  -- a member has a place
  pub member_place : {x : A} {l : List A} (z : A) → x ∈ l → (j : ℕ) × (j < length l) × (get_or l j z ≡ x)
  member_place z (Memᴰ.head {x = y} {xs = ys} e) = (0, omega arith, sym e)
  member_place z (Memᴰ.tail {x = y} {xs = ys} m) = let (j, b, e) = member_place z m in (suc j, omega arith, e)

  sets_left : (xs ys : List A) (i : ℕ) (vs : List A) → i + length vs ≤ length xs → sets (xs ++ ys) i vs ≡ sets xs i vs ++ ys
  sets_left xs ys i [] h = refl
  sets_left xs ys i (v ∷ vs) h =
      rw (set-append_left xs ys i v (omega arith)) (sets_left (set xs i v) ys (suc i) vs (rw length-set (omega arith)))

  -- stores in a row, and those behind them
  pub sets_append : (l : List A) (i : ℕ) (a b : List A) → sets l i (a ++ b) ≡ sets (sets l i a) (i + length a) b
  sets_append l i [] b = rw (add-zero i)
  sets_append l i (x ∷ a) b =
      let e : suc i + length a ≡ i + suc (length a) = omega arith in
      sets_append (set l i x) (suc i) a b ∙ rw e

  set-right : (xs ys : List A) (n : ℕ) (v : A) → set (xs ++ ys) (length xs + n) v ≡ xs ++ set ys n v
  set-right [] ys n v = rw zero-add
  set-right (x ∷ xs) ys n v = rw suc-add (ap (λ (l : List A). x ∷ l) (set-right xs ys n v))

  sets_right : (xs ys : List A) (n : ℕ) (vs : List A) → sets (xs ++ ys) (length xs + n) vs ≡ xs ++ sets ys n vs
  sets_right xs ys n [] = refl
  sets_right xs ys n (v ∷ vs) = rw (set-right, ← add-suc) (sets_right xs (set ys n v) (suc n) vs)

module _ {A B : Type 0} (record_of : A → List B) (width : ℕ) where
  -- every record has the width
  abbrev pub Wide : List A → Type 0
  Wide l = (a : A) → a ∈ l → length (record_of a) ≡ width

  pub records-length : (l : List A) → Wide l → length (flat_map record_of l) ≡ length l * width
  records-length l = flat_map-length record_of l width

  -- what stands from record i on
  pub records-from : (l : List A) (rest : List B) (i : ℕ) → Wide l → i ≤ length l
      → drop (i * width) (flat_map record_of l ++ rest) ≡ flat_map record_of (drop i l) ++ rest
  unfolding flat_map
  records-from l rest zero w h = rw zero-mul
  records-from [] rest (suc i) w h = absurd (omega arith)
  records-from (a ∷ l) rest (suc i) w h =
      rw (suc-mul, add_comm (i * width) width, append_assoc)
      (ap (λ (n : ℕ). drop (n + i * width) (record_of a ++ (flat_map record_of l ++ rest))) (sym (w a (Memᴰ.head refl)))
      ∙ drop-append-add (record_of a) (flat_map record_of l ++ rest) (i * width)
      ∙ records-from l rest i (λ b m. w b (Memᴰ.tail m)) (omega arith))

  -- a write inside record i makes it another record
  pub record_write : (l : List A) (rest : List B) (i f : ℕ) (z a : A) (vs : List B) → Wide l → i < length l
      → f + length vs ≤ width
      → record_of a ≡ sets (record_of (get_or l i z)) f vs
      → sets (flat_map record_of l ++ rest) (i * width + f) vs ≡ flat_map record_of (set l i a) ++ rest
  unfolding flat_map
  record_write [] rest i f z a vs w h k e = absurd (omega arith)
  record_write (b ∷ l) rest zero f z a vs w h k e =
      let v = w b (Memᴰ.head refl) in
      let rests = flat_map record_of l ++ rest in
      rw (zero-mul, zero-add, append_assoc (record_of b) (flat_map record_of l) rest, sets_left (record_of b) rests f vs (omega arith), append_assoc, e)
  record_write (b ∷ l) rest (suc i) f z a vs w h k e =
      let v = w b (Memᴰ.head refl) in
      let rests = flat_map record_of l ++ rest in
      let place : suc i * width + f ≡ length (record_of b) + (i * width + f) = omega arith in
      rw (place, append_assoc (record_of b) (flat_map record_of l) rest)
      (sets_right (record_of b) rests (i * width + f) vs
      ∙ ap (λ (m : List B). record_of b ++ m)
      (record_write l rest i f z a vs (λ c m. w c (Memᴰ.tail m)) (omega arith) k e)
      ∙ sym (append_assoc (record_of b) _ rest))
