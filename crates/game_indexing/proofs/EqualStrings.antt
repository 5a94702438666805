-- Strings of one length in a row: where one more is written, and what is read. Assumes nothing.
use Prim.Native.Nat.{ℕ, ◌+◌, ◌*◌, ◌<◌}
use mathlib.Core.Path.{◌≡◌, ap}
use mathlib.Core.List.{List, [], ◌∷◌, ◌++◌, flat_map, append_assoc, append-nil}
use native.Mathlib.Nat.{mul_comm}
use native.Mathlib.Numerals.{add-one}
use native.Mathlib.Omega.{arith}
use lib.ListN.{length, get_or, take, get_or-append}
use lib.Seq.{sets, take-suc, drop-cons, get_or-drop, length-take-le}
use Rattle.fra_laws.proofs.FixedWidth.{records-length, records-from}
use Rattle.fra_laws.proofs.StringsInARow.{flat_map-append}
use Rattle.game_indexing.proofs.Appended.{sets_behind}

module _ {A : Type 0} (f : A → List ℕ) (n : ℕ) (wide : (x : A) → length (f x) ≡ n) where
  -- one more is written behind the first i
  pub strings_more : (old : List ℕ) (at : ℕ) (l : List A) (i : ℕ) (z : A) → i < length l
      → sets (sets old at (flat_map f (take i l))) (at + n * i) (f (get_or l i z)) ≡ sets old at (flat_map f (take (i + 1) l))
  unfolding flat_map
  strings_more old at l i z h =
      let long = records-length f n (take i l) (λ x m. wide x) in
      let place : at + n * i ≡ at + length (flat_map f (take i l))
      = rw (long, length-take-le i l (omega arith)) (ap (λ (k : ℕ). at + k) (mul_comm n i)) in
      rw (add-one i, take-suc l i z h, flat_map-append f (take i l) (get_or l i z ∷ []), append-nil (f (get_or l i z)))
      (sets_behind old at (flat_map f (take i l)) (f (get_or l i z)) (at + n * i) place)

  -- byte k of string i
  pub strings_at : (l : List A) (rest : List ℕ) (i k : ℕ) (z : A) → i < length l → k < n
      → get_or (flat_map f l ++ rest) (n * i + k) 0 ≡ get_or (f (get_or l i z)) k 0
  unfolding flat_map
  strings_at l rest i k z h b =
      let from = records-from f n l rest i (λ x m. wide x) (omega arith) in
      rw (mul_comm n i, ← (get_or-drop (i * n) (flat_map f l ++ rest) k 0), from, drop-cons l i z h, append_assoc)
      (get_or-append (f (get_or l i z)) _ 0 k (omega (arith, wide (get_or l i z))))
