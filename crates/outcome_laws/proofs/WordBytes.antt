-- Words of four bytes: what number they stand for, and that they are its bytes. Assumes nothing.
use Prim.Native.Nat.{ℕ, ◌+◌, ◌*◌, ◌/◌, ◌%◌, ◌^◌, ◌<◌}
use mathlib.Core.Path.{◌≡◌}
use mathlib.Core.List.{List, [], ◌∷◌}
use native.Mathlib.Omega.{arith}
use lib.ListN.{get_or}
use lib.Pow.{recompose, mod-pow-add}
use Rattle.outcome.specs.Bytes.{word, word_at}

-- a number is that of its four bytes
pub word_value : (n : ℕ) → n < 2 ^ 32
    → n / 2 ^ 24 % 256 * 2 ^ 24 + n / 2 ^ 16 % 256 * 2 ^ 16 + n / 2 ^ 8 % 256 * 2 ^ 8 + n % 256 ≡ n
word_value n h = omega (arith, recompose 8 24 h, mod-pow-add n 8 16, mod-pow-add n 8 8)

module _ (l : List ℕ) (i : ℕ) (b : (k : ℕ) → get_or l k 0 < 256) where
  pub word_bound : word_at l i < 2 ^ 32
  unfolding word_at
  word_bound = omega (arith, b i, b (i + 1), b (i + 2), b (i + 3))

  -- the word of four bytes is these bytes
  pub word_bytes : word (word_at l i) ≡ get_or l i 0 ∷ get_or l (i + 1) 0 ∷ get_or l (i + 2) 0 ∷ get_or l (i + 3) 0 ∷ []
  unfolding word word_at
  word_bytes = four (get_or l i 0) (get_or l (i + 1) 0) (get_or l (i + 2) 0) (get_or l (i + 3) 0) (b i) (b (i + 1)) (b (i + 2)) (b (i + 3))
    where
      four : (w x y z : ℕ) → w < 256 → x < 256 → y < 256 → z < 256
          → word (w * 2 ^ 24 + x * 2 ^ 16 + y * 2 ^ 8 + z) ≡ w ∷ x ∷ y ∷ z ∷ []
      four w x y z a b c d =
          let n = w * 2 ^ 24 + x * 2 ^ 16 + y * 2 ^ 8 + z in
          let e₁ : n / 2 ^ 24 % 256 ≡ w = omega arith in
          let e₂ : n / 2 ^ 16 % 256 ≡ x = omega arith in
          let e₃ : n / 2 ^ 8 % 256 ≡ y = omega arith in
          let e₄ : n % 256 ≡ z = omega arith in
          cc
