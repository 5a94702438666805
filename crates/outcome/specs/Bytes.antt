-- Numbers and buffers as bytes.
use Rattle.std.specs.Prelude.{ℕ, ◌+◌, ◌*◌, ◌/◌, ◌%◌, ◌^◌, ◌<◌, List, [], ◌∷◌, ◌++◌, map, length, drop, get_or, replicate}

-- what a lent buffer holds: bytes
pub record Byte : Type 0 where
  pub value : ℕ
  pub small : value < 256

-- the numbers that bytes are
unfoldable pub values : List Byte → List ℕ
values l = map (λ b. b.value) l

-- "four bytes, high byte first"
unfoldable pub word : ℕ → List ℕ
word n = n / 2 ^ 24 % 256 ∷ n / 2 ^ 16 % 256 ∷ n / 2 ^ 8 % 256 ∷ n % 256 ∷ []

unfoldable pub word_at : List ℕ → ℕ → ℕ
word_at l i = get_or l i 0 * 2 ^ 24 + get_or l (i + 1) 0 * 2 ^ 16 + get_or l (i + 2) 0 * 2 ^ 8 + get_or l (i + 3) 0

-- "FF FF FF FF"
abbrev pub all_ones : ℕ
all_ones = 4294967295

-- as many zeros as the buffer has bytes
unfoldable pub cleared : List ℕ → List ℕ
cleared buffer = replicate (length buffer) 0

-- bytes, "then zeros"
unfoldable pub then_zeros : List ℕ → List ℕ → List ℕ
then_zeros written buffer = written ++ cleared (drop (length written) buffer)

-- bytes from the buffer's start; "the rest is unchanged"
unfoldable pub then_rest : List ℕ → List ℕ → List ℕ
then_rest written buffer = written ++ drop (length written) buffer
