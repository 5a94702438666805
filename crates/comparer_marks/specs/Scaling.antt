-- What is done to the rounds of all entries.
use Rattle.std.specs.Prelude.{ℕ, ◌^◌, ◌<◌, ◌≡◌}

-- what calls may return, by what `post` says of rounds and a result, is what the function gives
abbrev pub Computes : (ℕ → ℕ → Type 0) → (ℕ → ℕ) → Type 0
Computes post f = (w r : ℕ) → w < 2 ^ 32 → post w r → r ≡ f w
