-- The history's size as a position counts it, for any register count: what it says of the numbers in the history, and what it
-- becomes as a number joins them. Assumes nothing.
use Prim.Native.Nat.{ℕ, suc, ◌*◌, ◌≤◌, ◌<◌}
use mathlib.Core.Path.{◌≡◌, refl}
use mathlib.Core.Logic.{◌↔◌}
use mathlib.Core.Bool.{Bool, true, false, cond}
use mathlib.Core.List.{List}
use native.Mathlib.Omega.{arith}
use native.Mathlib.Decide.{dec_lt}
use lib.ListN.{length}
use lib.Dec.{ltb}
use borrow.Author.Tests.{ltb-true, ltb-false}
use Rattle.fra.specs.Position.{most_seen}
use Rattle.fra.specs.Game.{size_after}
use Rattle.fra.specs.declared.IdCase.TheVariants.{New}

-- 02, ticket 2: "the history .. has exactly the stated size, or at least 13 numbers where 13 is stated": 2r + 1 for r registers
pub record Sized (r size : ℕ) (history : List ℕ) : Type 0 where
  pub most : size ≤ most_seen r
  pub exact : size < most_seen r → length history ≡ size
  pub at_least : size ≡ most_seen r → most_seen r ≤ length history

-- a count of at most 2r is below the size exactly if the history has more numbers than that
pub below-size : {r size : ℕ} {history : List ℕ} → Sized r size history → (n : ℕ) → n ≤ 2 * r
    → (n < size) ↔ (n < length history)
below-size {r} {size} {history} h n few = step (dec_lt size (most_seen r))
  where
    step : Dec (size < most_seen r) → (n < size) ↔ (n < length history)
    step (yes b) = let e = h.exact b in (λ a. omega arith, λ a. omega arith)
    step (no b) =
        let e : size ≡ most_seen r = omega (arith, h.most) in
        let long = h.at_least e in
        (λ a. omega arith, λ a. omega arith)

-- with one number more, the size is raised as a new number raises it
pub size-raised : {r size : ℕ} {history more : List ℕ} → Sized r size history → length more ≡ suc (length history)
    → Sized r (size_after r New size) more
size-raised {r} {size} {history} {more} h longer = step (ltb size (most_seen r)) refl
  where
    step : (b : Bool) → ltb size (most_seen r) ≡ b → Sized r (cond b (suc size) size) more
    step true e =
        let below = ltb-true size (most_seen r) e in
        let long = h.exact below in
        record { most = below; exact = λ b. omega arith; at_least = λ q. omega arith }
    step false e =
        let above = ltb-false size (most_seen r) e in
        let greatest : size ≡ most_seen r = omega (arith, h.most) in
        let long = h.at_least greatest in
        record { most = h.most; exact = λ b. absurd (omega arith); at_least = λ q. omega arith }
