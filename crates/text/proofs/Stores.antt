-- Stores in a row. Assumes nothing.
use Prim.Native.Nat.{ℕ, suc, ◌+◌, ◌<◌}
use mathlib.Core.Path.{◌≡◌, refl, sym, ap, ◌∙◌}
use mathlib.Core.List.{List, [], ◌∷◌, ◌++◌, append-nil}
use native.Mathlib.Omega.{arith}
use native.Mathlib.Nat.{zero-add}
use lib.ListN.{length, get_or, take, set, drop_of_length-le, length-append}
use lib.Seq.{sets, sets-eq, set_comm, take-suc, length-take-le}
use Rattle.fra_laws.proofs.FixedWidth.{sets_append}

-- a store in front of a run of stores
pub set_before : (l : List ℕ) (i : ℕ) (vs : List ℕ) (j v : ℕ) → j < i → set (sets l i vs) j v ≡ sets (set l j v) i vs
set_before l i [] j v h = refl
set_before l i (x ∷ vs) j v h =
    set_before (set l i x) (suc i) vs j v (omega arith)
    ∙ ap (λ (m : List ℕ). sets m (suc i) vs) (set_comm l i j x v (λ e. omega arith))

-- a store behind the first n bytes of a text
pub sets_next : (l text : List ℕ) (n : ℕ) → n < length text
    → set (sets l 0 (take n text)) n (get_or text n 0) ≡ sets l 0 (take (suc n) text)
sets_next l text n h =
    let long = length-take-le n text (omega arith) in
    rw (take-suc text n 0 h, sets_append l 0 (take n text) (get_or text n 0 ∷ []), long, zero-add)

-- as many stores as there are places
pub sets_all : (l vs : List ℕ) → length vs ≡ length l → sets l 0 vs ≡ vs
sets_all l vs e =
    rw (sets-eq vs l 0 (omega arith), zero-add, drop_of_length-le l {i = length vs} (omega arith)) (append-nil vs)

-- and one behind them
pub sets_last : (l vs : List ℕ) (n v : ℕ) → length vs ≡ n → length l ≡ n + 1 → set (sets l 0 vs) n v ≡ vs ++ (v ∷ [])
sets_last l vs n v e f =
    let here : 0 + length vs ≡ n = omega arith in
    rw here at (sym (sets_append l 0 vs (v ∷ []))) ∙ sets_all l (vs ++ (v ∷ [])) (omega (arith, length-append vs (v ∷ [])))
