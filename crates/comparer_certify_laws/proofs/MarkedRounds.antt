-- What is done to the rounds of an entry, and asked of them, while marks stand: for a position that is never lost, and for one of
-- fewer than 2 ^ 30 rounds. Assumes nothing.
use Prim.Native.Nat.{ℕ, suc, ◌+◌, ◌*◌, ◌/◌, ◌%◌, ◌^◌, ◌≤◌, ◌<◌}
use mathlib.Core.Path.{◌≡◌, refl, sym, ◌∙◌, ap}
use mathlib.Core.Logic.{◌↔◌}
use mathlib.Core.Bool.{Bool, true, false, false≢true}
use Rattle.std.specs.Prelude.{Option, None, Some}
use native.Mathlib.Omega.{arith}
use native.Mathlib.Decide.{dec_le}
use lib.Dec.{ltb, eqb}
use borrow.Author.Tests.{lt-ltb, le-ltb, eq-eqb, ne_eqb, eqb-true}
use Rattle.fra_laws.proofs.Tests.{clash}
use Rattle.outcome.specs.Bytes.{all_ones}
use Rattle.outcome.specs.Certificate.{rounds_or_never, is_never}
use Rattle.comparer_certify_laws.specs.MarkedRounds.{doubled, halved, with_mark, is_marked, marked_rounds}

-- never lost, or in few rounds
abbrev pub Few : Option ℕ → Type 0
Few o = (k : ℕ) → o ≡ Some k → k < 2 ^ 30

pub rounds_fit : (o : Option ℕ) → Few o → rounds_or_never o < 2 ^ 32
rounds_fit None few = omega arith
rounds_fit (Some k) few = omega (arith, few k refl)

pub never_is : (o : Option ℕ) → Few o → eqb (rounds_or_never o) all_ones ≡ is_never o
never_is None few = refl
never_is (Some k) few = let b = few k refl in ne_eqb k all_ones (λ e. omega arith)

pub marked-fits : (o : Option ℕ) (m : Bool) → Few o → marked_rounds o m < 2 ^ 32
unfolding marked_rounds
marked-fits None m few = omega arith
marked-fits (Some k) true few = omega (arith, few k refl)
marked-fits (Some k) false few = omega (arith, few k refl)

pub doubled_unmarked : (o : Option ℕ) → Few o → doubled (rounds_or_never o) ≡ marked_rounds o false
unfolding marked_rounds
doubled_unmarked None few = refl
doubled_unmarked (Some k) few =
    let b = few k refl in
    rw (ne_eqb k all_ones (λ e. omega arith)) (omega arith)

pub halved-marked : (o : Option ℕ) (m : Bool) → Few o → halved (marked_rounds o m) ≡ rounds_or_never o
unfolding marked_rounds
halved-marked None m few = refl
halved-marked (Some k) true few =
    let b = few k refl in
    rw (ne_eqb (k * 2 + 1) all_ones (λ e. omega arith)) (omega arith)
halved-marked (Some k) false few =
    let b = few k refl in
    rw (ne_eqb (k * 2) all_ones (λ e. omega arith)) (omega arith)

pub with_mark-marked : (o : Option ℕ) (m : Bool) → with_mark (marked_rounds o m) ≡ marked_rounds o true
unfolding marked_rounds
with_mark-marked None m = refl
with_mark-marked (Some k) true = omega arith
with_mark-marked (Some k) false = omega arith

pub is_marked-marked : (k : ℕ) (m : Bool) → k < 2 ^ 30 → is_marked (marked_rounds (Some k) m) ≡ m
unfolding marked_rounds
is_marked-marked k true b =
    rw (eq-eqb ((k * 2 + 1) % 2) 1 (omega arith), ne_eqb (k * 2 + 1) all_ones (λ e. omega arith))
is_marked-marked k false b = rw (ne_eqb (k * 2 % 2) 1 (λ e. omega arith))

pub is_marked_never : (m : Bool) → is_marked (marked_rounds None m) ≡ false
unfolding marked_rounds
is_marked_never m = refl

pub rounds_of-marked : (k : ℕ) (m : Bool) → marked_rounds (Some k) m / 2 ≡ k
unfolding marked_rounds
rounds_of-marked k true = omega arith
rounds_of-marked k false = omega arith

-- fewer rounds are fewer rounds doubled, marked or not
pub marked-below : (o : Option ℕ) (m : Bool) (k : ℕ) → k < 2 ^ 30
    → ltb (marked_rounds o m) (suc k * 2) ≡ ltb (rounds_or_never o) (suc k)
unfolding marked_rounds
marked-below None m k b = le-ltb all_ones (suc k * 2) (omega arith) ∙ sym (le-ltb all_ones (suc k) (omega arith))
marked-below (Some j) m k b = at (dec_le j k) m
  where
    at : Dec (j ≤ k) → (m : Bool) → ltb (marked_rounds (Some j) m) (suc k * 2) ≡ ltb j (suc k)
    at (yes c) true = lt-ltb (j * 2 + 1) (suc k * 2) (omega arith) ∙ sym (lt-ltb j (suc k) (omega arith))
    at (yes c) false = lt-ltb (j * 2) (suc k * 2) (omega arith) ∙ sym (lt-ltb j (suc k) (omega arith))
    at (no c) true = le-ltb (j * 2 + 1) (suc k * 2) (omega arith) ∙ sym (le-ltb j (suc k) (omega arith))
    at (no c) false = le-ltb (j * 2) (suc k * 2) (omega arith) ∙ sym (le-ltb j (suc k) (omega arith))

-- k rounds and a mark
pub marked_is : (o : Option ℕ) (m : Bool) (k : ℕ) → k < 2 ^ 30
    → (eqb (marked_rounds o m) (k * 2 + 1) ≡ true) ↔ ((o ≡ Some k) × (m ≡ true))
unfolding marked_rounds
marked_is None m k b = (
  λ h. let e = eqb-true all_ones (k * 2 + 1) h in absurd (omega arith),
  λ (e, d). clash (cc),
)
marked_is (Some j) true k b = (
  λ h. let e = eqb-true (j * 2 + 1) (k * 2 + 1) h in (ap {B = Option ℕ} Some (omega arith), refl),
  λ (e, d). let s : j ≡ k = cc in eq-eqb (j * 2 + 1) (k * 2 + 1) (omega arith),
)
marked_is (Some j) false k b = (
  λ h. let e = eqb-true (j * 2) (k * 2 + 1) h in absurd (omega arith),
  λ (e, d). absurd (false≢true d),
)
