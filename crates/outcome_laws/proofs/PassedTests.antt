-- What it says that a test passes: rules that take a goal or a fact about tests apart, for `simp`. Assumes nothing.
use Prim.Native.Nat.{ℕ, ◌<◌}
use mathlib.Core.Path.{◌≡◌}
use mathlib.Core.Logic.{◌↔◌}
use mathlib.Core.Bool.{Bool, true, false, not, ◌&&◌}
use mathlib.Core.List.{List}
use lib.Dec.{ltb, eqb}
use borrow.Author.Tests.{not-true, ltb-true, eqb-true, lt-ltb, eq-eqb}
use Rattle.fra.specs.Lists.{◌∈◌, any, all}
use Rattle.fra_laws.proofs.Tests.{and_left, and_right, and_intro}
use Rattle.fra_laws.proofs.Lists.{any_witness, any_intro, all-at, all_intro}

pub both_pass : (a b : Bool) → ((a && b) ≡ true) ↔ ((a ≡ true) × (b ≡ true))
both_pass a b = (λ h. (and_left a b h, and_right a b h), λ (p, q). and_intro a b p q)

pub not_passes : (a : Bool) → (not a ≡ true) ↔ (a ≡ false)
not_passes a = (not-true a, λ e. rw e)

pub all_pass : {A : Type 0} (f : A → Bool) (l : List A) → (all f l ≡ true) ↔ ((x : A) → x ∈ l → f x ≡ true)
all_pass f l = (λ h x m. all-at f h m, all_intro f l)

pub some_passes : {A : Type 0} (f : A → Bool) (l : List A) → (any f l ≡ true) ↔ (x : A) × (x ∈ l) × (f x ≡ true)
some_passes f l = (any_witness f l, λ (x, m, h). any_intro f m h)

pub equal_passes : (m n : ℕ) → (eqb m n ≡ true) ↔ (m ≡ n)
equal_passes m n = (eqb-true m n, eq-eqb m n)

pub less_passes : (m n : ℕ) → (ltb m n ≡ true) ↔ (m < n)
less_passes m n = (ltb-true m n, lt-ltb m n)

pub ruleset tests = (both_pass, not_passes, all_pass, some_passes, equal_passes, less_passes)
