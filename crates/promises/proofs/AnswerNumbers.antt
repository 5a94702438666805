-- The numbers of an answer tell which one it is. Assumes nothing.
use Prim.Native.Nat.{ℕ, ◌<◌}
use mathlib.Core.Path.{◌≡◌, refl, sym, ◌∙◌, ap}
use mathlib.Core.Logic.{◌↔◌}
use mathlib.Core.Bool.{cond}
use native.Mathlib.Omega.{arith}
use lib.Dec.{eqb}
use Rattle.std.specs.Prelude.{Result, Ok, Err}
use Rattle.task.specs.Refusals.{number_of}
use Rattle.task.specs.declared.Refusal.{Refusal}
use Rattle.outcome.specs.Verdicts.{kind_of, values_of, checked_values_of}
use Rattle.outcome.specs.declared.Verdict.{Verdict}
use Rattle.outcome.specs.declared.Verdict.TheVariants.{Equal, Differ, Follows, FallsShort}
use Rattle.outcome.specs.declared.Comparison.{Comparison}
use Rattle.outcome.specs.declared.Acceptance.{Acceptance}
use Rattle.fra_laws.proofs.Tests.{clash}

-- the verdict with a kind
abbrev with_kind : ℕ → Verdict
with_kind k = cond (eqb k 16) Equal (cond (eqb k 17) Differ (cond (eqb k 18) Follows FallsShort))

pub kind_fixes : (v w : Verdict) → kind_of v ≡ kind_of w → v ≡ w
kind_fixes v w e = sym (back v) ∙ ap with_kind e ∙ back w
  where
    back : (v : Verdict) → with_kind (kind_of v) ≡ v
    back Equal = refl
    back Differ = refl
    back Follows = refl
    back FallsShort = refl

pub refusal-number : (a : Result Comparison Refusal) (n : ℕ) → 0 < n
    → ((values_of a).refusal ≡ n) ↔ ((e : Refusal) × (number_of e ≡ n) × (a ≡ Err e))
refusal-number (Ok c) n least = (λ h. absurd (omega arith), λ (e, d, f). clash (cc))
refusal-number (Err e) n least = (λ h. (e, h, refl), λ (f, d, g). let same : e ≡ f = cc in ap number_of same ∙ d)

pub rejection_number : (a : Result Acceptance Refusal) (n : ℕ) → 0 < n
    → ((checked_values_of a).refusal ≡ n) ↔ ((e : Refusal) × (number_of e ≡ n) × (a ≡ Err e))
rejection_number (Ok c) n least = (λ h. absurd (omega arith), λ (e, d, f). clash (cc))
rejection_number (Err e) n least = (λ h. (e, h, refl), λ (f, d, g). let same : e ≡ f = cc in ap number_of same ∙ d)
