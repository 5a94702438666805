-- Each refusal has a number of its own, and none has 0. Assumes nothing.
use Prim.Native.Nat.{ℕ, ◌≤◌}
use mathlib.Core.Path.{◌≡◌, refl, sym, ◌∙◌, ap}
use mathlib.Core.List.{List, [], ◌∷◌}
use native.Mathlib.Omega.{arith}
use lib.ListN.{get_or}
use Rattle.task.specs.Refusals.{number_of}
use Rattle.task.specs.declared.Refusal.{Refusal}
use Rattle.task.specs.declared.Refusal.TheVariants.{UnknownKind, CutShort, Misplaced, BadHeader, BadState, BadEdge, BrokenRule, EdgesNotRising, TooManyEdges, BadPair, TableTooSmall, BufferTooSmall, Malformed, NotAccepted, BadHistory}

-- the refusals by their numbers
numbered : List Refusal
numbered = UnknownKind ∷ UnknownKind ∷ CutShort ∷ Misplaced ∷ BadHeader ∷ BadState ∷ BadEdge ∷ BrokenRule ∷ EdgesNotRising ∷ TooManyEdges ∷ BadPair ∷ TableTooSmall ∷ BufferTooSmall ∷ Malformed ∷ NotAccepted ∷ BadHistory ∷ []

numbered-at : (r : Refusal) → get_or numbered (number_of r) UnknownKind ≡ r
unfolding numbered
numbered-at UnknownKind = refl
numbered-at CutShort = refl
numbered-at Misplaced = refl
numbered-at BadHeader = refl
numbered-at BadState = refl
numbered-at BadEdge = refl
numbered-at BrokenRule = refl
numbered-at EdgesNotRising = refl
numbered-at TooManyEdges = refl
numbered-at BadPair = refl
numbered-at TableTooSmall = refl
numbered-at BufferTooSmall = refl
numbered-at Malformed = refl
numbered-at NotAccepted = refl
numbered-at BadHistory = refl

pub number_of_injective : (r s : Refusal) → number_of r ≡ number_of s → r ≡ s
number_of_injective r s e = sym (numbered-at r) ∙ ap (λ (n : ℕ). get_or numbered n UnknownKind) e ∙ numbered-at s

pub number_of-least : (r : Refusal) → 1 ≤ number_of r
number_of-least UnknownKind = omega arith
number_of-least CutShort = omega arith
number_of-least Misplaced = omega arith
number_of-least BadHeader = omega arith
number_of-least BadState = omega arith
number_of-least BadEdge = omega arith
number_of-least BrokenRule = omega arith
number_of-least EdgesNotRising = omega arith
number_of-least TooManyEdges = omega arith
number_of-least BadPair = omega arith
number_of-least TableTooSmall = omega arith
number_of-least BufferTooSmall = omega arith
number_of-least Malformed = omega arith
number_of-least NotAccepted = omega arith
number_of-least BadHistory = omega arith
