-- A list of partners, those after a round among them, written place by place. Assumes nothing.
use Prim.Native.Nat.{ℕ, suc, ◌+◌, ◌≤◌, ◌<◌}
use mathlib.Core.Path.{◌≡◌, sym, ◌∙◌}
use mathlib.Core.List.{List}
use native.Mathlib.Numerals.{add-one}
use native.Mathlib.Omega.{arith}
use lib.ListN.{length, get_or, take, set}
use lib.Seq.{take-suc, take-suc-set, take_all}
use Rattle.fra.specs.Position.{right_partner}
use Rattle.fra.specs.Game.{rejoined, remaining, matched}
use Rattle.fra_laws.proofs.Registers.{matched-length, matched-partner}

module _ (wanted new : List ℕ) (i : ℕ) (same : length new ≡ length wanted) (written : take i new ≡ take i wanted) where
  -- written up to place i, and one more
  pub written-more : i < length wanted → (x : ℕ) → get_or wanted i 0 ≡ x → take (i + 1) (set new i x) ≡ take (i + 1) wanted
  written-more h x e =
      rw (add-one i, take-suc-set new i x (omega arith), take-suc wanted i 0 h, written, e)

  -- written up to the end
  pub written_all : length wanted ≤ i → new ≡ wanted
  written_all h = sym (take_all i new (omega arith)) ∙ written ∙ take_all i wanted h

module _ (left right a b : ℕ) (l new : List ℕ) (i : ℕ) (same : length new ≡ length l)
    (written : take i new ≡ take i (matched left right a b 1 l))
  where
    long : length (matched left right a b 1 l) ≡ length l
    long = matched-length left right a b 1 l

    pub matched-more : i < length l
        → take (i + 1) (set new i (remaining left right (i + 1) (rejoined a b (i + 1) (get_or l i 0))))
        ≡ take (i + 1) (matched left right a b 1 l)
    unfolding right_partner
    matched-more h =
        written-more (matched left right a b 1 l) new i (same ∙ sym long) written (omega (arith, long)) _
        (rw (add-one i) (matched-partner left right a b l (suc i) (omega arith) h))

    pub matched-all : length l ≤ i → new ≡ matched left right a b 1 l
    matched-all h = written_all (matched left right a b 1 l) new i (same ∙ sym long) written (omega (arith, long))
