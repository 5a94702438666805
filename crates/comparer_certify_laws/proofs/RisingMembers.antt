-- Rising lists of positions are known by their members. Assumes nothing.
use mathlib.Core.Path.{◌≡◌, refl, sym, ap₂}
use mathlib.Core.Logic.{⊎_elim, ◌↔◌}
use mathlib.Core.Bool.{true}
use mathlib.Core.List.Memᴰ
use mathlib.Core.List.{List, [], ◌∷◌}
use Rattle.fra.specs.Lists.{◌∈◌}
use Rattle.fra.specs.Position.{Rising, before}
use Rattle.fra.specs.declared.Position.{Position}
use Rattle.fra_laws.proofs.Tests.{not_both}
use Rattle.fra_laws.proofs.Order.{before_irreflexive, before_transitive}

-- no list has its first position again, nor one before it
first_once : (p q : Position) (l : List Position) → Rising (p ∷ l) → q ∈ p ∷ l → before q p ≡ true → ⊥
first_once p q l r m h =
    ⊎_elim (λ (e : q ≡ p). not_both (before p p) (rw e at h) (before_irreflexive p))
    (λ n. not_both (before p p) (before_transitive p q p (r.0 q n) h) (before_irreflexive p))
    (Memᴰ.cases_cons m)

pub rising-same : (l m : List Position) → Rising l → Rising m → ((p : Position) → (p ∈ l) ↔ (p ∈ m)) → l ≡ m
rising-same [] [] r s e = refl
rising-same [] (q ∷ m) r s e = absurd (Memᴰ.not-nil ((e q).1 (Memᴰ.head refl)))
rising-same (p ∷ l) [] r s e = absurd (Memᴰ.not-nil ((e p).0 (Memᴰ.head refl)))
rising-same (p ∷ l) (q ∷ m) r s e =
    ap₂ (λ (x : Position) (xs : List Position). x ∷ xs) first (rising-same l m r.1 s.1 others)
  where
    first : p ≡ q
    first =
        ⊎_elim (λ d. d)
        (λ n. absurd (first_once p q l r ((e q).1 (Memᴰ.head refl)) (s.0 p n)))
        (Memᴰ.cases_cons ((e p).0 (Memᴰ.head refl)))

    -- a member after the first of one list stands after the first of the other
    later : (p q x : Position) (l m : List Position) → Rising (p ∷ l) → p ≡ q → x ∈ l → x ∈ q ∷ m → x ∈ m
    later p q x l m r d n i =
        ⊎_elim (λ (c : x ≡ q). absurd (not_both (before p p) (rw (c, ← d) at (r.0 x n)) (before_irreflexive p))) (λ j. j)
        (Memᴰ.cases_cons i)

    others : (x : Position) → (x ∈ l) ↔ (x ∈ m)
    others x = (
      λ n. later p q x l m r first n ((e x).0 (Memᴰ.tail n)),
      λ n. later q p x m l s (sym first) n ((e x).1 (Memᴰ.tail n)),
    )
