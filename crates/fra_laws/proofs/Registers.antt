-- What it means that partners match the registers of two sets, and what becomes of the partners in a round, for any register
-- count. Assumes nothing.
use Prim.Native.Nat.{ℕ, zero, suc, ◌+◌, ◌≤◌, ◌<◌}
use mathlib.Core.Path.{◌≡◌, refl, sym, ◌∙◌, ap}
use mathlib.Core.Logic.{◌⊎◌, inl, inr}
use mathlib.Core.Bool.{Bool, true, false, not, ◌&&◌, false≢true}
use mathlib.Core.List.Memᴰ
use mathlib.Core.List.{List, [], ◌∷◌}
use native.Mathlib.Nat.{add-zero, add-suc, suc-add, suc_inj}
use native.Mathlib.Omega.{arith}
use native.Mathlib.Decide.{ℕ_discrete}
use lib.ListN.{length, get_or}
use lib.Dec.{eqb, eqb-suc-zero}
use borrow.Author.Tests.{eqb-true, eq-eqb, ne_eqb, not-true}
use Rattle.fra.specs.Lists.{◌∈◌, any}
use Rattle.fra.specs.Registers.{has}
use Rattle.fra.specs.Position.{right_partner, left_partner, matching}
use Rattle.fra.specs.Game.{rejoined, remaining, matched}
use Rattle.fra_laws.proofs.Tests.{and_left, and_right, or_cases, fails_unless}
use Rattle.fra_laws.proofs.Lists.{any-equal, none_equal}

-- registers are numbered from 1
pub has_positive : (set i : ℕ) → has set i ≡ true → 1 ≤ i
unfolding has
has_positive set zero h = absurd (false≢true h)
has_positive set (suc i) h = omega arith

-- ── Matchings ──

-- "partners join registers of the two states' sets and no right register is used twice"
pub record Matching (left right : ℕ) (partners : List ℕ) : Type 0 where
  pub left-has : (i : ℕ) → 1 ≤ right_partner partners i → has left i ≡ true
  pub right-has : (i : ℕ) → 1 ≤ right_partner partners i → has right (right_partner partners i) ≡ true
  pub injective : (i j : ℕ) → 1 ≤ right_partner partners i → right_partner partners i ≡ right_partner partners j → i ≡ j

get_d_member : (l : List ℕ) (k : ℕ) → 1 ≤ get_or l k 0 → get_or l k 0 ∈ l
get_d_member [] k h = absurd (omega arith)
get_d_member (x ∷ l) zero h = Memᴰ.head refl
get_d_member (x ∷ l) (suc k) h = Memᴰ.tail (get_d_member l k h)

member_get_d : {x : ℕ} {l : List ℕ} → x ∈ l → (k : ℕ) × (get_or l k 0 ≡ x)
member_get_d (Memᴰ.head e) = (0, sym e)
member_get_d (Memᴰ.tail m) = let w = member_get_d m in (suc w.0, w.1)

module _ (left right : ℕ) where
  -- what partner x of left register i fulfils, if xs are the partners of the registers after i
  abbrev Joined : ℕ → ℕ → List ℕ → Type 0
  Joined i x xs = (has left i ≡ true) × (has right x ≡ true) × (x ∈ xs → ⊥)

  matching-head : (i x : ℕ) (xs : List ℕ) → matching left right i (x ∷ xs) ≡ true → 1 ≤ x → Joined i x xs
  unfolding matching
  matching-head i x xs m h =
      step (or_cases (eqb x 0) (has left i && has right x && not (any (eqb x) xs)) (search and_left))
    where
      step : (eqb x 0 ≡ true) ⊎ ((has left i && has right x && not (any (eqb x) xs)) ≡ true) → Joined i x xs
      step (inl e) = let z = eqb-true x 0 e in absurd (omega arith)
      step (inr e) =
          let unused = not-true (any (eqb x) xs) (search (and_left, and_right)) in
          (search (and_left, and_right), search (and_left, and_right), none_equal x xs unused)

  matching_tail : (i x : ℕ) (xs : List ℕ) → matching left right i (x ∷ xs) ≡ true → matching left right (suc i) xs ≡ true
  unfolding matching
  matching_tail i x xs m = search (and_left, and_right)

  matching_cons : (i x : ℕ) (xs : List ℕ) → (1 ≤ x → Joined i x xs) → matching left right (suc i) xs ≡ true
      → matching left right i (x ∷ xs) ≡ true
  unfolding matching
  matching_cons i zero xs joined rest = rest
  matching_cons i (suc x) xs joined rest =
      let j = joined (omega arith) in
      rw (eqb-suc-zero x, j.0, j.1, fails_unless (any (eqb (suc x)) xs) (λ h. j.2 (any-equal (suc x) xs h))) rest

  -- the facts, for partners from left register i on
  matching-left : (i : ℕ) (l : List ℕ) → matching left right i l ≡ true
      → (k : ℕ) → 1 ≤ get_or l k 0 → has left (i + k) ≡ true
  matching-left i [] m k h = absurd (omega arith)
  matching-left i (x ∷ xs) m zero h = rw add-zero (matching-head i x xs m h).0
  matching-left i (x ∷ xs) m (suc k) h = rw (add-suc, ← (suc-add i k)) (matching-left (suc i) xs (matching_tail i x xs m) k h)

  matching-right : (i : ℕ) (l : List ℕ) → matching left right i l ≡ true
      → (k : ℕ) → 1 ≤ get_or l k 0 → has right (get_or l k 0) ≡ true
  matching-right i [] m k h = absurd (omega arith)
  matching-right i (x ∷ xs) m zero h = (matching-head i x xs m h).1
  matching-right i (x ∷ xs) m (suc k) h = matching-right (suc i) xs (matching_tail i x xs m) k h

  matching_injective : (i : ℕ) (l : List ℕ) → matching left right i l ≡ true
      → (k j : ℕ) → 1 ≤ get_or l k 0 → get_or l k 0 ≡ get_or l j 0 → k ≡ j
  matching_injective i [] m k j h e = absurd (omega arith)
  matching_injective i (x ∷ xs) m zero zero h e = refl
  matching_injective i (x ∷ xs) m zero (suc j) h e =
      absurd ((matching-head i x xs m h).2 (Memᴰ.cast e (get_d_member xs j (omega arith))))
  matching_injective i (x ∷ xs) m (suc k) zero h e =
      absurd ((matching-head i x xs m (omega arith)).2 (Memᴰ.cast (sym e) (get_d_member xs k h)))
  matching_injective i (x ∷ xs) m (suc k) (suc j) h e =
      ap suc (matching_injective (suc i) xs (matching_tail i x xs m) k j h e)

  -- and back
  matching-from : (i : ℕ) (l : List ℕ)
      → ((k : ℕ) → 1 ≤ get_or l k 0 → has left (i + k) ≡ true)
      → ((k : ℕ) → 1 ≤ get_or l k 0 → has right (get_or l k 0) ≡ true)
      → ((k j : ℕ) → 1 ≤ get_or l k 0 → get_or l k 0 ≡ get_or l j 0 → k ≡ j)
      → matching left right i l ≡ true
  unfolding matching
  matching-from i [] a b c = refl
  matching-from i (x ∷ xs) a b c =
      matching_cons i x xs (λ h. (rw add-zero at (a 0 h), b 0 h, λ m. later m h))
      (matching-from (suc i) xs (λ k h. rw (suc-add, ← (add-suc i k)) (a (suc k) h)) (λ k h. b (suc k) h)
      (λ k j h e. suc_inj (c (suc k) (suc j) h e)))
    where
      later : x ∈ xs → 1 ≤ x → ⊥
      later m h = let w = member_get_d m in let z = c 0 (suc w.0) h (sym w.1) in omega arith

pub matching_facts : (left right : ℕ) (partners : List ℕ) → matching left right 1 partners ≡ true → Matching left right partners
unfolding right_partner
matching_facts left right partners m = record { left-has = a; right-has = b; injective = c }
  where
    a : (i : ℕ) → 1 ≤ right_partner partners i → has left i ≡ true
    a zero h = absurd (omega arith)
    a (suc k) h = let e : 1 + k ≡ suc k = omega arith in rw e at (matching-left left right 1 partners m k h)

    b : (i : ℕ) → 1 ≤ right_partner partners i → has right (right_partner partners i) ≡ true
    b zero h = absurd (omega arith)
    b (suc k) h = matching-right left right 1 partners m k h

    c : (i j : ℕ) → 1 ≤ right_partner partners i → right_partner partners i ≡ right_partner partners j → i ≡ j
    c zero j h e = absurd (omega arith)
    c (suc k) zero h e = absurd (omega arith)
    c (suc k) (suc j) h e = ap suc (matching_injective left right 1 partners m k j h e)

pub matching_intro : (left right : ℕ) (partners : List ℕ) → Matching left right partners → matching left right 1 partners ≡ true
unfolding right_partner
matching_intro left right partners m =
    matching-from left right 1 partners
    (λ k h. let e : 1 + k ≡ suc k = omega arith in rw e (m.left-has (suc k) h))
    (λ k. m.right-has (suc k))
    (λ k j h e. suc_inj (m.injective (suc k) (suc j) h e))

-- ── Partners seen from the right ──

-- a left partner, counted from i, is found at its place
left-found : (i : ℕ) (l : List ℕ) (j : ℕ) → 1 ≤ left_partner i l j → (k : ℕ) × (left_partner i l j ≡ i + k) × (get_or l k 0 ≡ j)
unfolding left_partner
left-found i [] j h = absurd (omega arith)
left-found i (x ∷ xs) j h = step (eqb x j) refl (left-found (suc i) xs j)
  where
    step : (b : Bool) → eqb x j ≡ b
        → (1 ≤ left_partner (suc i) xs j → (k : ℕ) × (left_partner (suc i) xs j ≡ suc i + k) × (get_or xs k 0 ≡ j))
        → (k : ℕ) × (left_partner i (x ∷ xs) j ≡ i + k) × (get_or (x ∷ xs) k 0 ≡ j)
    step true e rest = (0, rw (e, left_partner) (omega arith), eqb-true x j e)
    step false e rest =
        let w = rest (rw (e, left_partner) at h) in
        (suc w.0, rw (e, left_partner) (omega (arith, w.1)), w.2)

-- and there is one, where a left register has that partner
left-exists : {j : ℕ} (i : ℕ) {l : List ℕ} → 1 ≤ i → j ∈ l → 1 ≤ left_partner i l j
unfolding left_partner
left-exists {j} i p (Memᴰ.head {x = x} e) = rw (eq-eqb x j (sym e), left_partner) p
left-exists {j} i p (Memᴰ.tail {x = x} {xs = xs} m) = step (eqb x j) refl (left-exists (suc i) (omega arith) m)
  where
    step : (b : Bool) → eqb x j ≡ b → 1 ≤ left_partner (suc i) xs j → 1 ≤ left_partner i (x ∷ xs) j
    step true e rest = rw (e, left_partner) p
    step false e rest = rw (e, left_partner) rest

-- the left partner of j has partner j
pub left_partner-sound : (partners : List ℕ) (i j : ℕ) → 1 ≤ i → left_partner 1 partners j ≡ i → right_partner partners i ≡ j
unfolding right_partner
left_partner-sound partners i j h e =
    let w = left-found 1 partners j (rw e h) in
    let f : i ≡ suc w.0 = omega (arith, w.1) in
    rw f w.2

pub right_of-left : (partners : List ℕ) (j : ℕ) → 1 ≤ left_partner 1 partners j
    → right_partner partners (left_partner 1 partners j) ≡ j
right_of-left partners j h = left_partner-sound partners (left_partner 1 partners j) j h refl

-- the partner of i has a left partner
pub left_partner-exists : (partners : List ℕ) (i j : ℕ) → 1 ≤ j → right_partner partners i ≡ j → 1 ≤ left_partner 1 partners j
unfolding right_partner
left_partner-exists partners zero j h e = absurd (omega arith)
left_partner-exists partners (suc k) j h e =
    left-exists 1 (omega arith) (Memᴰ.cast (sym e) (get_d_member partners k (rw e h)))

-- and that is i
pub left_of-right : {left right : ℕ} {partners : List ℕ} → Matching left right partners → (i : ℕ) → 1 ≤ right_partner partners i
    → left_partner 1 partners (right_partner partners i) ≡ i
left_of-right {partners = partners} m i h =
    let e = right_of-left partners (right_partner partners i) (left_partner-exists partners i _ h refl) in
    m.injective (left_partner 1 partners (right_partner partners i)) i (rw e h) e

-- ── After a round ──

-- register a gets partner b, another register loses partner b, and all else stays
pub rejoined-written : (a b x : ℕ) → rejoined a b a x ≡ b
unfolding rejoined
rejoined-written a b x = rw (eq-eqb a a refl)

pub rejoined-taken : (a b i : ℕ) → (i ≡ a → ⊥) → rejoined a b i b ≡ 0
unfolding rejoined
rejoined-taken a b i d = rw (ne_eqb i a d, eq-eqb b b refl)

pub rejoined-kept : (a b i x : ℕ) → (i ≡ a → ⊥) → (x ≡ b → ⊥) → rejoined a b i x ≡ x
unfolding rejoined
rejoined-kept a b i x d e = rw (ne_eqb i a d, ne_eqb x b e)

pub remaining-inside : (left right i x : ℕ) → has left i ≡ true → has right x ≡ true → remaining left right i x ≡ x
unfolding remaining
remaining-inside left right i x p q = rw (p, q)

-- a partner that remains is in the right set, and its register in the left one
pub remaining_elim : (left right i x : ℕ) → 1 ≤ remaining left right i x
    → (has left i ≡ true) × (has right x ≡ true) × (remaining left right i x ≡ x)
unfolding remaining
remaining_elim left right i x h = step (has left i) (has right x) refl refl
  where
    step : (a b : Bool) → has left i ≡ a → has right x ≡ b
        → (has left i ≡ true) × (has right x ≡ true) × (remaining left right i x ≡ x)
    step true true p q = (p, q, remaining-inside left right i x p q)
    step true false p q = let z : 1 ≤ 0 = rw (p, q) at h in absurd (omega arith)
    step false b p q = let z : 1 ≤ 0 = rw p at h in absurd (omega arith)

pub matched-length : (left right a b i : ℕ) (l : List ℕ) → length (matched left right a b i l) ≡ length l
unfolding matched
matched-length left right a b i [] = refl
matched-length left right a b i (x ∷ xs) = ap suc (matched-length left right a b (suc i) xs)

matched-at : (left right a b i : ℕ) (l : List ℕ) (k : ℕ) → k < length l
    → get_or (matched left right a b i l) k 0 ≡ remaining left right (i + k) (rejoined a b (i + k) (get_or l k 0))
unfolding matched
matched-at left right a b i [] k h = absurd (omega arith)
matched-at left right a b i (x ∷ xs) zero h = rw add-zero
matched-at left right a b i (x ∷ xs) (suc k) h = matched-at left right a b (suc i) xs k (omega arith) ∙ rw (suc-add, add-suc)

-- only registers 1 to r have partners
pub partner-place : (partners : List ℕ) (i : ℕ) → 1 ≤ right_partner partners i → (1 ≤ i) × (i ≤ length partners)
unfolding right_partner
partner-place partners zero h = absurd (omega arith)
partner-place [] (suc k) h = absurd (omega arith)
partner-place (x ∷ xs) (suc zero) h = (omega arith, omega arith)
partner-place (x ∷ xs) (suc (suc k)) h = let w = partner-place xs (suc k) h in (omega arith, omega arith)

-- the partner of register i after a round
pub matched-partner : (left right a b : ℕ) (partners : List ℕ) (i : ℕ) → 1 ≤ i → i ≤ length partners
    → right_partner (matched left right a b 1 partners) i ≡ remaining left right i (rejoined a b i (right_partner partners i))
unfolding right_partner
matched-partner left right a b partners zero h k = absurd (omega arith)
matched-partner left right a b partners (suc i) h k =
    let e : 1 + i ≡ suc i = omega arith in
    rw e at (matched-at left right a b 1 partners i k)

-- left register i, whose partner was x, has partner j after left register a and right register b got the number: the two
-- are a and b, or neither is and j is x
abbrev pub Rejoined : ℕ → ℕ → ℕ → ℕ → ℕ → Type 0
Rejoined a b i x j = ((i ≡ a) × (j ≡ b)) ⊎ ((i ≡ a → ⊥) × (j ≡ b → ⊥) × (x ≡ j))

rejoined_elim : (a b i x j : ℕ) → 1 ≤ j → rejoined a b i x ≡ j → Rejoined a b i x j
rejoined_elim a b i x j h q = step (ℕ_discrete i a) (ℕ_discrete x b)
  where
    step : Dec (i ≡ a) → Dec (x ≡ b) → Rejoined a b i x j
    step (yes d) e = inl (d, sym q ∙ rw d (rejoined-written a b x))
    step (no d) (yes e) = let z : 0 ≡ j = rw (e, rejoined-taken a b i d) at q in absurd (omega arith)
    step (no d) (no e) = let f = sym (rejoined-kept a b i x d e) ∙ q in inr (d, λ s. e (f ∙ s), f)

rejoined_intro : (a b i x j : ℕ) → Rejoined a b i x j → rejoined a b i x ≡ j
rejoined_intro a b i x j (inl (d, e)) = rw d (rejoined-written a b x) ∙ sym e
rejoined_intro a b i x j (inr (d, e, f)) = rejoined-kept a b i x d (λ s. e (sym f ∙ s)) ∙ f

module _ (left right a b : ℕ) (partners : List ℕ) where
  -- which registers are partners after a round: they are in the to sets, and rejoined
  pub matched_elim : (i j : ℕ) → 1 ≤ j → right_partner (matched left right a b 1 partners) i ≡ j
      → (has left i ≡ true) × (has right j ≡ true) × Rejoined a b i (right_partner partners i) j
  matched_elim i j h e =
      let w = partner-place (matched left right a b 1 partners) i (rw e h) in
      let q = sym (matched-partner left right a b partners i w.0 (rw matched-length at w.1)) ∙ e in
      let (c, d, f) = remaining_elim left right i (rejoined a b i (right_partner partners i)) (rw q h) in
      let s = sym f ∙ q in
      (c, rw s at d, rejoined_elim a b i (right_partner partners i) j h s)

  pub matched_intro : (i j : ℕ) → i ≤ length partners → has left i ≡ true → has right j ≡ true
      → Rejoined a b i (right_partner partners i) j
      → right_partner (matched left right a b 1 partners) i ≡ j
  matched_intro i j h c d e =
      let s = rejoined_intro a b i (right_partner partners i) j e in
      matched-partner left right a b partners i (has_positive left i c) h
      ∙ remaining-inside left right i (rejoined a b i (right_partner partners i)) c (rw s d)
      ∙ s

-- after a round, partners join registers of the to sets and no right register is used twice
pub matched-matching : {from-left from-right : ℕ} {partners : List ℕ} → Matching from-left from-right partners
    → (left right a b : ℕ) → Matching left right (matched left right a b 1 partners)
matched-matching {partners = partners} m left right a b =
    record {
      left-has = λ i h. (at i (new i) h refl).0;
      right-has = λ i h. (at i (new i) h refl).1;
      injective = λ i j h e. same i j (new i) h (at i (new i) h refl).2 (at j (new i) h (sym e)).2;
    }
  where
    old : ℕ → ℕ
    old = right_partner partners

    new : ℕ → ℕ
    new = right_partner (matched left right a b 1 partners)

    at : (i j : ℕ) → 1 ≤ j → new i ≡ j → (has left i ≡ true) × (has right j ≡ true) × Rejoined a b i (old i) j
    at = matched_elim left right a b partners

    same : (i j y : ℕ) → 1 ≤ y → Rejoined a b i (old i) y → Rejoined a b j (old j) y → i ≡ j
    same i j y h (inl p) (inl q) = p.0 ∙ sym q.0
    same i j y h (inl p) (inr q) = absurd (q.1 p.1)
    same i j y h (inr p) (inl q) = absurd (p.1 q.1)
    same i j y h (inr p) (inr q) = m.injective i j (rw p.2 h) (p.2 ∙ sym q.2)
