-- The numbers that two readers hold together after a round: no more than before where one of them held the number taken, and at
-- most one more otherwise. For any register count. Assumes nothing.
use Prim.Native.Nat.{ℕ, zero, suc, ◌≤◌}
use mathlib.Core.Path.{◌≡◌, refl, sym, ◌∙◌, ap}
use mathlib.Core.Logic.{inl, inr}
use mathlib.Core.Bool.{true}
use mathlib.Core.List.Memᴰ
use mathlib.Core.List.{List, ◌∷◌}
use native.Mathlib.Omega.{arith}
use native.Mathlib.Decide.{ℕ_discrete}
use lib.ListN.{length}
use Rattle.fra.specs.Lists.{◌∈◌}
use Rattle.fra.specs.Registers.{has}
use Rattle.fra.specs.Position.{right_partner, left_partner, held_in}
use Rattle.fra.specs.Game.{matched}
use Rattle.fra.specs.declared.Side.{Side}
use Rattle.fra.specs.declared.Side.TheVariants.{Left, Right}
use Rattle.fra_laws.proofs.Tests.{clash}
use Rattle.fra_laws.proofs.Registers.{has_positive, Matching, left_partner-sound, left_partner-exists, partner-place, Rejoined, matched-length, matched_intro}
use Rattle.fra_laws.proofs.HeldNumbers.{Stands, standing, standing-length, standing_intro, held-at-most}

-- the register that stands for the number of a right register whose left partner is k
abbrev stands_by : ℕ → ℕ → Side × ℕ
stands_by j zero = (Right, j)
stands_by j (suc k) = (Left, suc k)

-- the register that stands for a register's number
abbrev pub stand_in : List ℕ → Side → ℕ → Side × ℕ
stand_in partners Left i = (Left, i)
stand_in partners Right j = stands_by j (left_partner 1 partners j)

module _ {left right : ℕ} {partners : List ℕ} (matches : Matching left right partners) where
  abbrev InSet : Side → ℕ → Type 0
  InSet Left i = has left i ≡ true
  InSet Right j = has right j ≡ true

  -- it is one that stands for a number
  pub stand_in_stands : (s : Side) (i : ℕ) → InSet s i → i ≤ length partners
      → stand_in partners s i ∈ standing left right partners
  stand_in_stands Left i h b = standing_intro left right partners Left i (h, b)
  stand_in_stands Right j h b = step (left_partner 1 partners j) refl
    where
      step : (k : ℕ) → left_partner 1 partners j ≡ k → stands_by j k ∈ standing left right partners
      step zero e = standing_intro left right partners Right j (h, e, b)
      step (suc k) e =
          let p = left_partner-sound partners (suc k) j (omega arith) e in
          let joined : 1 ≤ right_partner partners (suc k) = rw p (has_positive right j h) in
          standing_intro left right partners Left (suc k)
          (matches.left-has (suc k) joined, (partner-place partners (suc k) joined).1)

  -- two right registers have two numbers
  pub stand_in_apart : (i j : ℕ) → stand_in partners Right i ≡ stand_in partners Right j → i ≡ j
  stand_in_apart i j e = step (left_partner 1 partners i) (left_partner 1 partners j) refl refl e
    where
      step : (k m : ℕ) → left_partner 1 partners i ≡ k → left_partner 1 partners j ≡ m → stands_by i k ≡ stands_by j m → i ≡ j
      step zero zero a b q = ap (λ (x : Side × ℕ). x.1) q
      step zero (suc m) a b q = let z : Right ≡ Left = ap (λ (x : Side × ℕ). x.0) q in clash (cc)
      step (suc k) zero a b q = let z : Left ≡ Right = ap (λ (x : Side × ℕ). x.0) q in clash (cc)
      step (suc k) (suc m) a b q =
          let same : suc k ≡ suc m = ap (λ (x : Side × ℕ). x.1) q in
          sym (left_partner-sound partners (suc k) i (omega arith) a)
          ∙ rw same (left_partner-sound partners (suc m) j (omega arith) b)

  -- a left and a right register with one number are partners
  pub stand_in-shared : (i j : ℕ) → 1 ≤ j → stand_in partners Left i ≡ stand_in partners Right j → right_partner partners i ≡ j
  stand_in-shared i j h e = step (left_partner 1 partners j) refl e
    where
      step : (k : ℕ) → left_partner 1 partners j ≡ k → (Left, i) ≡ stands_by j k → right_partner partners i ≡ j
      step zero a q = let z : Left ≡ Right = ap (λ (x : Side × ℕ). x.0) q in clash (cc)
      step (suc k) a q =
          let same : i ≡ suc k = ap (λ (x : Side × ℕ). x.1) q in
          rw same (left_partner-sound partners (suc k) j (omega arith) a)

-- ── After a round ──

-- x names the number taken: of the registers before the round none has that name but left register a and right register b
pub record Taken (left right : ℕ) (partners : List ℕ) (a b : ℕ) (x : Side × ℕ) : Type 0 where
  pub no_left : (i : ℕ) → has left i ≡ true → (i ≡ a → ⊥) → (Left, i) ≡ x → ⊥
  pub no_right : (j : ℕ) → has right j ≡ true → (j ≡ b → ⊥) → stand_in partners Right j ≡ x → ⊥

-- the registers of the to sets but a and b were in the from sets
module _ {left right : ℕ} {partners : List ℕ} (matches : Matching left right partners) (to-left to-right a b : ℕ)
    (from-left : (i : ℕ) → has to-left i ≡ true → (i ≡ a → ⊥) → has left i ≡ true)
    (from-right : (j : ℕ) → has to-right j ≡ true → (j ≡ b → ⊥) → has right j ≡ true)
  where
    abbrev after : List ℕ
    after = matched to-left to-right a b 1 partners

    long : length after ≡ length partners
    long = matched-length to-left to-right a b 1 partners

    abbrev StandsAfter : Side → ℕ → Type 0
    StandsAfter = Stands to-left to-right after

    -- the number taken has its name, and the other numbers keep theirs
    abbrev named : Side × ℕ → Side → (i : ℕ) {c : ℕ} → Dec (i ≡ c) → Side × ℕ
    named x s i (yes e) = x
    named x s i (no n) = stand_in partners s i

    abbrev name : Side × ℕ → Side → ℕ → Side × ℕ
    name x Left i = named x Left i (ℕ_discrete i a)
    name x Right j = named x Right j (ℕ_discrete j b)

    -- registers that stand for numbers on either side are not partners
    not_partners : (i j : ℕ) → StandsAfter Left i → StandsAfter Right j → Rejoined a b i (right_partner partners i) j → ⊥
    not_partners i j (h, bound) (k, alone, _) r =
        let joined = matched_intro to-left to-right a b partners i j (omega (arith, long)) h k r in
        let some = left_partner-exists after i j (has_positive to-right j k) joined in
        omega arith

    module _ (x : Side × ℕ) (taken : Taken left right partners a b x) where
      across : (i j : ℕ) → StandsAfter Left i → StandsAfter Right j → name x Left i ≡ name x Right j → ⊥
      across i j h k e = step (ℕ_discrete i a) (ℕ_discrete j b) e
        where
          step : (d : Dec (i ≡ a)) (f : Dec (j ≡ b)) → named x Left i d ≡ named x Right j f → ⊥
          step (yes d) (yes f) q = not_partners i j h k (inl (d, f))
          step (yes d) (no f) q = taken.no_right j (from-right j k.0 f) f (sym q)
          step (no d) (yes f) q = taken.no_left i (from-left i h.0 d) d q
          step (no d) (no f) q =
              not_partners i j h k (inr (d, f, stand_in-shared matches i j (has_positive to-right j k.0) q))

      same-side : (s : Side) (i j : ℕ) → StandsAfter s i → StandsAfter s j → name x s i ≡ name x s j → i ≡ j
      same-side Left i j h k e = step (ℕ_discrete i a) (ℕ_discrete j a) e
        where
          step : (d : Dec (i ≡ a)) (f : Dec (j ≡ a)) → named x Left i d ≡ named x Left j f → i ≡ j
          step (yes d) (yes f) q = d ∙ sym f
          step (yes d) (no f) q = absurd (taken.no_left j (from-left j k.0 f) f (sym q))
          step (no d) (yes f) q = absurd (taken.no_left i (from-left i h.0 d) d q)
          step (no d) (no f) q = ap (λ (y : Side × ℕ). y.1) q
      same-side Right i j h k e = step (ℕ_discrete i b) (ℕ_discrete j b) e
        where
          step : (d : Dec (i ≡ b)) (f : Dec (j ≡ b)) → named x Right i d ≡ named x Right j f → i ≡ j
          step (yes d) (yes f) q = d ∙ sym f
          step (yes d) (no f) q = absurd (taken.no_right j (from-right j k.0 f) f (sym q))
          step (no d) (yes f) q = absurd (taken.no_right i (from-right i h.0 d) d q)
          step (no d) (no f) q = stand_in_apart matches i j q

      apart : (s s' : Side) (i j : ℕ) → StandsAfter s i → StandsAfter s' j → name x s i ≡ name x s' j → (s ≡ s') × (i ≡ j)
      apart Left Left i j h k e = (refl, same-side Left i j h k e)
      apart Left Right i j h k e = absurd (across i j h k e)
      apart Right Left i j h k e = absurd (across j i k h (sym e))
      apart Right Right i j h k e = (refl, same-side Right i j h k e)

      -- the names are the old ones and x
      module _ (l : List (Side × ℕ)) (has_new : x ∈ l) (has_old : (y : Side × ℕ) → y ∈ standing left right partners → y ∈ l) where
        members : (s : Side) (i : ℕ) → StandsAfter s i → name x s i ∈ l
        members Left i (h, bound) = step (ℕ_discrete i a)
          where
            step : (d : Dec (i ≡ a)) → named x Left i d ∈ l
            step (yes d) = has_new
            step (no d) = has_old (Left, i) (stand_in_stands matches Left i (from-left i h d) (omega (arith, long)))
        members Right j (h, alone, bound) = step (ℕ_discrete j b)
          where
            step : (d : Dec (j ≡ b)) → named x Right j d ∈ l
            step (yes d) = has_new
            step (no d) =
                has_old (stand_in partners Right j) (stand_in_stands matches Right j (from-right j h d) (omega (arith, long)))

        held_after_lem : held_in to-left to-right after ≤ length l
        held_after_lem = held-at-most to-left to-right after (name x) l apart members

      -- one of the readers held the number taken
      pub held_no_more : x ∈ standing left right partners → held_in to-left to-right after ≤ held_in left right partners
      held_no_more m = rw (standing-length left right partners) at (held_after_lem (standing left right partners) m (λ y n. n))

    -- whatever number was taken
    pub held_one_more : held_in to-left to-right after ≤ suc (held_in left right partners)
    held_one_more =
        rw (standing-length left right partners) at
        (held_after_lem (Left, 0) nobody ((Left, 0) ∷ standing left right partners) (Memᴰ.head refl) (λ y n. Memᴰ.tail n))
      where
        -- registers are numbered from 1
        none : (j k : ℕ) → stands_by j k ≡ (Left, 0) → ⊥
        none j zero e = let z : Right ≡ Left = ap (λ (y : Side × ℕ). y.0) e in clash (cc)
        none j (suc k) e = let z : suc k ≡ 0 = ap (λ (y : Side × ℕ). y.1) e in omega arith

        nobody : Taken left right partners a b (Left, 0)
        nobody =
            record {
              no_left =
                  λ i h d e.
                  let z : i ≡ 0 = ap (λ (y : Side × ℕ). y.1) e in
                  let positive = has_positive left i h in
                  omega arith;
              no_right = λ j h d e. none j (left_partner 1 partners j) e;
            }
