-- How many numbers two readers hold together, for any register count. Some registers stand for these numbers, one for each: the
-- left ones in their set, and the right ones in theirs whose number no left register holds. Assumes nothing.
use Prim.Native.Nat.{ℕ, ◌*◌, ◌≤◌}
use mathlib.Core.Path.{◌≡◌, sym, ◌∙◌, ap, subst}
use mathlib.Core.Logic.{⊎_elim}
use mathlib.Core.Bool.{Bool, true}
use mathlib.Core.List.Memᴰ
use mathlib.Core.List.{List, ◌++◌, map}
use native.Mathlib.Omega.{arith}
use lib.ListN.{length, length-append, length-map}
use lib.Dec.{eqb}
use borrow.Author.Tests.{eqb-true, eq-eqb}
use Rattle.fra.specs.Lists.{◌∈◌, Unique, keep, count}
use Rattle.fra.specs.Registers.{has}
use Rattle.fra.specs.Position.{left_partner, is_unshared, held_in}
use Rattle.fra.specs.declared.Side.{Side}
use Rattle.fra.specs.declared.Side.TheVariants.{Left, Right}
use Rattle.fra_laws.proofs.Tests.{and_left, and_right, and_intro, clash}
use Rattle.fra_laws.proofs.Lists.{keep_intro, keep_elim, count_intro, count_elim}
use Rattle.fra_laws.proofs.Lengths.{count-length, count-unique, keep_shortens, keep-unique, append-unique, map-unique, unique-length}
use Rattle.fra_laws.proofs.Registers.{has_positive}

kept-most : (f : ℕ → Bool) (n : ℕ) → length (keep f (count 1 n)) ≤ n
kept-most f n =
    let long = count-length 1 n in
    ⊎_elim (λ h. omega arith) (λ e. let same = ap length e in omega arith) (keep_shortens f (count 1 n))

-- at most one number for each register
pub held-most : (left right : ℕ) (partners : List ℕ) → held_in left right partners ≤ 2 * length partners
unfolding held_in
held-most left right partners =
    let a = kept-most (has left) (length partners) in
    let b = kept-most (is_unshared right partners) (length partners) in
    omega arith

module _ (left right : ℕ) (partners : List ℕ) where
  -- the register of this side stands for its number
  abbrev pub Stands : Side → ℕ → Type 0
  Stands Left i = (has left i ≡ true) × (i ≤ length partners)
  Stands Right j = (has right j ≡ true) × (left_partner 1 partners j ≡ 0) × (j ≤ length partners)

  -- the registers of each side that stand for numbers, and all of them
  abbrev pub kept : Side → List ℕ
  kept Left = keep (has left) (count 1 (length partners))
  kept Right = keep (is_unshared right partners) (count 1 (length partners))

  abbrev pub at : Side → ℕ → Side × ℕ
  at s i = (s, i)

  abbrev pub standing : List (Side × ℕ)
  standing = map (at Left) (kept Left) ++ map (at Right) (kept Right)

  pub standing-length : length standing ≡ held_in left right partners
  unfolding held_in
  standing-length = simp (length-append, length-map)

  kept_intro : (s : Side) (i : ℕ) → Stands s i → i ∈ kept s
  unfolding is_unshared
  kept_intro Left i (h, b) =
      keep_intro (has left) (count_intro 1 (length partners) i (has_positive left i h) (omega arith)) h
  kept_intro Right j (h, alone, b) =
      keep_intro (is_unshared right partners) (count_intro 1 (length partners) j (has_positive right j h) (omega arith))
      (and_intro (has right j) (eqb (left_partner 1 partners j) 0) h (eq-eqb (left_partner 1 partners j) 0 alone))

  kept_elim : (s : Side) (i : ℕ) → i ∈ kept s → Stands s i
  unfolding is_unshared
  kept_elim Left i m =
      let (n, h) = keep_elim (has left) i (count 1 (length partners)) m in
      (h, omega (arith, (count_elim 1 (length partners) i n).1))
  kept_elim Right j m =
      let (n, h) = keep_elim (is_unshared right partners) j (count 1 (length partners)) m in (
        and_left (has right j) (eqb (left_partner 1 partners j) 0) h,
        eqb-true (left_partner 1 partners j) 0 (and_right (has right j) (eqb (left_partner 1 partners j) 0) h),
        omega (arith, (count_elim 1 (length partners) j n).1),
      )

  pub standing_intro : (s : Side) (i : ℕ) → Stands s i → (s, i) ∈ standing
  standing_intro Left i h = Memᴰ.append_left (map (at Right) (kept Right)) (Memᴰ.map (at Left) (kept_intro Left i h))
  standing_intro Right j h = Memᴰ.append_right (map (at Left) (kept Left)) (Memᴰ.map (at Right) (kept_intro Right j h))

  -- what stands in the list is a register that stands for its number
  standing_elim : (x : Side × ℕ) → x ∈ standing → (s : Side) × (i : ℕ) × Stands s i × ((s, i) ≡ x)
  standing_elim x m = ⊎_elim (of Left) (of Right) (Memᴰ.append_cases (map (at Left) (kept Left)) m)
    where
      of : (s : Side) → x ∈ map (at s) (kept s) → (s : Side) × (i : ℕ) × Stands s i × ((s, i) ≡ x)
      of s n = let (i, k, e) = Memᴰ.of_map (at s) (kept s) n in (s, i, kept_elim s i k, e)

  kept-unique : (s : Side) → Unique (map (at s) (kept s))
  kept-unique Left =
      map-unique (at Left) (kept Left) (λ i j m n e. ap (λ (x : Side × ℕ). x.1) e)
      (keep-unique (has left) (count 1 (length partners)) (count-unique 1 (length partners)))
  kept-unique Right =
      map-unique (at Right) (kept Right) (λ i j m n e. ap (λ (x : Side × ℕ). x.1) e)
      (keep-unique (is_unshared right partners) (count 1 (length partners)) (count-unique 1 (length partners)))

  standing-unique : Unique standing
  standing-unique = append-unique (map (at Left) (kept Left)) (map (at Right) (kept Right)) (kept-unique Left) (kept-unique Right) apart
    where
      apart : (x : Side × ℕ) → x ∈ map (at Left) (kept Left) → x ∈ map (at Right) (kept Right) → ⊥
      apart x m n =
          let (i, _, d) = Memᴰ.of_map (at Left) (kept Left) m in
          let (j, _, e) = Memᴰ.of_map (at Right) (kept Right) n in
          let same : Left ≡ Right = ap (λ (x : Side × ℕ). x.0) (d ∙ sym e) in
          clash (cc)

  -- ── Counting by names ──

  module _ {A : Type 0} (name : Side → ℕ → A) where
    -- if the registers that stand for numbers have names that differ, all in a list, then it has no fewer elements
    pub held-at-most : (l : List A)
        → ((s s' : Side) (i j : ℕ) → Stands s i → Stands s' j → name s i ≡ name s' j → (s ≡ s') × (i ≡ j))
        → ((s : Side) (i : ℕ) → Stands s i → name s i ∈ l)
        → held_in left right partners ≤ length l
    held-at-most l apart inside = rw (length-map, standing-length) at (unique-length (map named standing) l names-unique members)
      where
        named : Side × ℕ → A
        named x = name x.0 x.1

        stands : (x : Side × ℕ) → x ∈ standing → Stands x.0 x.1
        stands x m = let (s, i, h, e) = standing_elim x m in subst (λ (y : Side × ℕ). Stands y.0 y.1) e h

        names-unique : Unique (map named standing)
        names-unique =
            map-unique named standing
            (λ x y m n e. let (a, b) = apart x.0 y.0 x.1 y.1 (stands x m) (stands y n) e in λ i. (a i, b i))
            standing-unique

        members : (a : A) → a ∈ map named standing → a ∈ l
        members a m =
            let (x, n, e) = Memᴰ.of_map named standing m in
            Memᴰ.cast (sym e) (inside x.0 x.1 (stands x n))
