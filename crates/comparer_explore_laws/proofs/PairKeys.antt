-- The keys of the positions that two edges lead to: one for a number that is new or held by a reader, and where both are locally
-- fresh and there is room one for a number seen before, unless that leads to the same position. Assumes nothing.
use Prim.Native.Nat.{ℕ}
use mathlib.Core.Path.{◌≡◌, refl, sym, ◌∙◌, ap}
use mathlib.Core.Logic.{◌⊎◌, inl, inr}
use mathlib.Core.Bool.{Bool, true, false, not, cond, ◌&&◌}
use mathlib.Core.List.Memᴰ
use mathlib.Core.List.{List, [], ◌∷◌}
use lib.Dec.{eqb}
use borrow.Author.Tests.{eqb-true, not-false}
use Rattle.fra.specs.Lists.{◌∈◌}
use Rattle.fra.specs.declared.Position.{Position}
use Rattle.fra.specs.declared.Side.TheVariants.{Left}
use Rattle.fra_laws.specs.Joint.{compatible, sizes_after}
use Rattle.fra_laws.proofs.Tests.{and_left, and_right, and_intro, fails_unless, not_both}
use Rattle.game_moves.specs.AfterRound.{moved_to}
use Rattle.game_moves.specs.HistorySizes.{first_size, both_locally_fresh}
use Rattle.game_moves.proofs.HistorySizes.{sizes_one_by_one}
use Rattle.game_index.specs.declared.Transition.{Transition}
use Rattle.table_keys.specs.Keys.{key_of}
use Rattle.table_keys.specs.declared.Radix.{Radix}
use Rattle.comparer_explore_laws.specs.EdgeKeys.{PairKey}

module _ (x : Radix) (room : Bool) (p : Position) (left right : Transition) where
  abbrev size : ℕ
  size = first_size 6 p.history left.kind right.kind

  abbrev pub key_after : ℕ → ℕ
  key_after n = key_of x (moved_to p n left.target right.target)

  abbrev both : Bool
  both = both_locally_fresh left.kind right.kind

  abbrev raised : Bool
  raised = not (eqb size p.history)

  -- a number seen before is tried
  abbrev pub seen_too : Bool
  seen_too = room && raised && both

  abbrev sizes : List ℕ
  sizes = sizes_after 6 room p.history left.kind right.kind

  pub first-size : size ∈ sizes
  first-size = rw (sizes_one_by_one 6 room p.history left.kind right.kind) (Memᴰ.head refl)

  pub seen_size : seen_too ≡ true → p.history ∈ sizes
  seen_size h =
      let tried : (both && room) ≡ true =
      and_intro both room (and_right (room && raised) both h) (and_left room raised (and_left (room && raised) both h)) in
      rw (sizes_one_by_one 6 room p.history left.kind right.kind, tried) (Memᴰ.tail (Memᴰ.head refl))

  module _ (joint : compatible p Left left.kind right.kind ≡ true) where
    pub first_key : (k : ℕ) → k ≡ key_after size → PairKey x room p left right k
    first_key k e = (joint, size, first-size, e)

    pub seen_key : seen_too ≡ true → (k : ℕ) → k ≡ key_after p.history → PairKey x room p left right k
    seen_key h k e = (joint, p.history, seen_size h, e)

  -- there are no others
  pub pair-keys : (k : ℕ) → PairKey x room p left right k
      → (k ≡ key_after size) ⊎ (((both && room) ≡ true) × (k ≡ key_after p.history))
  pair-keys k (joint, n, m, e) =
      step (both && room) refl
      (Memᴰ.cases_cons (rw (sizes_one_by_one 6 room p.history left.kind right.kind) at m))
    where
      Keys : Type 0
      Keys = (k ≡ key_after size) ⊎ (((both && room) ≡ true) × (k ≡ key_after p.history))

      step : (b : Bool) → (both && room) ≡ b
          → (n ≡ size) ⊎ (n ∈ cond (both && room) (p.history ∷ []) [])
          → Keys
      step b q (inl d) = inl (e ∙ ap key_after d)
      step true q (inr i) = inr (q, e ∙ ap key_after (Memᴰ.eq_of_singleton (rw q at i)))
      step false q (inr i) = absurd (Memᴰ.not-nil (rw q at i))

  pub either_key : (k : ℕ) → PairKey x room p left right k → (k ≡ key_after size) ⊎ (k ≡ key_after p.history)
  either_key k w = step (pair-keys k w)
    where
      step : (k ≡ key_after size) ⊎ (((both && room) ≡ true) × (k ≡ key_after p.history))
          → (k ≡ key_after size) ⊎ (k ≡ key_after p.history)
      step (inl e) = inl e
      step (inr (b, e)) = inr e

  pub first-key_alone : seen_too ≡ false → (k : ℕ) → PairKey x room p left right k → k ≡ key_after size
  first-key_alone h k w = step (pair-keys k w)
    where
      step : (k ≡ key_after size) ⊎ (((both && room) ≡ true) × (k ≡ key_after p.history))
          → k ≡ key_after size
      step (inl e) = e
      step (inr (b, e)) =
          let same : eqb size p.history ≡ true =
          not-false (eqb size p.history)
          (fails_unless raised
          (λ d.
          not_both seen_too
          (and_intro (room && raised) both (and_intro room raised (and_right both room b) d) (and_left both room b)) h)) in
          e ∙ ap key_after (sym (eqb-true size p.history same))
