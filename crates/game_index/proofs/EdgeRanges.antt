-- Edges of a model that has an index rise by their codes, so those of one state, and of one state and tag, are ranges.
-- Assumes nothing.
use Prim.Native.Nat.{ℕ, zero, suc, ◌-◌, ◌≤◌, ◌<◌}
use mathlib.Core.Path.{◌≡◌, sym, subst}
use mathlib.Core.Logic.{◌⊎◌, inl, inr}
use mathlib.Core.Bool.{Bool, true, ◌&&◌, and-false}
use mathlib.Core.List.{List, ◌∷◌}
use native.Mathlib.Omega.{arith}
use native.Mathlib.Decide.{dec_lt}
use lib.Dec.{ltb, eqb}
use borrow.Author.Tests.{ltb-true, eqb-true, lt-ltb, le-ltb, eq-eqb}
use Rattle.fra.specs.Lists.{◌∈◌, below, keep, count}
use Rattle.fra.specs.Model.{edge_of, edge_bytes, kind_number}
use Rattle.fra.specs.declared.EdgeKind.{EdgeKind}
use Rattle.fra.specs.declared.EdgeKind.TheVariants.{Known, LocallyFresh, GloballyFresh}
use Rattle.fra.specs.declared.Edge.{Edge}
use Rattle.fra.specs.declared.Model.{Model}
use Rattle.fra_laws.proofs.Tests.{and_left, and_right, and_intro, or_cases}
use Rattle.fra_laws.proofs.Lists.{keep_elim, count_intro, count_elim, keep_intro}
use Rattle.game_index.specs.Layout.{state_places, tag_places, kind_places, codes}
use Rattle.game_index.specs.Ranges.{edges_of, tagged_of, code_of, edge_code, within, state_range, tag_range}
use Rattle.game_index.specs.Writing.{IndexableModel, Sized}
use Rattle.game_index.specs.declared.Range.{Range}
use Rattle.game_index.proofs.Ranges.{keep_none, keep-lower}

-- ── The order of strings, from their first bytes ──

module _ (x y : ℕ) (xs ys : List ℕ) (h : below (x ∷ xs) (y ∷ ys) ≡ true) where
  below-head : x ≤ y
  unfolding below
  below-head = step (or_cases (ltb x y) (eqb x y && below xs ys) h)
    where
      step : (ltb x y ≡ true) ⊎ ((eqb x y && below xs ys) ≡ true) → x ≤ y
      step (inl e) = omega (arith, ltb-true x y e)
      step (inr e) = omega (arith, eqb-true x y (and_left (eqb x y) (below xs ys) e))

  below_tail : x ≡ y → below xs ys ≡ true
  unfolding below
  below_tail s = and_right (eqb x y) (below xs ys) (rw (le-ltb x y (omega arith)) at h)

-- ── Codes ──

-- the code of edge number k
abbrev pub code_at : Model → ℕ → ℕ
code_at m k = edge_code (edge_of m k)

kind_bound : (kind : EdgeKind) → kind_number kind < kind_places
kind_bound (Known i) = omega arith
kind_bound (LocallyFresh i) = omega arith
kind_bound (GloballyFresh i) = omega arith

-- an edge whose bytes are below another's has no greater code
code_below : (e f : Edge) → e.tag < tag_places → below (edge_bytes e) (edge_bytes f) ≡ true → edge_code e ≤ edge_code f
unfolding edge_bytes
code_below e f few h = states (dec_lt e.from f.from)
  where
    tags : e.from ≡ f.from → Dec (e.tag < f.tag) → edge_code e ≤ edge_code f
    tags s (yes less) = omega (arith, kind_bound e.kind)
    tags s (no same) =
        let rest = below_tail _ _ _ _ h s in
        let t : e.tag ≡ f.tag = omega (arith, below-head _ _ _ _ rest) in
        omega (arith, below-head _ _ _ _ (below_tail _ _ _ _ rest t))

    states : Dec (e.from < f.from) → edge_code e ≤ edge_code f
    states (yes less) = omega (arith, kind_bound e.kind)
    states (no same) = tags (omega (arith, below-head _ _ _ _ h)) (dec_lt e.tag f.tag)

module _ {m : Model} (v : IndexableModel m) (sized : Sized m) where
  pub from_bound : (k : ℕ) → k < m.edge_count → (edge_of m k).from < state_places
  from_bound k b = omega (arith, (v.valid.edges k b).from, v.valid.states_placed, sized.states)

  pub code_bound : (k : ℕ) → k < m.edge_count → code_at m k < codes
  code_bound k b = omega (arith, from_bound k b, v.tags k b, kind_bound (edge_of m k).kind)

-- codes do not fall
module _ {m : Model} (v : IndexableModel m) where
  pub code_rises : (j k : ℕ) → j ≤ k → k < m.edge_count → code_at m j ≤ code_at m k
  code_rises j zero p q = let e : j ≡ 0 = omega arith in rw e (omega arith)
  code_rises j (suc k) p q = step (dec_lt k j) (λ h. code_rises j k h (omega arith))
    where
      step : Dec (k < j) → (j ≤ k → code_at m j ≤ code_at m k) → code_at m j ≤ code_at m (suc k)
      step (yes h) rest = let e : j ≡ suc k = omega arith in rw e (omega arith)
      step (no h) rest =
          let more = code_below (edge_of m k) (edge_of m (suc k)) (v.tags k (omega arith)) (v.valid.rising k q) in
          omega (arith, rest (omega arith))

-- ── Edges of a state, and those which have a tag ──

pub record OfState (m : Model) (q k : ℕ) : Type 0 where
  pub exists : k < m.edge_count
  pub starts : (edge_of m k).from ≡ q

pub record OfTag (m : Model) (q tag k : ℕ) : Type 0 where
  pub exists : k < m.edge_count
  pub starts : (edge_of m k).from ≡ q
  pub tagged : (edge_of m k).tag ≡ tag

abbrev starts_in : Model → ℕ → ℕ → Bool
starts_in m q k = eqb (edge_of m k).from q

abbrev has_tag : Model → ℕ → ℕ → Bool
has_tag m tag k = eqb (edge_of m k).tag tag

of-state : (m : Model) (q k : ℕ) → k < m.edge_count → starts_in m q k ≡ true → OfState m q k
of-state m q k b t = record { exists = b; starts = eqb-true (edge_of m k).from q t }

of-tag : (m : Model) (q tag k : ℕ) → k < m.edge_count → (starts_in m q k && has_tag m tag k) ≡ true → OfTag m q tag k
of-tag m q tag k b t =
    record {
      exists = b;
      starts = (of-state m q k b (and_left (starts_in m q k) (has_tag m tag k) t)).starts;
      tagged = eqb-true (edge_of m k).tag tag (and_right (starts_in m q k) (has_tag m tag k) t);
    }

-- ── Their ranges ──

-- the numbers of a range pass the test that keeps them
range_passes : (test : ℕ → Bool) (n : ℕ) (r : Range) → within r ≡ keep test (count 0 n) → (k : ℕ) → r.first ≤ k → k < r.end
    → (k < n) × (test k ≡ true)
range_passes test n r e k i b =
    let (c, t) = keep_elim test k (count 0 n)
    (subst (λ (l : List ℕ). k ∈ l) e (count_intro r.first (r.end - r.first) k i (omega arith))) in
    (omega (arith, (count_elim 0 n k c).1), t)

module _ {m : Model} (v : IndexableModel m) (sized : Sized m) where
  module _ (q : ℕ) where
    pub state_range_lem : within (state_range m q) ≡ edges_of m q
    unfolding state_range edges_of count
    state_range_lem = step (dec_lt q state_places)
      where
        step : Dec (q < state_places) → within (state_range m q) ≡ edges_of m q
        step (yes h) =
            rw (lt-ltb q state_places h)
            (sym
            (keep-lower (code_at m) m.edge_count (code_of q 0) (code_of (suc q) 0) (omega arith) (code_rises v) (starts_in m q)
            (λ k b low high. eq-eqb (edge_of m k).from q (omega (arith, v.tags k b, kind_bound (edge_of m k).kind)))
            (λ k b t.
            let e = of-state m q k b t in
            let few = v.tags k b in
            let kind = kind_bound (edge_of m k).kind in
            (omega arith, omega arith))))
        step (no h) =
            rw (le-ltb q state_places (omega arith))
            (sym
            (keep_none (starts_in m q) m.edge_count
            (λ k b t. omega (arith, from_bound v sized k b, (of-state m q k b t).starts))))

    pub state_range-edge : (k : ℕ) → (state_range m q).first ≤ k → k < (state_range m q).end → OfState m q k
    unfolding edges_of
    state_range-edge k i b =
        let (exists, t) = range_passes (starts_in m q) m.edge_count (state_range m q) state_range_lem k i b in
        of-state m q k exists t

  module _ (q tag : ℕ) where
    abbrev test : ℕ → Bool
    test k = starts_in m q k && has_tag m tag k

    pub tag_range_lem : within (tag_range m q tag) ≡ tagged_of m q tag
    unfolding tag_range tagged_of count
    tag_range_lem = step (dec_lt q state_places) (dec_lt tag tag_places)
      where
        step : Dec (q < state_places) → Dec (tag < tag_places) → within (tag_range m q tag) ≡ tagged_of m q tag
        step (yes h) (yes i) =
            rw (lt-ltb q state_places h, lt-ltb tag tag_places i)
            (sym
            (keep-lower (code_at m) m.edge_count (code_of q tag) (code_of q (suc tag)) (omega arith) (code_rises v) test
            (λ k b low high.
            let few = v.tags k b in
            let kind = kind_bound (edge_of m k).kind in
            and_intro _ _ (eq-eqb (edge_of m k).from q (omega arith)) (eq-eqb (edge_of m k).tag tag (omega arith)))
            (λ k b t.
            let e = of-tag m q tag k b t in
            let kind = kind_bound (edge_of m k).kind in
            (omega arith, omega arith))))
        step (yes h) (no i) =
            rw (le-ltb tag tag_places (omega arith), and-false)
            (sym (keep_none test m.edge_count (λ k b t. omega (arith, v.tags k b, (of-tag m q tag k b t).tagged))))
        step (no h) d =
            rw (le-ltb q state_places (omega arith))
            (sym
            (keep_none test m.edge_count
            (λ k b t. omega (arith, from_bound v sized k b, (of-tag m q tag k b t).starts))))

    pub tag_range-edge : (k : ℕ) → (tag_range m q tag).first ≤ k → k < (tag_range m q tag).end → OfTag m q tag k
    unfolding tagged_of
    tag_range-edge k i b =
        let (exists, t) = range_passes test m.edge_count (tag_range m q tag) tag_range_lem k i b in of-tag m q tag k exists t

-- ── Edges stand in their ranges ──

abbrev Inside : Range → ℕ → Type 0
Inside r k = (r.first ≤ k) × (k < r.end)

inside : {ks : List ℕ} (r : Range) → within r ≡ ks → (k : ℕ) → k ∈ ks → Inside r k
inside r e k m =
    let (i, b) = count_elim r.first (r.end - r.first) k (subst (λ (l : List ℕ). k ∈ l) (sym e) m) in
    (i, omega arith)

module _ {m : Model} (v : IndexableModel m) (sized : Sized m) where
  pub state-inside : (q k : ℕ) → OfState m q k → Inside (state_range m q) k
  unfolding edges_of
  state-inside q k e =
      inside (state_range m q) (state_range_lem v sized q) k
      (keep_intro _ (count_intro 0 m.edge_count k (omega arith) (omega (arith, e.exists))) (eq-eqb _ _ e.starts))

  pub tag-inside : (q tag k : ℕ) → OfTag m q tag k → Inside (tag_range m q tag) k
  unfolding tagged_of
  tag-inside q tag k e =
      inside (tag_range m q tag) (tag_range_lem v sized q tag) k
      (keep_intro _ (count_intro 0 m.edge_count k (omega arith) (omega (arith, e.exists)))
      (and_intro _ _ (eq-eqb _ _ e.starts) (eq-eqb _ _ e.tagged)))
