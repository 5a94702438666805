-- A round leads from a setting to a setting: first for one reader, then for both, whichever side attacks. Assumes nothing.
use Prim.Native.Nat.{ℕ}
use mathlib.Core.Path.{◌≡◌, refl, sym, ◌∙◌}
use mathlib.Core.Logic.{◌⊎◌, inl, inr, ◌↔◌}
use mathlib.Core.Bool.{true}
use mathlib.Core.List.Memᴰ
use mathlib.Core.List.{List}
use native.Mathlib.Decide.{ℕ_discrete}
use borrow.Author.Tests.{eq-eqb, ne_eqb}
use Rattle.fra.specs.Lists.{◌∈◌, Unique}
use Rattle.fra.specs.Registers.{has}
use Rattle.fra.specs.Model.{set_of, edge_of, register_of}
use Rattle.fra.specs.Rules.{Rules, other, model_of, left_of, right_of}
use Rattle.fra.specs.Valid.{Valid, ValidEdge}
use Rattle.fra.specs.declared.EdgeKind.{EdgeKind}
use Rattle.fra.specs.declared.EdgeKind.TheVariants.{Known, LocallyFresh, GloballyFresh}
use Rattle.fra.specs.declared.Edge.{Edge}
use Rattle.fra.specs.declared.Model.{Model}
use Rattle.fra.specs.declared.Task.{Task}
use Rattle.fra.specs.declared.Side.{Side}
use Rattle.fra.specs.declared.Side.TheVariants.{Left, Right}
use Rattle.fra_laws.proofs.Legal.{valid-side, held-before}
use Rattle.numbers.specs.Numbers.{Reader, Holds, Setting, reader_of, Placed, IsSetting, Takes, Open, stored, taken, joined, played, Choice, Reply, after_reply}
use Rattle.numbers_laws.proofs.FiniteSets.{joined-set}
use Rattle.numbers_laws.proofs.Over.{placed}

-- ── One reader ──

stored_elsewhere : (κ : EdgeKind) (n : ℕ) (f : ℕ → ℕ) (i : ℕ) → (i ≡ register_of κ → ⊥) → stored κ n f i ≡ f i
unfolding stored
stored_elsewhere (Known j) n f i d = refl
stored_elsewhere (LocallyFresh j) n f i d = rw (ne_eqb j i (λ e. d (sym e)))
stored_elsewhere (GloballyFresh j) n f i d = rw (ne_eqb j i (λ e. d (sym e)))

-- the reader can take the number n by the edge e
pub record Able (m : Model) (x : Reader) (history : List ℕ) (e : Edge) (n : ℕ) : Type 0 where
  pub placed : Placed m x history
  pub valid : ValidEdge m e
  pub starts : e.from ≡ x.state
  pub takes : Takes m x history e.kind n

-- register i has the number n that the edge e takes, or it is another register, which held its number before
abbrev pub Kept : Model → Reader → Edge → ℕ → ℕ → ℕ → Type 0
Kept m x e n i k = ((i ≡ register_of e.kind) × (k ≡ n)) ⊎ ((i ≡ register_of e.kind → ⊥) × Holds m x i k)

module _ (m : Model) (x : Reader) (history : List ℕ) where
  stored_there : (κ : EdgeKind) (n : ℕ) → Takes m x history κ n → stored κ n x.number (register_of κ) ≡ n
  unfolding Takes stored
  stored_there (Known j) n h = h.holds
  stored_there (LocallyFresh j) n h = rw (eq-eqb j j refl)
  stored_there (GloballyFresh j) n h = rw (eq-eqb j j refl)

  -- a reader that takes a number by an edge holds it in that edge's register or nowhere
  taker_holds : (κ : EdgeKind) (n : ℕ) → Placed m x history → Takes m x history κ n → (i : ℕ) → Holds m x i n
      → i ≡ register_of κ
  unfolding Takes
  taker_holds (Known j) n a h i b = a.distinct i j n b h
  taker_holds (LocallyFresh j) n a h i b = absurd (h i b)
  taker_holds (GloballyFresh j) n a h i b = absurd (h (a.seen i n b))

  module _ (e : Edge) (n : ℕ) (able : Able m x history e n) where
    -- what the reader holds after the edge has taken the number
    pub taken-holds : (i k : ℕ) → Holds m (taken e n x) i k ↔ ((has (set_of m e.to) i ≡ true) × Kept m x e n i k)
    unfolding taken
    taken-holds i k = (to (ℕ_discrete i (register_of e.kind)), λ h. from h.0 h.1)
      where
        there : i ≡ register_of e.kind → stored e.kind n x.number i ≡ n
        there q = rw q (stored_there e.kind n able.takes)

        elsewhere : (i ≡ register_of e.kind → ⊥) → stored e.kind n x.number i ≡ x.number i
        elsewhere = stored_elsewhere e.kind n x.number i

        filled-before : has (set_of m e.to) i ≡ true → (i ≡ register_of e.kind → ⊥) → has (set_of m x.state) i ≡ true
        filled-before f d =
            rw (← able.starts) (held-before (set_of m e.from) (set_of m e.to) e.kind able.valid.rule i f d)

        to : Dec (i ≡ register_of e.kind) → Holds m (taken e n x) i k → (has (set_of m e.to) i ≡ true) × Kept m x e n i k
        to (yes q) h = (h.filled, inl (q, sym h.holds ∙ there q))
        to (no d) h =
            (h.filled, inr (d, record { filled = filled-before h.filled d; holds = sym (elsewhere d) ∙ h.holds }))

        from : has (set_of m e.to) i ≡ true → Kept m x e n i k → Holds m (taken e n x) i k
        from f (inl (q, s)) = record { filled = f; holds = there q ∙ sym s }
        from f (inr (d, h)) = record { filled = f; holds = elsewhere d ∙ h.holds }

    -- the number taken is held in the edge's register or nowhere
    pub kept_there : (i k : ℕ) → k ≡ n → Kept m x e n i k → i ≡ register_of e.kind
    kept_there i k s (inl (q, z)) = q
    kept_there i k s (inr (d, h)) = taker_holds e.kind n able.placed able.takes i (rw s at h)

    taken_placed : Unique history → Placed m (taken e n x) (joined n history)
    unfolding taken
    taken_placed u =
        record {
          exists = able.valid.to;
          distinct = λ i j k a b. distinct i j k ((taken-holds i k).0 a).1 ((taken-holds j k).0 b).1;
          seen = λ i k a. seen i k ((taken-holds i k).0 a).1;
        }
      where
        distinct : (i j k : ℕ) → Kept m x e n i k → Kept m x e n j k → i ≡ j
        distinct i j k (inl (q, s)) b = q ∙ sym (kept_there j k s b)
        distinct i j k (inr a) (inl (q, s)) = kept_there i k s (inr a) ∙ sym q
        distinct i j k (inr a) (inr b) = able.placed.distinct i j k a.1 b.1

        seen : (i k : ℕ) → Kept m x e n i k → k ∈ joined n history
        seen i k (inl (q, s)) = Memᴰ.cast s (joined-set n history u).joins
        seen i k (inr (d, h)) = (joined-set n history u).keeps k (able.placed.seen i k h)

-- ── Both readers ──

-- side σ can take the number n by an edge
abbrev pub AbleAt : Task → Setting → Side → Edge → ℕ → Type 0
AbleAt t s σ = Able (model_of t σ) (reader_of s σ) s.history

module _ {r : ℕ} {t : Task} (v : Valid r t) (s : Setting) (h : IsSetting t s) where
  pub able : (σ : Side) (k n : ℕ) → Open (model_of t σ) (reader_of s σ) s.history k n → AbleAt t s σ (edge_of (model_of t σ) k) n
  able σ k n a =
      record {
        placed = placed t s h σ;
        valid = (valid-side v σ).edges k a.exists;
        starts = a.starts;
        takes = a.takes;
      }

  -- where a left edge l and a right edge e take one number
  pub played-setting : (l e : Edge) (n : ℕ) → AbleAt t s Left l n → AbleAt t s Right e n → IsSetting t (played s l e n)
  unfolding played
  played-setting l e n a b =
      record {
        left = taken_placed t.left s.left s.history l n a h.history;
        right = taken_placed t.right s.right s.history e n b h.history;
        history = (joined-set n s.history h.history).unique;
      }

  -- the setting after a choice and a reply is a setting again
  pub round_setting : (g : Rules) (c : Choice g t s) (k : ℕ) → Reply g t s c k → IsSetting t (after_reply g t s c k)
  unfolding after_reply
  round_setting g c k q =
      by c.side (edge_of (model_of t c.side) c.edge) (edge_of (model_of t (other c.side)) k)
      (able c.side c.edge c.number c.open_edge) (able (other c.side) k c.number q.open_edge)
    where
      by : (σ : Side) (own others : Edge) → AbleAt t s σ own c.number → AbleAt t s (other σ) others c.number
          → IsSetting t (played s (left_of σ own others) (right_of σ own others) c.number)
      by Left own others a b = played-setting own others c.number a b
      by Right own others a b = played-setting others own c.number b a
