-- The relation that the proof goes by: a setting with actual numbers stands over a position (it is an abstraction relation).
-- What it says of each side alone, and of partners seen from either side. Assumes nothing.
use Prim.Native.Nat.{ℕ, zero, suc, ◌≤◌}
use mathlib.Core.Path.{◌≡◌, sym, ◌∙◌}
use mathlib.Core.Logic.{◌↔◌}
use native.Mathlib.Omega.{arith}
use lib.ListN.{length}
use Rattle.fra.specs.Lists.{◌∈◌}
use Rattle.fra.specs.Model.{set_of}
use Rattle.fra.specs.Rules.{other, model_of}
use Rattle.fra.specs.Position.{state_of, right_partner, partner}
use Rattle.fra.specs.Valid.{Valid}
use Rattle.fra.specs.declared.Model.{Model}
use Rattle.fra.specs.declared.Position.{Position}
use Rattle.fra.specs.declared.Task.{Task}
use Rattle.fra.specs.declared.Side.{Side}
use Rattle.fra.specs.declared.Side.TheVariants.{Left, Right}
use Rattle.fra_laws.proofs.Registers.{has_positive, left_partner-sound, left_partner-exists}
use Rattle.fra_laws.proofs.Legal.{valid-side, registers_exist}
use Rattle.numbers.specs.Numbers.{Reader, Holds, Setting, reader_of, Placed, IsSetting}
use Rattle.numbers_laws.proofs.HistorySizes.{Sized}

-- register i of side σ holds the number n
abbrev pub HoldsAt : Task → Setting → Side → ℕ → ℕ → Type 0
HoldsAt t s σ i n = Holds (model_of t σ) (reader_of s σ) i n

-- no register of side σ holds the number n
abbrev pub Lacks : Task → Setting → Side → ℕ → Type 0
Lacks t s σ n = (i : ℕ) → HoldsAt t s σ i n → ⊥

-- left register i and right register j hold the same number
abbrev pub Shared : Task → Setting → ℕ → ℕ → Type 0
Shared t s i j = (n : ℕ) × HoldsAt t s Left i n × HoldsAt t s Right j n

-- the setting s stands over the position p: the states are the same, left register i and right register j are partners
-- exactly if they hold the same number, and the history has the position's size
pub record Over (r : ℕ) (t : Task) (s : Setting) (p : Position) : Type 0 where
  pub setting : IsSetting t s
  pub states : (σ : Side) → state_of p σ ≡ (reader_of s σ).state
  pub long : length p.partners ≡ r
  pub shared : (i j : ℕ) → (right_partner p.partners i ≡ suc j) ↔ Shared t s i (suc j)
  pub sized : Sized r p.history s.history

-- ── One side ──

pub placed : (t : Task) (s : Setting) → IsSetting t s → (σ : Side) → Placed (model_of t σ) (reader_of s σ) s.history
placed t s h Left = h.left
placed t s h Right = h.right

module _ (m : Model) (x : Reader) where
  -- a register holds one number
  holds_one : (i n k : ℕ) → Holds m x i n → Holds m x i k → n ≡ k
  holds_one i n k a b = sym a.holds ∙ b.holds

  holds_positive : (i n : ℕ) → Holds m x i n → 1 ≤ i
  holds_positive i n a = has_positive (set_of m x.state) i a.filled

-- ── Both sides ──

module _ (r : ℕ) (t : Task) (s : Setting) (p : Position) (o : Over r t s p) where
  -- a register that holds a number is one of the r
  pub registers : Valid r t → (σ : Side) (i n : ℕ) → HoldsAt t s σ i n → (1 ≤ i) × (i ≤ r)
  registers v σ i n a =
      registers_exist (valid-side v σ) (reader_of s σ).state i (placed t s o.setting σ).exists a.filled

  -- a side holds no number that is not in the history
  pub unseen_lacks : (σ : Side) (n : ℕ) → (n ∈ s.history → ⊥) → Lacks t s σ n
  unseen_lacks σ n h i a = h ((placed t s o.setting σ).seen i n a)

  -- the partner of a register holds the same number
  pub partner-holds : (σ : Side) (i n j : ℕ) → HoldsAt t s σ i n → partner p σ i ≡ suc j → HoldsAt t s (other σ) (suc j) n
  unfolding partner
  partner-holds Left i n j a e =
      let (k, b, c) = (o.shared i j).0 e in rw (holds_one t.left s.left i n k a b) c
  partner-holds Right zero n j a e = let z = holds_positive t.right s.right 0 n a in absurd (omega arith)
  partner-holds Right (suc i) n j a e =
      let (k, b, c) = (o.shared (suc j) i).0 (left_partner-sound p.partners (suc j) (suc i) (omega arith) e) in
      rw (holds_one t.right s.right (suc i) n k a c) b

  -- registers with the same number have partners
  pub not_unpartnered : (σ : Side) (i j n : ℕ) → HoldsAt t s σ i n → HoldsAt t s (other σ) j n → partner p σ i ≡ 0 → ⊥
  unfolding partner
  not_unpartnered Left i zero n a b z = let h = holds_positive t.right s.right 0 n b in absurd (omega arith)
  not_unpartnered Left i (suc j) n a b z = let e = (o.shared i j).1 (n, a, b) in omega arith
  not_unpartnered Right zero j n a b z = let h = holds_positive t.right s.right 0 n a in absurd (omega arith)
  not_unpartnered Right (suc i) j n a b z =
      let h = left_partner-exists p.partners j (suc i) (omega arith) ((o.shared j i).1 (n, b, a)) in
      omega arith
