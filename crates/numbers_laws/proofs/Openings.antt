-- An opening stands over the start position, and every task has an opening. Assumes nothing.
use Prim.Native.Nat.{ℕ, zero, suc, ◌+◌, ◌*◌, ◌≤◌}
use mathlib.Core.Path.{◌≡◌, refl, sym, ◌∙◌, ap}
use mathlib.Core.Logic.Iff
use mathlib.Core.Logic.{◌↔◌}
use mathlib.Core.Bool.{true}
use mathlib.Core.List.Memᴰ
use mathlib.Core.List.{List, map}
use native.Mathlib.Omega.{arith}
use lib.ListN.{length, length-map}
use Rattle.fra.specs.Lists.{◌∈◌}
use Rattle.fra.specs.Registers.{has}
use Rattle.fra.specs.Rules.{model_of}
use Rattle.fra.specs.Position.{state_of, filled, right_partner, left_partner, partner}
use Rattle.fra.specs.Valid.{Valid}
use Rattle.fra.specs.declared.Task.{Task}
use Rattle.fra.specs.declared.Side.{Side}
use Rattle.fra.specs.declared.Side.TheVariants.{Left, Right}
use Rattle.fra_laws.proofs.Registers.{has_positive}
use Rattle.fra_laws.proofs.HeldNumbers.{standing, standing-length}
use Rattle.fra_laws.proofs.HeldAfterRounds.{stand_in, stand_in_stands, stand_in_apart, stand_in-shared}
use Rattle.fra_laws.proofs.Legal.{valid-side, registers_exist, Legal, legal_facts, partner_mutual}
use Rattle.numbers.specs.Numbers.{Reader, Holds, Setting, reader_of, Placed, IsPair, Opening}
use Rattle.numbers_laws.proofs.FiniteSets.{set_around}
use Rattle.numbers_laws.proofs.Over.{HoldsAt, Shared, Over}

-- the partners of a task's start: its pairs
abbrev pairs : Task → List ℕ
pairs t = t.start.partners

pair-partner : (t : Task) (i j : ℕ) → IsPair t i (suc j) ↔ (right_partner (pairs t) i ≡ suc j)
unfolding right_partner
pair-partner t zero j = (λ h. absurd h, λ e. absurd (omega arith))
pair-partner t (suc i) j = (λ e. e, λ e. e)

-- a number for each register: even ones for the left side, odd ones for the right
number_of : Side × ℕ → ℕ
number_of (Left, i) = 2 * i
number_of (Right, j) = 2 * j + 1

numbers_differ : (x y : Side × ℕ) → number_of x ≡ number_of y → x ≡ y
unfolding number_of
numbers_differ (Left, i) (Left, j) e = ap (λ (k : ℕ). (Left, k)) (omega arith)
numbers_differ (Left, i) (Right, j) e = absurd (omega arith)
numbers_differ (Right, i) (Left, j) e = absurd (omega arith)
numbers_differ (Right, i) (Right, j) e = ap (λ (k : ℕ). (Right, k)) (omega arith)

module _ (r : ℕ) (t : Task) (v : Valid r t) where
  start-legal : Legal r t t.start
  start-legal = legal_facts r t t.start v.start-legal

  -- ── An opening stands over the start ──

  pub opening_over : (s : Setting) → Opening r t s → Over r t s t.start
  opening_over s o =
      record {
        setting = o.setting;
        states = states;
        long = start-legal.long;
        shared = λ i j. (to i j, λ (n, a, b). (pair-partner t i j).0 ((o.shared i (suc j) n n a b).0 refl));
        sized = record { most = start-legal.most; exact = o.exact; at_least = o.at_least };
      }
    where
      states : (σ : Side) → state_of t.start σ ≡ (reader_of s σ).state
      states Left = v.start_left ∙ sym o.start_left
      states Right = v.start_right ∙ sym o.start_right

      to : (i j : ℕ) → right_partner (pairs t) i ≡ suc j → Shared t s i (suc j)
      to i j e = (s.left.number i, a, rw same b)
        where
          paired : 1 ≤ right_partner (pairs t) i
          paired = rw e (omega arith)

          a : HoldsAt t s Left i (s.left.number i)
          a = record { filled = rw (states Left) at (start-legal.matches.left-has i paired); holds = refl }

          b : HoldsAt t s Right (suc j) (s.right.number (suc j))
          b = record { filled = rw (states Right, e) at (start-legal.matches.right-has i paired); holds = refl }

          same : s.left.number i ≡ s.right.number (suc j)
          same = (o.shared i (suc j) (s.left.number i) (s.right.number (suc j)) a b).1 ((pair-partner t i j).1 e)

  -- ── Every valid task has an opening ──

  -- a register has the number of the register that stands for it
  number : Side → ℕ → ℕ
  number σ i = number_of (stand_in (pairs t) σ i)

  -- two registers of a side have two numbers
  number_apart : (σ : Side) (i j : ℕ) → number σ i ≡ number σ j → i ≡ j
  unfolding number
  number_apart Left i j e = ap (λ (x : Side × ℕ). x.1) (numbers_differ (Left, i) (Left, j) e)
  number_apart Right i j e = stand_in_apart start-legal.matches i j (numbers_differ _ _ e)

  -- a left and a right register have the same number exactly if they are partners
  number-shared : (i j : ℕ) → (number Left i ≡ number Right (suc j)) ↔ (right_partner (pairs t) i ≡ suc j)
  unfolding number partner right_partner
  number-shared i j = (
    λ e. stand_in-shared start-legal.matches i (suc j) (omega arith) (numbers_differ _ _ e),
    back i,
  )
    where
      back : (i : ℕ) → right_partner (pairs t) i ≡ suc j → number Left i ≡ number Right (suc j)
      back zero e = absurd (omega arith)
      back (suc i) e =
          let left : left_partner 1 (pairs t) (suc j) ≡ suc i = partner_mutual start-legal Left (suc i) (suc j) (omega arith) e in
          rw left

  -- the numbers of the registers that stand for numbers
  numbers : List ℕ
  numbers = map number_of (standing (filled t t.start Left) (filled t t.start Right) (pairs t))

  numbers_fit : length numbers ≤ t.start.history
  unfolding numbers
  numbers_fit =
      rw (length-map, standing-length (filled t t.start Left) (filled t t.start Right) (pairs t)) start-legal.least

  -- each register of a side's set has one of them
  number-listed : (σ : Side) (i : ℕ) → has (filled t t.start σ) i ≡ true → number σ i ∈ numbers
  unfolding numbers number
  number-listed σ i h = Memᴰ.map number_of (stands σ h)
    where
      within : i ≤ length (pairs t)
      within =
          rw start-legal.long (registers_exist (valid-side v σ) (state_of t.start σ) i (start-legal.exists σ) h).1

      stands : (ρ : Side) → has (filled t t.start ρ) i ≡ true
          → stand_in (pairs t) ρ i ∈ standing (filled t t.start Left) (filled t t.start Right) (pairs t)
      stands Left h = stand_in_stands start-legal.matches Left i h within
      stands Right h = stand_in_stands start-legal.matches Right i h within

  reader : Side → Reader
  reader σ = record { state = state_of t.start σ; number = number σ }

  -- with any history that has all these numbers
  reader_placed : (σ : Side) (history : List ℕ) → ((n : ℕ) → n ∈ numbers → n ∈ history)
      → Placed (model_of t σ) (reader σ) history
  unfolding reader
  reader_placed σ history inside =
      record {
        exists = start-legal.exists σ;
        distinct = λ i j n a b. number_apart σ i j (a.holds ∙ sym b.holds);
        seen = λ i n a. inside n (Memᴰ.cast (sym a.holds) (number-listed σ i a.filled));
      }

  -- the history has as many others besides as its size asks for
  pub an_opening : (s : Setting) × Opening r t s
  unfolding reader
  an_opening =
      let (history, unique, long, inside) = set_around t.start.history numbers numbers_fit in (
        record { left = reader Left; right = reader Right; history = history },
        record {
          setting =
              record {
                left = reader_placed Left history inside;
                right = reader_placed Right history inside;
                history = unique;
              };
          start_left = v.start_left;
          start_right = v.start_right;
          shared = shared;
          exact = λ b. long;
          at_least = λ e. omega arith;
        },
      )
    where
      shared : (i j n m : ℕ) → Holds t.left (reader Left) i n → Holds t.right (reader Right) j m → (n ≡ m) ↔ IsPair t i j
      shared i zero n m a b = let h = has_positive (filled t t.start Right) 0 b.filled in absurd (omega arith)
      shared i (suc j) n m a b =
          rw (← a.holds, ← b.holds) (Iff.trans (number-shared i j) (Iff.symm (pair-partner t i j)))
