-- After a round, the setting still stands over the position, whichever side attacks. Assumes nothing.
use Prim.Native.Nat.{ℕ, suc}
use mathlib.Core.Path.{◌≡◌, refl, ◌∙◌}
use mathlib.Core.Logic.{inl, inr, ◌↔◌}
use mathlib.Core.Bool.{true}
use native.Mathlib.Omega.{arith}
use lib.ListN.{length}
use Rattle.fra.specs.Lists.{◌∈◌}
use Rattle.fra.specs.Registers.{has}
use Rattle.fra.specs.Model.{set_of, edge_of, register_of}
use Rattle.fra.specs.Rules.{Rules, other, model_of, left_of, right_of}
use Rattle.fra.specs.Position.{state_of, right_partner}
use Rattle.fra.specs.Game.{size_after, moved, after}
use Rattle.fra.specs.Valid.{Valid}
use Rattle.fra.specs.declared.Edge.{Edge}
use Rattle.fra.specs.declared.Position.{Position}
use Rattle.fra.specs.declared.Task.{Task}
use Rattle.fra.specs.declared.Side.{Side}
use Rattle.fra.specs.declared.Side.TheVariants.{Left, Right}
use Rattle.fra.specs.declared.IdCase.{IdCase}
use Rattle.fra.specs.declared.IdCase.TheVariants.{Held, Private, Seen, New}
use Rattle.fra_laws.proofs.Registers.{matched-length, Rejoined, matched_elim, matched_intro}
use Rattle.fra_laws.proofs.Legal.{registers_exist}
use Rattle.numbers.specs.Numbers.{Setting, reader_of, taken, joined, played, Choice, Reply, after_reply}
use Rattle.numbers_laws.proofs.FiniteSets.{Joined, joined-set}
use Rattle.numbers_laws.proofs.HistorySizes.{Sized, size-raised}
use Rattle.numbers_laws.proofs.Over.{HoldsAt, Shared, Over, placed}
use Rattle.numbers_laws.proofs.Choices.{InCase, attack_of, Chosen}
use Rattle.numbers_laws.proofs.SettingsAfterRounds.{AbleAt, Kept, taken-holds, kept_there, able, played-setting}

module _ (r : ℕ) (t : Task) (v : Valid r t) (s : Setting) (p : Position) (o : Over r t s p) where
  -- where a left edge l and a right edge e take one number, the setting after the round stands over the position after it
  played_over : (size : ℕ) (l e : Edge) (n : ℕ) → Sized r size (joined n s.history) → AbleAt t s Left l n
      → AbleAt t s Right e n
      → Over r t (played s l e n) (moved t p size l e)
  unfolding played moved taken
  played_over size l e n sized a b =
      record {
        setting = played-setting v s o.setting l e n a b;
        states = states;
        long = matched-length left right (register_of l.kind) (register_of e.kind) 1 p.partners ∙ o.long;
        shared = λ i j. (λ h. to i j ((joins i j).0 h), λ h. (joins i j).1 (from i j h));
        sized = sized;
      }
    where
      states : (σ : Side) → state_of (moved t p size l e) σ ≡ (reader_of (played s l e n) σ).state
      states Left = refl
      states Right = refl

      left : ℕ
      left = set_of t.left l.to

      right : ℕ
      right = set_of t.right e.to

      left-holds : (i k : ℕ)
          → HoldsAt t (played s l e n) Left i k ↔ ((has left i ≡ true) × Kept t.left s.left l n i k)
      left-holds = taken-holds t.left s.left s.history l n a

      right-holds : (j k : ℕ)
          → HoldsAt t (played s l e n) Right j k ↔ ((has right j ≡ true) × Kept t.right s.right e n j k)
      right-holds = taken-holds t.right s.right s.history e n b

      Joins : ℕ → ℕ → Type 0
      Joins i j = Rejoined (register_of l.kind) (register_of e.kind) i (right_partner p.partners i) j

      joins : (i j : ℕ)
          → (right_partner (moved t p size l e).partners i ≡ suc j)
          ↔ ((has left i ≡ true) × (has right (suc j) ≡ true) × Joins i (suc j))
      joins i j = (
        matched_elim left right (register_of l.kind) (register_of e.kind) p.partners i (suc j) (omega arith),
        λ (f, g, h).
            let within = (registers_exist v.left l.to i a.valid.to f).1 in
            matched_intro left right (register_of l.kind) (register_of e.kind) p.partners i (suc j) (rw o.long within)
            f g h,
      )

      to : (i j : ℕ) → (has left i ≡ true) × (has right (suc j) ≡ true) × Joins i (suc j)
          → Shared t (played s l e n) i (suc j)
      to i j (f, g, inl (c, d)) = (n, (left-holds i n).1 (f, inl (c, refl)), (right-holds (suc j) n).1 (g, inl (d, refl)))
      to i j (f, g, inr (c, d, h)) =
          let (k, x, y) = (o.shared i j).0 h in
          (k, (left-holds i k).1 (f, inr (c, x)), (right-holds (suc j) k).1 (g, inr (d, y)))

      both : (i j k : ℕ) → Kept t.left s.left l n i k → Kept t.right s.right e n (suc j) k → Joins i (suc j)
      both i j k (inl (c, q)) d = inl (c, kept_there t.right s.right s.history e n b (suc j) k q d)
      both i j k (inr c) (inl (d, q)) = absurd (c.0 (kept_there t.left s.left s.history l n a i k q (inr c)))
      both i j k (inr c) (inr d) = inr (c.0, d.0, (o.shared i j).1 (k, c.1, d.1))

      from : (i j : ℕ) → Shared t (played s l e n) i (suc j)
          → (has left i ≡ true) × (has right (suc j) ≡ true) × Joins i (suc j)
      from i j (k, x, y) =
          let (f, c) = (left-holds i k).0 x in
          let (g, d) = (right-holds (suc j) k).0 y in
          (f, g, both i j k c d)

  -- the same for an edge of the attacking side σ and an edge of the other side
  played_over_by : (size : ℕ) (σ : Side) (own others : Edge) (n : ℕ) → Sized r size (joined n s.history)
      → AbleAt t s σ own n
      → AbleAt t s (other σ) others n
      → Over r t (played s (left_of σ own others) (right_of σ own others) n)
      (moved t p size (left_of σ own others) (right_of σ own others))
  played_over_by size Left own others n sized a b = played_over size own others n sized a b
  played_over_by size Right own others n sized a b = played_over size others own n sized b a

  -- the history's size after a number has joined it: a new number raises it, and one that was seen does not
  sized-after : (σ : Side) (i n : ℕ) (d : IdCase) → InCase t s σ i n d
      → Sized r (size_after r d p.history) (joined n s.history)
  sized-after σ i n d a = by d a
    where
      grown : Joined n s.history (joined n s.history)
      grown = joined-set n s.history o.setting.history

      same : n ∈ s.history → Sized r p.history (joined n s.history)
      same seen = rw (grown.known seen) o.sized

      by : (d : IdCase) → InCase t s σ i n d → Sized r (size_after r d p.history) (joined n s.history)
      by Held a = same ((placed t s o.setting σ).seen i n a)
      by (Private j) a = same ((placed t s o.setting (other σ)).seen j n a.1)
      by Seen a = same a.1.1
      by New a = size-raised o.sized (grown.longer a.1)

  -- the setting after a choice and a reply stands over the position after the reply to the attack in the choice's case
  pub round_over : (g : Rules) (c : Choice g t s) (d : IdCase) → Chosen g t s c d → (k : ℕ) → Reply g t s c k
      → Over r t (after_reply g t s c k) (after t p (attack_of g t s c d) k)
  unfolding after_reply after
  round_over g c d chosen k h =
      played_over_by (size_after (length p.partners) d p.history) c.side (edge_of (model_of t c.side) c.edge)
      (edge_of (model_of t (other c.side)) k) c.number
      (rw o.long (sized-after c.side (register_of (edge_of (model_of t c.side) c.edge).kind) c.number d chosen))
      (able v s o.setting c.side c.edge c.number c.open_edge)
      (able v s o.setting (other c.side) k c.number h.open_edge)
