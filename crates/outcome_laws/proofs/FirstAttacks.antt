-- The attack that a certificate names is the first one whose replies are all lost in fewer rounds. For any rules, task and
-- register count. Assumes nothing.
use Prim.Native.Nat.{ℕ, suc}
use mathlib.Core.Path.{◌≡◌, refl}
use mathlib.Core.Logic.{◌↔◌}
use mathlib.Core.Bool.{true}
use mathlib.Core.List.Memᴰ
use Rattle.std.specs.Prelude.{Option, None, Some}
use Rattle.fra.specs.Lists.{◌∈◌}
use Rattle.fra.specs.Rules.{Rules}
use Rattle.fra.specs.Game.{attacks, replies, after, lost_within, HasRank}
use Rattle.fra.specs.declared.Position.{Position}
use Rattle.fra.specs.declared.Task.{Task}
use Rattle.fra.specs.declared.Attack.{Attack}
use Rattle.fra_laws.proofs.Tests.{fails_unless}
use Rattle.fra_laws.proofs.Lists.{any_witness, any_none, all-at, all_intro, first_none, first_split, first-at, first-missing}
use Rattle.fra_laws.proofs.Ranks.{rank-rounds}
use Rattle.outcome.specs.Certificate.{wins, chosen}
use Rattle.outcome.specs.Listed.{RepliesLost, FirstAttack}

-- the first attack is an attack
pub first-exists : {g : Rules} {t : Task} {p : Position} {n : ℕ} {a : Attack} → FirstAttack g t p n a → a ∈ attacks g t p
first-exists f = rw f.place (Memᴰ.append_right f.earlier (Memᴰ.head refl))

module _ (g : Rules) (t : Task) (n : ℕ) (p : Position) where
  wins-exactly : (a : Attack) → (wins g t n p a ≡ true) ↔ RepliesLost g t p n a
  unfolding wins
  wins-exactly a = (λ w k. all-at (λ k. lost_within g t n (after t p a k)) w, all_intro _ (replies t p a))

  pub chosen-first : (a : Attack) → (chosen g t n p ≡ Some a) ↔ FirstAttack g t p n a
  unfolding chosen
  chosen-first a = (
    λ h.
        let (earlier, later, place, passes, fails) = first_split (wins g t n p) (attacks g t p) a h in
        record {
          earlier = earlier;
          later = later;
          place = place;
          lost = (wins-exactly a).0 passes;
          none_earlier = λ b m w. any_none (wins g t n p) fails m ((wins-exactly b).1 w);
        },
    λ f.
        rw f.place
        (first-at (wins g t n p) f.earlier a f.later ((wins-exactly a).1 f.lost)
        (fails_unless _
        (λ w. let (b, m, v) = any_witness (wins g t n p) f.earlier w in f.none_earlier b m ((wins-exactly b).0 v)))),
  )

  -- there is none exactly if the replies to no attack are all lost
  pub chosen_none : (chosen g t n p ≡ None) ↔ ((a : Attack) → a ∈ attacks g t p → RepliesLost g t p n a → ⊥)
  unfolding chosen
  chosen_none = (
    λ h a m w. any_none (wins g t n p) (first_none (wins g t n p) (attacks g t p) h) m ((wins-exactly a).1 w),
    λ none_lost.
        first-missing (wins g t n p) (attacks g t p)
        (fails_unless _
        (λ w. let (b, m, v) = any_witness (wins g t n p) (attacks g t p) w in none_lost b m ((wins-exactly b).0 v))),
  )

  -- a position of rank n + 1 has one
  pub ranked-first : HasRank g t p (suc n) → (a : Attack) × FirstAttack g t p n a
  ranked-first h = found (chosen g t n p) refl
    where
      found : (o : Option Attack) → chosen g t n p ≡ o → (a : Attack) × FirstAttack g t p n a
      found None e = let (a, m, w) = ((rank-rounds g t p n).0 h).1 in absurd (chosen_none.0 e a m w)
      found (Some a) e = (a, (chosen-first a).0 e)
