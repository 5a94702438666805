-- What a verdict leaves behind meets the published conditions: the positions that are never lost form a bisimulation with the
-- start, and the records of what the first attacks lead to show that the start is lost. Assumes nothing.
use Prim.Native.Nat.{ℕ, ◌<◌}
use mathlib.Core.Path.{◌≡◌, sym, ◌∙◌}
use mathlib.Core.Logic.{◌⊎◌, inl, inr, ◌↔◌}
use mathlib.Core.List.Memᴰ
use mathlib.Core.List.{List, map}
use native.Mathlib.Omega.{arith}
use Rattle.fra.specs.Lists.{◌∈◌}
use Rattle.fra.specs.Rules.{Rules}
use Rattle.fra.specs.Game.{after, NeverLost, Bisimulation}
use Rattle.fra.specs.Reach.{Reached, begin, reached}
use Rattle.fra.specs.Valid.{Valid}
use Rattle.fra.specs.declared.Position.{Position}
use Rattle.fra.specs.declared.Task.{Task}
use Rattle.fra_laws.proofs.Reached.{reached-exactly, reached-legal}
use Rattle.fra_laws.proofs.Lost.{lost_at_once_lem}
use Rattle.fra_laws.proofs.Ranks.{rank-least}
use Rattle.fra_laws.proofs.Bisimulation.{kept_members, kept_never_lost, kept-bisimulation}
use Rattle.outcome.specs.Certificate.{Loss, place_of}
use Rattle.outcome.specs.Conditions.{KeptCondition, LostAlready, LostByAttack, LostCondition}
use Rattle.outcome.specs.Listed.{Led, at-start, by_reply, NamesNoAttack, NamesFirstAttack, LossOf}
use Rattle.outcome_laws.proofs.FirstAttacks.{first-exists}
use Rattle.outcome_laws.proofs.WrittenLists.{reached-closed}

-- ── A list of the positions reached that are never lost ──

module _ {r : ℕ} {t : Task} (valid : Valid r t) (g : Rules) (l : List Position)
    (exactly : (p : Position) → p ∈ l ↔ Reached g t p × NeverLost g t p) where
  -- it has the members of which the theory speaks
  same-members : (p : Position) → (p ∈ kept_members g t (reached g t)) ↔ (p ∈ l)
  same-members p = (
    λ m.
        let (i, n) = (kept_never_lost g t (reached g t) (reached-closed valid g) p).0 m in
        (exactly p).1 ((reached-exactly valid g p).0 i, n),
    λ m.
        let (i, n) = (exactly p).0 m in
        (kept_never_lost g t (reached g t) (reached-closed valid g) p).1 ((reached-exactly valid g p).1 i, n),
  )

  kept_bisimilar : Bisimulation g r t (λ p. p ∈ l)
  kept_bisimilar =
      let b = kept-bisimulation g r t (reached g t) (reached-closed valid g) (reached-legal valid g) in
      record {
        are_legal = λ p m. b.are_legal p ((same-members p).1 m);
        not_lost = λ p m. b.not_lost p ((same-members p).1 m);
        answered =
            λ p m a n.
            let w = b.answered p ((same-members p).1 m) a n in
            (w.0, w.1, (same-members (after t p a w.0)).0 w.2);
      }

  pub kept_condition : NeverLost g t t.start → KeptCondition g r t l
  kept_condition h = record { bisimulation = kept_bisimilar; start = (exactly t.start).1 (begin, h) }

-- ── A list of records of what the first attacks lead to ──

module _ {g : Rules} {t : Task} (l : List Loss) (exactly : (p : Position) → p ∈ map place_of l ↔ Led g t p)
    (each : (x : Loss) → x ∈ l → LossOf g t x) where
  record_of : (p : Position) → Led g t p → (x : Loss) × (x ∈ l) × (x.position ≡ p)
  record_of p h = Memᴰ.of_map place_of l ((exactly p).1 h)

  met : (x : Loss) → x ∈ l → LostAlready g t x ⊎ (0 < x.rounds) × LostByAttack g t l x
  met x m = by (each x m).names
    where
      by : NamesNoAttack x ⊎ NamesFirstAttack g t x → LostAlready g t x ⊎ (0 < x.rounds) × LostByAttack g t l x
      by (inl n) =
          inl
          (record {
            rounds = n.rounds;
            marks = sym (lost_at_once_lem g t x.position) ∙ (rw n.rounds at (each x m).has-rank.lost);
            side = n.side;
            edge = n.edge;
            case = n.case;
          })
      by (inr n) =
          inr (
            omega (arith, n.rounds),
            record {
              attack = n.attack;
              exists = first-exists n.first;
              side = n.side;
              edge = n.edge;
              case = n.case;
              replies =
                  λ k i.
                  let led = (exactly x.position).0 (Memᴰ.map place_of m) in
                  let (y, j, e) =
                  record_of (after t x.position n.attack k)
                  (by_reply led (rw n.rounds at (each x m).has-rank) n.first i) in
                  let few = rank-least g t n.fewer (each y j).has-rank (rw e (n.first.lost k i)) in
                  (y, j, e, omega (arith, n.rounds));
            },
          )

  pub lost_condition : LostCondition g t l
  lost_condition = record { records = met; start = record_of t.start at-start }
