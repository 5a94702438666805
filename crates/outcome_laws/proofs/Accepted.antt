-- The checker's tests for acceptance pass exactly on the lists that meet the published conditions. Assumes nothing.
use Prim.Native.Nat.{ℕ, zero, suc, ◌+◌, ◌<◌}
use mathlib.Core.Path.{◌≡◌, refl, sym}
use mathlib.Core.Logic.{◌⊎◌, inl, inr, ⊎_elim, ◌↔◌}
use mathlib.Core.Bool.{Bool, true, false, cond, false≢true}
use mathlib.Core.List.{List}
use Rattle.std.specs.Prelude.{Option, None, Some}
use native.Mathlib.Omega.{arith}
use lib.ListN.{length}
use lib.Dec.{leb, eqb}
use borrow.Author.Tests.{leb-true, eqb-true, eqb-false, le-leb, lt-leb, eq-eqb, ne_eqb}
use Rattle.fra.specs.Lists.{◌∈◌, any}
use Rattle.fra.specs.Rules.{Rules}
use Rattle.fra.specs.Position.{legal, bytes}
use Rattle.fra.specs.Game.{replies}
use Rattle.fra.specs.declared.Position.{Position}
use Rattle.fra.specs.declared.Task.{Task}
use Rattle.fra.specs.declared.Side.{Side}
use Rattle.fra.specs.declared.Side.TheVariants.{Left, Right}
use Rattle.fra.specs.declared.IdCase.{IdCase}
use Rattle.fra.specs.declared.IdCase.TheVariants.{Held, Private, Seen, New}
use Rattle.fra.specs.declared.Attack.{Attack}
use Rattle.fra_laws.proofs.Tests.{clash}
use Rattle.fra_laws.proofs.Lists.{any_witness, any_intro}
use Rattle.fra_laws.proofs.Order.{equal_refl, equal-sound, bytes_injective}
use Rattle.fra.specs.AttackNumbers.{side_number, case_number, side_of, case_of}
use Rattle.outcome.specs.Certificate.{Loss}
use Rattle.outcome.specs.Conditions.{KeptCondition, LostCondition, LostAlready, LostByAttack}
use Rattle.outcome.specs.Check.{same, holds, kept_accepted, attack_from, attack_in, forces, loss_holds, losses_accepted}
use Rattle.outcome_laws.proofs.PassedTests.{tests}
use Rattle.fra_laws.proofs.AttackMembers.{Within, attacks_intro, attacks_elim}

-- ── The same position ──

pub same_passes : (p q : Position) → (same p q ≡ true) ↔ (q ≡ p)
unfolding same
same_passes p q = (
  λ h. sym (bytes_injective p q (equal-sound (bytes p) (bytes q) h)),
  λ e. rw e (equal_refl (bytes p)),
)

listed : (p : Position) (l : List Position) → (any (same p) l ≡ true) ↔ (p ∈ l)
listed p l = (
  λ h. let (q, m, e) = any_witness (same p) l h in rw ((same_passes p q).0 e) at m,
  λ m. any_intro (same p) m ((same_passes p p).1 refl),
)

ruleset conditions = (listed, same_passes, tests)

-- ── A record's numbers name the attack that they encode ──

side_decodes : (s : Side) → side_of (side_number s) ≡ Some s
unfolding side_of
side_decodes Left = refl
side_decodes Right = refl

side_decoded : (n : ℕ) (s : Side) → side_of n ≡ Some s → n ≡ side_number s
unfolding side_of
side_decoded n s = step (eqb n 1) (eqb n 2) refl refl
  where
    step : (a b : Bool) → eqb n 1 ≡ a → eqb n 2 ≡ b → cond a (Some Left) (cond b (Some Right) None) ≡ Some s → n ≡ side_number s
    step true b e f h = let d : Left ≡ s = cc in rw (← d) (eqb-true n 1 e)
    step false true e f h = let d : Right ≡ s = cc in rw (← d) (eqb-true n 2 f)
    step false false e f h = clash (cc)

case_decodes : (r : ℕ) (c : IdCase) → Within r c → case_of r (case_number r c) ≡ Some c
unfolding case_of
case_decodes r Held w = refl
case_decodes r (Private j) w = rw (ne_eqb j 0 (omega arith), le-leb j r (omega arith))
case_decodes r Seen w = rw (ne_eqb (r + 1) 0 (omega arith), lt-leb (r + 1) r (omega arith), eq-eqb (r + 1) (r + 1) refl)
case_decodes r New w =
    rw (
      ne_eqb (r + 2) 0 (omega arith),
      lt-leb (r + 2) r (omega arith),
      ne_eqb (r + 2) (r + 1) (omega arith),
      eq-eqb (r + 2) (r + 2) refl,
    )

case_decoded : (r n : ℕ) (c : IdCase) → case_of r n ≡ Some c → (n ≡ case_number r c) × Within r c
unfolding case_of
case_decoded r n c = step (eqb n 0) (leb n r) (eqb n (r + 1)) (eqb n (r + 2)) refl refl refl refl
  where
    step : (a b d e : Bool) → eqb n 0 ≡ a → leb n r ≡ b → eqb n (r + 1) ≡ d → eqb n (r + 2) ≡ e
        → cond a (Some Held) (cond b (Some (Private n)) (cond d (Some Seen) (cond e (Some New) None))) ≡ Some c
        → (n ≡ case_number r c) × Within r c
    step true b d e h i j k f = let x : Held ≡ c = cc in rw (← x) (eqb-true n 0 h, tt)
    step false true d e h i j k f =
        let x : Private n ≡ c = cc in
        let y = eqb-false n 0 h in
        rw (← x) (refl, (omega arith, leb-true n r i))
    step false false true e h i j k f = let x : Seen ≡ c = cc in rw (← x) (eqb-true n (r + 1) j, tt)
    step false false false true h i j k f = let x : New ≡ c = cc in rw (← x) (eqb-true n (r + 2) k, tt)
    step false false false false h i j k f = clash (cc)

-- a record names an attack by its numbers
record Names (x : Loss) (a : Attack) : Type 0 where
  side : x.side ≡ side_number a.side
  edge : x.edge ≡ a.edge
  case : x.case ≡ case_number (length x.position.partners) a.case
  within : Within (length x.position.partners) a.case

attack-named : (x : Loss) (a : Attack) → (attack_in x ≡ Some a) ↔ Names x a
unfolding attack_in attack_from
attack-named x a = (
  step (side_of x.side) (case_of (length x.position.partners) x.case) refl refl,
  λ n.
      rw (n.side, side_decodes a.side, n.edge, n.case)
      (rw (case_decodes (length x.position.partners) a.case n.within)),
)
  where
    step : (s : Option Side) (c : Option IdCase) → side_of x.side ≡ s → case_of (length x.position.partners) x.case ≡ c
        → attack_from s x.edge c ≡ Some a
        → Names x a
    step None c e f h = clash (cc)
    step (Some s) None e f h = clash (cc)
    step (Some s) (Some c) e f h =
        let d : record { side = s; edge = x.edge; case = c } ≡ a = cc in
        let (g, w) = case_decoded (length x.position.partners) x.case c f in
        rw (← d) (record { side = side_decoded x.side s e; edge = refl; case = g; within = w })

-- ── A list is accepted exactly if it meets the published conditions ──

module _ (g : Rules) (t : Task) where
  pub kept_accepted_lem : (r : ℕ) (l : List Position) → ((p : Position) → p ∈ l → legal r t p ≡ true)
      → (kept_accepted g t l ≡ true) ↔ KeptCondition g r t l
  unfolding kept_accepted holds
  kept_accepted_lem r l are_legal = (
    λ h.
        let (start, each) = simp conditions at h in
        record {
          bisimulation = record { are_legal = are_legal; not_lost = λ p m. (each p m).0; answered = λ p m. (each p m).1 };
          start = start;
        },
    λ c. simp conditions (c.start, λ p m. (c.bisimulation.not_lost p m, c.bisimulation.answered p m)),
  )

  module _ (l : List Loss) (x : Loss) where
    forces-lost : (forces g t l x (attack_in x) ≡ true) ↔ LostByAttack g t l x
    unfolding forces
    forces-lost = (
      step (attack_in x) refl,
      λ w.
          let (h, v) = attacks_elim g t x.position w.attack w.exists in
          let e : attack_in x ≡ Some w.attack =
          (attack-named x w.attack).1 (record { side = w.side; edge = w.edge; case = w.case; within = v }) in
          rw e (simp conditions (h, λ k i. let (y, j, d, f) = w.replies k i in (y, j, (d, f)))),
    )
      where
        step : (o : Option Attack) → attack_in x ≡ o → forces g t l x o ≡ true → LostByAttack g t l x
        step None e h = absurd (false≢true h)
        step (Some a) e h =
            let n = (attack-named x a).0 e in
            let (exists, replies) = simp conditions at h in
            record {
              attack = a;
              exists = attacks_intro g t x.position a exists n.within;
              side = n.side;
              edge = n.edge;
              case = n.case;
              replies = λ k i. let (y, j, (d, f)) = replies k i in (y, j, d, f);
            }

    loss_holds_lem : (loss_holds g t l x ≡ true) ↔ LostAlready g t x ⊎ (0 < x.rounds) × LostByAttack g t l x
    unfolding loss_holds
    loss_holds_lem = step x.rounds refl
      where
        step : (n : ℕ) → x.rounds ≡ n
            → (loss_holds g t l x ≡ true) ↔ LostAlready g t x ⊎ (0 < x.rounds) × LostByAttack g t l x
        step zero e = (
          λ h.
              let (((m, s), k), c) = simp conditions at (rw (e, loss_holds) at h) in
              inl (record { rounds = e; marks = m; side = s; edge = k; case = c }),
          ⊎_elim (λ a. rw (e, loss_holds) (simp conditions (((a.marks, a.side), a.edge), a.case)))
              (λ (b, w). absurd (omega arith)),
        )
        step (suc n) e = (
          λ h. inr (omega arith, forces-lost.0 (rw (e, loss_holds) at h)),
          ⊎_elim (λ a. absurd (omega (arith, a.rounds))) (λ (b, w). rw (e, loss_holds) (forces-lost.1 w)),
        )

  pub losses_accepted_lem : (l : List Loss) → (losses_accepted g t l ≡ true) ↔ LostCondition g t l
  unfolding losses_accepted
  losses_accepted_lem l = (
    λ h. let (start, records) = simp (conditions, loss_holds_lem) at h in record { records = records; start = start },
    λ c. simp (conditions, loss_holds_lem) (c.start, c.records),
  )
