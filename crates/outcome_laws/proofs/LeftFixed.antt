-- What holds of the bytes that a verdict leaves behind fixes them: it holds of no others. Assumes nothing.
use Prim.Native.Nat.{ℕ}
use mathlib.Core.Path.{◌≡◌, sym, ◌∙◌, ap}
use mathlib.Core.Logic.Iff
use mathlib.Core.Logic.{◌⊎◌, inl, inr}
use mathlib.Core.List.{List, flat_map}
use native.Mathlib.Omega.{arith}
use lib.ListN.{length}
use Rattle.fra.specs.Rules.{Rules}
use Rattle.fra.specs.declared.Position.{Position}
use Rattle.fra.specs.declared.Task.{Task}
use Rattle.fra.specs.declared.Attack.{Attack}
use Rattle.fra_laws.proofs.Tests.{not_both}
use Rattle.fra_laws.proofs.Lists.{keys-same}
use Rattle.fra_laws.proofs.Order.{rising-same}
use Rattle.fra_laws.proofs.Ranks.{same_rank}
use Rattle.outcome.specs.Verdicts.{Contest, kind_of}
use Rattle.fra.specs.AttackNumbers.{side_number, case_number}
use Rattle.outcome.specs.Certificate.{kept_record, Loss, place_of, loss_record}
use Rattle.outcome.specs.Listed.{RoundsOf, Entry, entry_bytes, TableHolds, KeptWritten, FirstAttack, NamesNoAttack, NamesFirstAttack, LossOf, LossesWritten}
use Rattle.outcome_laws.proofs.FirstAttacks.{chosen-first}

module _ {g : Rules} {t : Task} where
  -- ── What a position's entry and its record say ──

  one_rounds : {p : Position} {n m : ℕ} → RoundsOf g t p n → RoundsOf g t p m → n ≡ m
  one_rounds (inl a) (inl b) = same_rank g t a b
  one_rounds {n = n} (inl a) (inr (never, e)) = absurd (not_both _ a.lost (never n))
  one_rounds {m = m} (inr (never, e)) (inl b) = absurd (not_both _ b.lost (never m))
  one_rounds (inr (never, e)) (inr (again, f)) = e ∙ sym f

  one_first : {p : Position} {n : ℕ} {a b : Attack} → FirstAttack g t p n a → FirstAttack g t p n b → a ≡ b
  one_first {p} {n} {a} {b} f h =
      let d = (chosen-first g t n p a).1 f in
      let e = (chosen-first g t n p b).1 h in
      cc

  one_loss : (x y : Loss) → LossOf g t x → LossOf g t y → x.position ≡ y.position → x ≡ y
  one_loss x y a b e = by a.names b.names
    where
      rounds : x.rounds ≡ y.rounds
      rounds = same_rank g t (rw e at a.has-rank) b.has-rank

      same : x.side ≡ y.side → x.edge ≡ y.edge → x.case ≡ y.case → x ≡ y
      same s k c = λ i. record { position = e i; side = s i; edge = k i; case = c i; rounds = rounds i }

      by : NamesNoAttack x ⊎ NamesFirstAttack g t x → NamesNoAttack y ⊎ NamesFirstAttack g t y → x ≡ y
      by (inl m) (inl n) = same (m.side ∙ sym n.side) (m.edge ∙ sym n.edge) (m.case ∙ sym n.case)
      by (inl m) (inr n) = absurd (omega (arith, m.rounds, n.rounds, rounds))
      by (inr m) (inl n) = absurd (omega (arith, m.rounds, n.rounds, rounds))
      by (inr m) (inr n) =
          let few : m.fewer ≡ n.fewer = omega (arith, m.rounds, n.rounds, rounds) in
          let d : m.attack ≡ n.attack = one_first (rw (e, few) at m.first) n.first in
          let cases : case_number (length x.position.partners) m.attack.case
          ≡ case_number (length y.position.partners) n.attack.case =
          λ i. case_number (length (e i).partners) (d i).case in
          same (m.side ∙ ap (λ (a : Attack). side_number a.side) d ∙ sym n.side)
          (m.edge ∙ ap (λ (a : Attack). a.edge) d ∙ sym n.edge)
          (m.case ∙ cases ∙ sym n.case)

  -- ── The table ──

  pub table_fixed : {v w : List ℕ} → TableHolds g t v → TableHolds g t w → v ≡ w
  table_fixed a b = a.encoded ∙ ap (flat_map entry_bytes) same ∙ sym b.encoded
    where
      same : a.entries ≡ b.entries
      same =
          keys-same (λ (x : Entry). x.position) a.entries b.entries
          (rising-same _ _ a.rising b.rising (λ p. Iff.trans (a.exactly p) (Iff.symm (b.exactly p))))
          (λ x y i j e k. record { position = e k; rounds = one_rounds (rw e at (a.rounds x i)) (b.rounds y j) k })

-- ── The certificate ──

module _ {c : Contest} {t : Task} where
  pub kept_fixed : {v w : List ℕ} → KeptWritten c t v → KeptWritten c t w → v ≡ w
  kept_fixed a b =
      a.encoded
      ∙ ap (flat_map (kept_record (kind_of c.kept)))
      (rising-same a.positions b.positions a.rising b.rising
      (λ p. Iff.trans (a.exactly p) (Iff.symm (b.exactly p))))
      ∙ sym b.encoded

  pub losses_fixed : {v w : List ℕ} → LossesWritten c t v → LossesWritten c t w → v ≡ w
  losses_fixed a b = a.encoded ∙ ap (flat_map (loss_record (kind_of c.lost))) same ∙ sym b.encoded
    where
      same : a.losses ≡ b.losses
      same =
          keys-same place_of a.losses b.losses
          (rising-same _ _ a.rising b.rising (λ p. Iff.trans (a.exactly p) (Iff.symm (b.exactly p))))
          (λ x y i j e. one_loss x y (a.each x i) (b.each y j) e)
