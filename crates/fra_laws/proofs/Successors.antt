-- What attacks and replies lead to from a legal position, by pairs of a left and a right edge: attacks of both sides lead to
-- the same positions, and those of one side lead to them all. For any rules and register count. Assumes nothing.
use Prim.Native.Nat.{ℕ}
use mathlib.Core.Path.{◌≡◌, sym}
use mathlib.Core.Logic.{◌↔◌}
use mathlib.Core.Bool.{true}
use mathlib.Core.List.Memᴰ
use mathlib.Core.List.{map}
use native.Mathlib.Omega.{arith}
use lib.ListN.{length}
use Rattle.fra.specs.Lists.{◌∈◌}
use Rattle.fra.specs.Rules.{Rules, other}
use Rattle.fra.specs.Position.{legal}
use Rattle.fra.specs.Game.{attacks, replies, size_after, after}
use Rattle.fra.specs.Reach.{successors}
use Rattle.fra.specs.Valid.{Valid}
use Rattle.fra.specs.declared.Position.{Position}
use Rattle.fra.specs.declared.Task.{Task}
use Rattle.fra.specs.declared.Side.{Side}
use Rattle.fra.specs.declared.Side.TheVariants.{Left, Right}
use Rattle.fra.specs.declared.Attack.{Attack}
use Rattle.fra_laws.proofs.Lists.{flat_map_elim}
use Rattle.fra_laws.proofs.AttackMembers.{is_attack_lem, is_reply_lem}
use Rattle.fra_laws.proofs.Legal.{valid-side, Legal, legal_facts}
use Rattle.fra_laws.proofs.Reached.{successors_intro}
use Rattle.fra_laws.proofs.Pairs.{edge_reads, compatible-answers, Pair, moved_by, reply_pair, other-pair}

module _ {r : ℕ} {t : Task} (valid : Valid r t) (g : Rules) (p : Position) (legal-p : legal r t p ≡ true) where
  l : Legal r t p
  l = legal_facts r t p legal-p

  -- it is an attack of side s, if that attacks, and a reply
  pair_reply : (s : Side) (k j size : ℕ) → g.attacks s ≡ true → Pair t p s k j size → moved_by t p s k j size ∈ successors g t p
  unfolding after
  pair_reply s k j size h x =
      let m = valid-side valid (other s) in
      let e = m.edges j x.other-exists in
      let u =
      compatible-answers r t p s _ _ size e.least (omega (arith, e.greatest, m.registers))
      (rw (← x.other-starts) (edge_reads e)) x.joint (rw l.long at x.sized) in
      let a : Attack = record { side = s; edge = k; case = u.case } in
      let same : size_after (length p.partners) u.case p.history ≡ size = rw l.long u.leads in
      rw same at
      (successors_intro g t p a j
      (is_attack_lem g t p a (record { allowed = h; exists = x.exists; starts = x.starts; in_case_lem = u.in_case_lem })
      (rw l.long u.within))
      (is_reply_lem t p a j
      (record { exists = x.other-exists; starts = x.other-starts; tag = x.tag; answering = u.answering })))

  -- the positions that attacks and replies lead to are those that pairs of a left and a right edge lead to
  pub successors_by_pairs : (s : Side) → g.attacks s ≡ true → (q : Position)
      → (q ∈ successors g t p)
      ↔ ((k : ℕ) × (j : ℕ) × (size : ℕ) × Pair t p Left k j size × (q ≡ moved_by t p Left k j size))
  unfolding successors after
  successors_by_pairs s h q = (there, λ (k, j, size, x, e). rw e (back s k j size h x))
    where
      ByPair : Type 0
      ByPair = (k : ℕ) × (j : ℕ) × (size : ℕ) × Pair t p Left k j size × (q ≡ moved_by t p Left k j size)

      to-left : (s : Side) (k j size : ℕ) → Pair t p s k j size → moved_by t p s k j size ≡ q → ByPair
      to-left Left k j size x e = (k, j, size, x, sym e)
      to-left Right k j size x e = (j, k, size, other-pair valid l Right k j size x, sym e)

      there : q ∈ successors g t p → ByPair
      there m =
          let (a, i, n) = flat_map_elim (λ a. map (after t p a) (replies t p a)) (attacks g t p) m in
          let (j, d, e) = Memᴰ.of_map (after t p a) (replies t p a) n in
          to-left a.side a.edge j _ (reply_pair g t p a j i d) e

      back : (s : Side) (k j size : ℕ) → g.attacks s ≡ true → Pair t p Left k j size
          → moved_by t p Left k j size ∈ successors g t p
      back Left k j size h x = pair_reply Left k j size h x
      back Right k j size h x = pair_reply Right j k size h (other-pair valid l Left k j size x)
