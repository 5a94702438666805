-- Rounds with the sides exchanged: a turned position has the mirrored attacks, each is answered by the same edges, and these
-- lead to the turned positions. For any rules and register count. Assumes nothing.
use Prim.Native.Nat.{ℕ, zero, suc, ◌≤◌}
use mathlib.Core.Path.{◌≡◌, refl, ◌∙◌, ap}
use mathlib.Core.Bool.{true, ◌&&◌}
use native.Mathlib.Omega.{arith}
use lib.ListN.{length}
use lib.Dec.{eqb}
use Rattle.fra.specs.Lists.{◌∈◌, count}
use Rattle.fra.specs.Registers.{has}
use Rattle.fra.specs.Model.{set_of, register_of}
use Rattle.fra.specs.Rules.{Rules, other, left_of, right_of, model_of}
use Rattle.fra.specs.Position.{state_of, filled, partner, legal}
use Rattle.fra.specs.Game.{has_case, attack_edge, is_attack, attacks, reply_edge, is_reply, replies, size_after, moved, after}
use Rattle.fra.specs.Valid.{ValidEdge, Valid}
use Rattle.fra.specs.Exchange.{turned, exchanged, mirrored, mirrored_rules}
use Rattle.fra.specs.declared.EdgeKind.{EdgeKind}
use Rattle.fra.specs.declared.EdgeKind.TheVariants.{Known, LocallyFresh, GloballyFresh}
use Rattle.fra.specs.declared.Edge.{Edge}
use Rattle.fra.specs.declared.Position.{Position}
use Rattle.fra.specs.declared.Task.{Task}
use Rattle.fra.specs.declared.Side.{Side}
use Rattle.fra.specs.declared.Side.TheVariants.{Left, Right}
use Rattle.fra.specs.declared.IdCase.{IdCase}
use Rattle.fra.specs.declared.IdCase.TheVariants.{Held, Private, Seen, New}
use Rattle.fra.specs.declared.Attack.{Attack}
use Rattle.fra_laws.proofs.KeptLists.{keep_same}
use Rattle.fra_laws.proofs.AttackMembers.{attacks_intro, attacks_elim}
use Rattle.fra_laws.proofs.Legal.{valid-side, joined, legal_facts, attack_edge-exists, reply_edge-exists, moved-joined}
use Rattle.fra_laws.proofs.Pairs.{other-other}
use Rattle.fra_laws.proofs.ExchangeMatchings.{turned-length, matched-turned}
use Rattle.fra_laws.proofs.ExchangePositions.{partners-turned, partner-turned, room-turned}

-- ── What a side has ──

model-exchanged : (t : Task) (s : Side) → model_of (exchanged t) (other s) ≡ model_of t s
unfolding exchanged
model-exchanged t Left = refl
model-exchanged t Right = refl

state-turned : (p : Position) (s : Side) → state_of (turned p) (other s) ≡ state_of p s
unfolding turned
state-turned p Left = refl
state-turned p Right = refl

module _ {r : ℕ} {t : Task} (valid : Valid r t) (p : Position) (legal-p : legal r t p ≡ true) where
  other-partner : (s : Side) (i : ℕ) → 1 ≤ i → partner (turned p) (other s) i ≡ partner p s i
  other-partner s i h =
      partner-turned valid p (joined (legal_facts r t p legal-p)) (other s) i h ∙ rw (other-other s)

  -- ── Attacks ──

  -- a register of a side that is filled and has no partner
  private_turned : (s : Side) (j : ℕ)
      → (has (filled (exchanged t) (turned p) (other s)) j && eqb (partner (turned p) (other s) j) 0)
      ≡ (has (filled t p s) j && eqb (partner p s j) 0)
  unfolding has
  private_turned s zero = refl
  private_turned s (suc j) = rw (model-exchanged t s, state-turned p s, other-partner s (suc j) (omega arith))

  case-turned : (s : Side) (kind : EdgeKind) (c : IdCase)
      → has_case (exchanged t) (turned p) (other s) kind c ≡ has_case t p s kind c
  unfolding has_case
  case-turned s (Known i) Held = refl
  case-turned s (Known i) (Private j) = refl
  case-turned s (Known i) Seen = refl
  case-turned s (Known i) New = refl
  case-turned s (LocallyFresh i) Held = refl
  case-turned s (LocallyFresh i) (Private j) = private_turned (other s) j
  case-turned s (LocallyFresh i) Seen = room-turned valid p (joined (legal_facts r t p legal-p))
  case-turned s (LocallyFresh i) New = refl
  case-turned s (GloballyFresh i) Held = refl
  case-turned s (GloballyFresh i) (Private j) = refl
  case-turned s (GloballyFresh i) Seen = refl
  case-turned s (GloballyFresh i) New = refl

  module _ (g : Rules) where
    pub attack-mirrored : (a : Attack) → is_attack (mirrored_rules g) (exchanged t) (turned p) (mirrored a) ≡ is_attack g t p a
    unfolding is_attack
    attack-mirrored a =
        rw (
          ap g.attacks (other-other a.side),
          model-exchanged t a.side,
          state-turned p a.side,
          case-turned a.side (attack_edge t a).kind a.case,
        )

    pub attacks-mirrored : (a : Attack) → a ∈ attacks g t p → mirrored a ∈ attacks (mirrored_rules g) (exchanged t) (turned p)
    unfolding turned
    attacks-mirrored a m =
        let (h, w) = attacks_elim g t p a m in
        attacks_intro (mirrored_rules g) (exchanged t) (turned p) (mirrored a) (attack-mirrored a ∙ h)
        (rw (turned-length p.partners) w)

  -- ── Replies ──

  reply_mirrored : (a : Attack) → 1 ≤ register_of (attack_edge t a).kind → (k : ℕ)
      → is_reply (exchanged t) (turned p) (mirrored a) k ≡ is_reply t p a k
  unfolding is_reply
  reply_mirrored a h k =
      rw (
        model-exchanged t (other a.side),
        model-exchanged t a.side,
        state-turned p (other a.side),
        other-partner a.side (register_of (attack_edge t a).kind) h,
      )

  pub replies-mirrored : (g : Rules) (a : Attack) → a ∈ attacks g t p
      → replies (exchanged t) (turned p) (mirrored a) ≡ replies t p a
  unfolding replies
  replies-mirrored g a m =
      let least = ((valid-side valid a.side).edges a.edge (attack_edge-exists g t p a m)).least in
      rw (model-exchanged t (other a.side))
      (keep_same (is_reply (exchanged t) (turned p) (mirrored a)) (is_reply t p a)
      (count 0 (model_of t (other a.side)).edge_count) (λ k i. reply_mirrored a least k))

  -- ── After a round ──

  moved-turned : (size : ℕ) {l e : Edge} → ValidEdge t.left l → ValidEdge t.right e
      → moved (exchanged t) (turned p) size e l ≡ turned (moved t p size l e)
  unfolding moved turned exchanged
  moved-turned size {l} {e} v w =
      let h = joined (legal_facts r t p legal-p) in
      let same =
      matched-turned (set_of t.left l.to) (set_of t.right e.to) (register_of l.kind) (register_of e.kind)
      p.partners (omega (arith, v.greatest, valid.left.registers, h.long))
      (omega (arith, w.greatest, valid.right.registers, h.long)) (partners-turned valid p h)
      (partners-turned valid (moved t p size l e) (moved-joined h size l e v.to w.to)) in
      λ i. record { left = e.to; right = l.to; partners = same i; history = size }

  pub after-mirrored : (g : Rules) (a : Attack) (k : ℕ) → a ∈ attacks g t p → k ∈ replies t p a
      → after (exchanged t) (turned p) (mirrored a) k ≡ turned (after t p a k)
  unfolding after moved turned
  after-mirrored g a k m n =
      rw (model-exchanged t a.side, model-exchanged t (other a.side), turned-length p.partners)
      (step a.side (attack_edge t a) (reply_edge t a k)
      ((valid-side valid a.side).edges a.edge (attack_edge-exists g t p a m))
      ((valid-side valid (other a.side)).edges k (reply_edge-exists t p a k n)))
    where
      size : ℕ
      size = size_after (length p.partners) a.case p.history

      step : (s : Side) (own others : Edge) → ValidEdge (model_of t s) own → ValidEdge (model_of t (other s)) others
          → moved (exchanged t) (turned p) size (left_of (other s) own others) (right_of (other s) own others)
          ≡ turned (moved t p size (left_of s own others) (right_of s own others))
      step Left own others v w = moved-turned size v w
      step Right own others v w = moved-turned size w v
