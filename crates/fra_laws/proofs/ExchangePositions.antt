-- Positions and tasks with the sides exchanged: legal positions are turned to legal ones, partners are the same seen from the
-- other side, and turning twice changes nothing. For any rules and register count. Assumes nothing.
use Prim.Native.Nat.{ℕ, zero, suc, ◌≤◌, ◌<◌}
use mathlib.Core.Path.{◌≡◌, refl, sym, ◌∙◌, ap}
use mathlib.Core.Bool.{true}
use mathlib.Core.List.{List}
use native.Mathlib.Omega.{arith}
use lib.ListN.{length}
use Rattle.fra.specs.Rules.{Rules, other, model_of}
use Rattle.fra.specs.Lists.{◌∈◌}
use Rattle.fra.specs.Position.{state_of, filled, right_partner, partner, held, has_room, legal}
use Rattle.fra.specs.Valid.{Valid}
use Rattle.fra.specs.Exchange.{turned_partners, turned, exchanged, mirrored_rules}
use Rattle.fra.specs.declared.Position.{Position}
use Rattle.fra.specs.declared.Task.{Task}
use Rattle.fra.specs.declared.Side.{Side}
use Rattle.fra.specs.declared.Side.TheVariants.{Left, Right}
use Rattle.fra_laws.proofs.Registers.{has_positive, left_partner-exists}
use Rattle.fra_laws.proofs.HeldNumbers.{Stands, standing, standing-length, held-at-most}
use Rattle.fra_laws.proofs.HeldAfterRounds.{stand_in, stand_in_stands, stand_in_apart, stand_in-shared}
use Rattle.fra_laws.proofs.Legal.{registers_exist, Joined, joined, legal_facts, legal_intro}
use Rattle.fra_laws.proofs.Pairs.{other-other}
use Rattle.fra_laws.proofs.Weaker.{same-rules}
use Rattle.fra_laws.proofs.ExchangeMatchings.{Turned, turned-one_way, turned-matching, turned-partner}
use Rattle.fra_laws.proofs.ExchangeMatchings.{turned-length, turned-from, turned_round_lem}

-- ── States and partners ──

pub turned-joined : {r : ℕ} {t : Task} {p : Position} → Joined r t p → Joined r (exchanged t) (turned p)
unfolding turned exchanged
turned-joined {t = t} {p = p} l =
    record {
      exists = exists;
      long = turned-length p.partners ∙ l.long;
      matches = turned-matching (turned_partners p.partners) l.matches (turned-from p.partners);
    }
  where
    exists : (s : Side) → state_of (turned p) s < (model_of (exchanged t) s).state_count
    exists Left = l.exists Right
    exists Right = l.exists Left

-- ── Partners ──

module _ {r : ℕ} {t : Task} (valid : Valid r t) (p : Position) (l : Joined r t p) where
  -- right registers are 1 to r, so no pair is lost
  pub partners-turned : Turned p.partners (turned_partners p.partners)
  partners-turned = turned_round_lem p.partners l.matches (λ i. bounded i (right_partner p.partners i) refl)
    where
      bounded : (i j : ℕ) → right_partner p.partners i ≡ j → j ≤ length p.partners
      bounded i zero e = omega arith
      bounded i (suc j) e =
          let h = l.matches.right-has i (omega arith) in
          let (a, b) = registers_exist valid.right p.right (right_partner p.partners i) (l.exists Right) h in
          omega (arith, l.long)

  -- Registers are numbered from 1. Of register 0 it is false: it has no partner from the left, and from the right the first
  -- register that has none.
  pub partner-turned : (s : Side) (i : ℕ) → 1 ≤ i → partner (turned p) s i ≡ partner p (other s) i
  unfolding turned partner
  partner-turned Left i h = turned-partner (turned_partners p.partners) l.matches partners-turned i h
  partner-turned Right i h =
      let (from, into) = partners-turned in
      sym
      (turned-partner p.partners (turned-matching (turned_partners p.partners) l.matches from) (into, from) i h)

-- ── Numbers held together ──

-- the numbers that are held from the other side are no more
held-turned-most : {r : ℕ} {t : Task} → Valid r t → (p : Position) → Joined r t p → held (exchanged t) (turned p) ≤ held t p
unfolding turned exchanged
held-turned-most {r} {t} valid p l =
    rw (standing-length left right p.partners) at
    (held-at-most right left turned_round (λ s i. stand_in p.partners (other s) i) (standing left right p.partners) apart members)
  where
    left : ℕ
    left = filled t p Left

    right : ℕ
    right = filled t p Right

    turned_round : List ℕ
    turned_round = turned_partners p.partners

    -- a right register and a left one that stand for numbers, seen from the other side
    across : (i j : ℕ) → Stands right left turned_round Left i → Stands right left turned_round Right j
        → stand_in p.partners Right i ≡ stand_in p.partners Left j → ⊥
    across i j (h, _) (k, alone, _) e =
        let positive = has_positive right i h in
        let shared = stand_in-shared l.matches j i positive (sym e) in
        let back = (partners-turned valid p l).1 i j positive shared in
        let some = left_partner-exists turned_round i j (has_positive left j k) back in
        omega arith

    apart : (s s' : Side) (i j : ℕ) → Stands right left turned_round s i → Stands right left turned_round s' j
        → stand_in p.partners (other s) i ≡ stand_in p.partners (other s') j → (s ≡ s') × (i ≡ j)
    apart Left Left i j h k e = (refl, stand_in_apart l.matches i j e)
    apart Left Right i j h k e = absurd (across i j h k e)
    apart Right Left i j h k e = absurd (across j i k h (sym e))
    apart Right Right i j h k e = (refl, ap (λ (x : Side × ℕ). x.1) e)

    members : (s : Side) (i : ℕ) → Stands right left turned_round s i
        → stand_in p.partners (other s) i ∈ standing left right p.partners
    members Left i (h, b) = stand_in_stands l.matches Right i h (rw (turned-length p.partners) at b)
    members Right j (h, _, b) = stand_in_stands l.matches Left j h (rw (turned-length p.partners) at b)

-- ── Legal positions ──

pub turned-legal : {r : ℕ} {t : Task} → Valid r t → (p : Position) → legal r t p ≡ true → legal r (exchanged t) (turned p) ≡ true
unfolding turned
turned-legal {r} {t} valid p h =
    let l = legal_facts r t p h in
    let w = turned-joined (joined l) in
    let fewer = held-turned-most valid p (joined l) in
    let least : held (exchanged t) (turned p) ≤ p.history = omega (arith, l.least) in
    legal_intro r (exchanged t) (turned p)
    (record { exists = w.exists; long = w.long; matches = w.matches; least = least; most = l.most })

pub exchanged-valid : {r : ℕ} {t : Task} → Valid r t → Valid r (exchanged t)
unfolding turned exchanged
exchanged-valid {r} {t} valid =
    record {
      left = valid.right;
      right = valid.left;
      start_left = valid.start_right;
      start_right = valid.start_left;
      start-legal = turned-legal valid t.start valid.start-legal;
      unstated = valid.unstated;
    }

-- ── Twice ──

-- in a valid task: a right register above r would be lost in turning
pub turned_twice : {r : ℕ} {t : Task} → Valid r t → (p : Position) → Joined r t p → turned (turned p) ≡ p
unfolding turned
turned_twice {r} {t} valid p l = λ i. record { left = p.left; right = p.right; partners = same i; history = p.history }
  where
    same : turned_partners (turned_partners p.partners) ≡ p.partners
    same =
        let (from, into) = partners-turned valid p l in
        turned-one_way (turned_partners p.partners) (turned_partners (turned_partners p.partners)) p.partners
        (turned-length (turned_partners p.partners) ∙ turned-length p.partners)
        (partners-turned (exchanged-valid valid) (turned p) (turned-joined l)) (into, from)

pub exchanged_twice : {r : ℕ} {t : Task} → Valid r t → exchanged (exchanged t) ≡ t
unfolding exchanged
exchanged_twice {t = t} valid =
    let same = turned_twice valid t.start (joined (legal_facts _ t t.start valid.start-legal)) in
    λ i. record { left = t.left; right = t.right; start = same i; history_stated = t.history_stated }

pub mirrored_twice : (g : Rules) → mirrored_rules (mirrored_rules g) ≡ g
mirrored_twice g =
    same-rules (mirrored_rules (mirrored_rules g)) g (λ s. ap g.attacks (other-other s)) (λ l r. refl)

-- ── The same numbers are held, seen from either side ──

pub held-turned : {r : ℕ} {t : Task} → Valid r t → (p : Position) → Joined r t p → held (exchanged t) (turned p) ≡ held t p
held-turned {t = t} valid p l =
    let fewer = held-turned-most valid p l in
    let back = held-turned-most (exchanged-valid valid) (turned p) (turned-joined l) in
    let same = rw (exchanged_twice valid, turned_twice valid p l) at back in
    omega arith

pub room-turned : {r : ℕ} {t : Task} → Valid r t → (p : Position) → Joined r t p → has_room (exchanged t) (turned p) ≡ has_room t p
unfolding has_room turned
room-turned valid p l = rw (held-turned valid p l)
