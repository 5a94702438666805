-- The attacks of a position and the replies to an attack, as lists, have exactly the members that the tests for attacks and
-- replies name, and those tests are the conditions on an attack and on a reply. Assumes nothing.
use Prim.Native.Nat.{ℕ, ◌≤◌, ◌<◌}
use mathlib.Core.Path.{◌≡◌, refl}
use mathlib.Core.Logic.{⊎_elim}
use mathlib.Core.Bool.{true}
use mathlib.Core.List.Memᴰ
use mathlib.Core.List.{[], ◌∷◌, ◌++◌, map}
use native.Mathlib.Omega.{arith}
use lib.ListN.{length}
use borrow.Author.Tests.{ltb-true, lt-ltb, eqb-true, eq-eqb}
use Rattle.fra.specs.Lists.{◌∈◌, count}
use Rattle.fra.specs.Model.{register_of}
use Rattle.fra.specs.Rules.{Rules, other, model_of}
use Rattle.fra.specs.Position.{state_of, partner}
use Rattle.fra.specs.Game.{has_case, attack_edge, is_attack, cases, named, attacks, answers, reply_edge, is_reply, replies}
use Rattle.fra.specs.declared.Position.{Position}
use Rattle.fra.specs.declared.Task.{Task}
use Rattle.fra.specs.declared.Side.{Side}
use Rattle.fra.specs.declared.Side.TheVariants.{Left, Right}
use Rattle.fra.specs.declared.IdCase.{IdCase}
use Rattle.fra.specs.declared.IdCase.TheVariants.{Held, Private, Seen, New}
use Rattle.fra.specs.declared.Attack.{Attack}
use Rattle.fra_laws.proofs.Tests.{and_left, and_right}
use Rattle.fra_laws.proofs.Lists.{keep_intro, keep_elim, flat_map_intro, flat_map_elim, count_intro, count_elim}

-- ── What a side can name ──

-- an id case of r registers: the register of the other side, if there is one, is 1 to r
abbrev pub Within : ℕ → IdCase → Type 0
Within r Held = Unit {0}
Within r (Private j) = (1 ≤ j) × (j ≤ r)
Within r Seen = Unit {0}
Within r New = Unit {0}

pub cases_intro : (r : ℕ) (c : IdCase) → Within r c → c ∈ cases r
unfolding cases
cases_intro r Held h = Memᴰ.head refl
cases_intro r (Private j) h =
    Memᴰ.tail
    (Memᴰ.append_left (Seen ∷ New ∷ []) (Memᴰ.map Private (count_intro 1 r j h.0 (omega (arith, h.1)))))
cases_intro r Seen h = Memᴰ.tail (Memᴰ.append_right (map Private (count 1 r)) (Memᴰ.head refl))
cases_intro r New h =
    Memᴰ.tail (Memᴰ.append_right (map Private (count 1 r)) (Memᴰ.tail (Memᴰ.head refl)))

cases_elim : (r : ℕ) (c : IdCase) → c ∈ cases r → Within r c
unfolding cases
cases_elim r c m =
    ⊎_elim (λ (e : c ≡ Held). rw e tt)
    (λ n.
    ⊎_elim
    (λ i.
    let (j, k, e) = Memᴰ.of_map Private (count 1 r) i in
    let (a, b) = count_elim 1 r j k in
    rw (← e) (a, omega arith))
    (λ i.
    ⊎_elim (λ (e : c ≡ Seen). rw e tt) (λ k. let e : c ≡ New = Memᴰ.eq_of_singleton k in rw e tt)
    (Memᴰ.cases_cons i))
    (Memᴰ.append_cases (map Private (count 1 r)) n))
    (Memᴰ.cases_cons m)

named_intro : (r : ℕ) (t : Task) (a : Attack) → a.edge < (model_of t a.side).edge_count → Within r a.case
    → a ∈ named r t a.side
unfolding named
named_intro r t a h w =
    flat_map_intro (λ k. map (λ c. record { side = a.side; edge = k; case = c }) (cases r))
    (count_intro 0 (model_of t a.side).edge_count a.edge (omega arith) (omega (arith, h)))
    (Memᴰ.map (λ (c : IdCase). record { side = a.side; edge = a.edge; case = c }) (cases_intro r a.case w))

named_elim : (r : ℕ) (t : Task) (s : Side) (a : Attack) → a ∈ named r t s → Within r a.case
unfolding named
named_elim r t s a m =
    let (k, i, n) =
    flat_map_elim (λ k. map (λ c. record { side = s; edge = k; case = c }) (cases r))
    (count 0 (model_of t s).edge_count) m in
    let (c, j, e) = Memᴰ.of_map (λ (c : IdCase). record { side = s; edge = k; case = c }) (cases r) n in
    rw (← e) (cases_elim r c j)

-- ── Attacks ──

-- the conditions on an attack
pub record AttackAt (g : Rules) (t : Task) (p : Position) (a : Attack) : Type 0 where
  pub allowed : g.attacks a.side ≡ true
  pub exists : a.edge < (model_of t a.side).edge_count
  pub starts : (attack_edge t a).from ≡ state_of p a.side
  pub in_case_lem : has_case t p a.side (attack_edge t a).kind a.case ≡ true

module _ (g : Rules) (t : Task) (p : Position) where
  attack_facts : (a : Attack) → is_attack g t p a ≡ true → AttackAt g t p a
  unfolding is_attack
  attack_facts a h =
      record {
        allowed = search (and_left, and_right);
        exists = ltb-true a.edge (model_of t a.side).edge_count (search (and_left, and_right));
        starts = eqb-true (attack_edge t a).from (state_of p a.side) (search (and_left, and_right));
        in_case_lem = search (and_left, and_right);
      }

  attack-test : (a : Attack) → AttackAt g t p a → is_attack g t p a ≡ true
  unfolding is_attack
  attack-test a h = rw (h.allowed, lt-ltb _ _ h.exists, eq-eqb _ _ h.starts) h.in_case_lem

  -- an attack is listed exactly if the test passes and its register exists
  pub attacks_intro : (a : Attack) → is_attack g t p a ≡ true → Within (length p.partners) a.case → a ∈ attacks g t p
  unfolding attacks
  attacks_intro a h w =
      keep_intro (is_attack g t p) (of a.side (named_intro (length p.partners) t a (attack_facts a h).exists w)) h
    where
      of : (s : Side) → a ∈ named (length p.partners) t s
          → a ∈ named (length p.partners) t Left ++ named (length p.partners) t Right
      of Left m = Memᴰ.append_left (named (length p.partners) t Right) m
      of Right m = Memᴰ.append_right (named (length p.partners) t Left) m

  pub attacks_elim : (a : Attack) → a ∈ attacks g t p
      → (is_attack g t p a ≡ true) × Within (length p.partners) a.case
  unfolding attacks
  attacks_elim a m =
      let r = length p.partners in
      let (n, h) = keep_elim (is_attack g t p) a (named r t Left ++ named r t Right) m in
      (h, ⊎_elim (named_elim r t Left a) (named_elim r t Right a) (Memᴰ.append_cases (named r t Left) n))

  -- the same by its conditions
  pub is_attack_lem : (a : Attack) → AttackAt g t p a → Within (length p.partners) a.case → a ∈ attacks g t p
  is_attack_lem a h w = attacks_intro a (attack-test a h) w

  pub attack-at : (a : Attack) → a ∈ attacks g t p → AttackAt g t p a
  attack-at a m = attack_facts a (attacks_elim a m).0

-- ── Replies ──

-- the conditions on a reply
pub record ReplyAt (t : Task) (p : Position) (a : Attack) (k : ℕ) : Type 0 where
  pub exists : k < (model_of t (other a.side)).edge_count
  pub starts : (reply_edge t a k).from ≡ state_of p (other a.side)
  pub tag : (reply_edge t a k).tag ≡ (attack_edge t a).tag
  pub answering : answers (partner p a.side (register_of (attack_edge t a).kind)) a.case (reply_edge t a k).kind ≡ true

module _ (t : Task) (p : Position) (a : Attack) (k : ℕ) where
  pub reply_facts : is_reply t p a k ≡ true → ReplyAt t p a k
  unfolding is_reply
  reply_facts h =
      record {
        exists = ltb-true k (model_of t (other a.side)).edge_count (search (and_left, and_right));
        starts = eqb-true (reply_edge t a k).from (state_of p (other a.side)) (search (and_left, and_right));
        tag = eqb-true (reply_edge t a k).tag (attack_edge t a).tag (search (and_left, and_right));
        answering = search (and_left, and_right);
      }

  reply_test : ReplyAt t p a k → is_reply t p a k ≡ true
  unfolding is_reply
  reply_test h = rw (lt-ltb _ _ h.exists, eq-eqb _ _ h.starts, eq-eqb _ _ h.tag) h.answering

  pub is_reply_lem : ReplyAt t p a k → k ∈ replies t p a
  unfolding replies
  is_reply_lem h =
      let e = h.exists in
      keep_intro (is_reply t p a) (count_intro 0 (model_of t (other a.side)).edge_count k (omega arith) (omega arith))
      (reply_test h)

  pub reply_at : k ∈ replies t p a → ReplyAt t p a k
  unfolding replies
  reply_at m = reply_facts (keep_elim (is_reply t p a) k (count 0 (model_of t (other a.side)).edge_count) m).1
