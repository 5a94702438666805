-- At a setting that stands over a position, the numbers that a chooser can name and the id cases of the position's attacks
-- agree: each number that an edge takes stands in an id case of that edge, and each id case has such a number. Assumes
-- nothing.
use Prim.Native.Nat.{ℕ, zero, suc}
use mathlib.Core.Path.{◌≡◌, refl, sym, ◌∙◌}
use mathlib.Core.Bool.{Bool, true, false, ◌&&◌, false≢true}
use native.Mathlib.Omega.{arith}
use lib.ListN.{length}
use lib.Dec.{eqb}
use borrow.Author.Tests.{eqb-true, eq-eqb}
use Rattle.fra.specs.Lists.{◌∈◌, any, count}
use Rattle.fra.specs.Registers.{has}
use Rattle.fra.specs.Model.{set_of, edge_of, register_of}
use Rattle.fra.specs.Rules.{Rules, other, model_of}
use Rattle.fra.specs.Position.{filled, partner}
use Rattle.fra.specs.Game.{has_case, attack_edge, attacks}
use Rattle.fra.specs.Valid.{Valid, RegisterRule}
use Rattle.fra.specs.declared.EdgeKind.{EdgeKind}
use Rattle.fra.specs.declared.EdgeKind.TheVariants.{Known, LocallyFresh, GloballyFresh}
use Rattle.fra.specs.declared.Position.{Position}
use Rattle.fra.specs.declared.Task.{Task}
use Rattle.fra.specs.declared.Attack.{Attack}
use Rattle.fra.specs.declared.Side.{Side}
use Rattle.fra.specs.declared.Side.TheVariants.{Left, Right}
use Rattle.fra.specs.declared.IdCase.{IdCase}
use Rattle.fra.specs.declared.IdCase.TheVariants.{Held, Private, Seen, New}
use Rattle.fra_laws.proofs.Tests.{and_left, and_right, and_intro}
use Rattle.fra_laws.proofs.Lists.{any_witness, any_none, any-equal, none_equal, count_intro}
use Rattle.fra_laws.proofs.AttackMembers.{Within, AttackAt, attack-at, is_attack_lem}
use Rattle.fra_laws.proofs.Legal.{valid-side}
use Rattle.fra_laws.proofs.Pairs.{other-other}
use Rattle.numbers.specs.Numbers.{Setting, reader_of, Takes, Choice}
use Rattle.numbers_laws.proofs.FiniteSets.{outside}
use Rattle.numbers_laws.proofs.Over.{HoldsAt, Lacks, Over, registers, unseen_lacks, partner-holds, not_unpartnered}
use Rattle.numbers_laws.proofs.Room.{room_iff_free}

-- side σ finds the number n in its register j, in the history and in no register of its own, or nowhere
abbrev pub Found : Task → Setting → Side → ℕ → IdCase → Type 0
Found t s σ n Held = ⊥
Found t s σ n (Private j) = HoldsAt t s σ j n
Found t s σ n Seen = Lacks t s σ n × (n ∈ s.history)
Found t s σ n New = n ∈ s.history → ⊥

-- the number n, taken by an edge of register i of side σ, stands in the id case: side σ holds it in that register, or side σ
-- does not hold it and the case says where the other side finds it
abbrev pub InCase : Task → Setting → Side → ℕ → ℕ → IdCase → Type 0
InCase t s σ i n Held = HoldsAt t s σ i n
InCase t s σ i n (Private j) = Lacks t s σ n × Found t s (other σ) n (Private j)
InCase t s σ i n Seen = Lacks t s σ n × Found t s (other σ) n Seen
InCase t s σ i n New = Lacks t s σ n × Found t s (other σ) n New

-- the attack by the side and the edge of a choice, in an id case
abbrev pub attack_of : (g : Rules) (t : Task) (s : Setting) → Choice g t s → IdCase → Attack
attack_of g t s c d = record { side = c.side; edge = c.edge; case = d }

-- the number of a choice stands in the id case
abbrev pub Chosen : (g : Rules) (t : Task) (s : Setting) → Choice g t s → IdCase → Type 0
Chosen g t s c d = InCase t s c.side (register_of (edge_of (model_of t c.side) c.edge).kind) c.number d

module _ (r : ℕ) (t : Task) (v : Valid r t) (s : Setting) (p : Position) (o : Over r t s p) where
  register-counted : (σ : Side) (i n : ℕ) → HoldsAt t s σ i n → i ∈ count 1 r
  register-counted σ i n a = let (b, c) = registers r t s p o v σ i n a in count_intro 1 r i b (omega arith)

  -- ── Each number stands in a case ──

  -- every number is found somewhere
  find : (σ : Side) (n : ℕ) → (c : IdCase) × Found t s σ n c
  find σ n = step (any (eqb n) s.history) refl (any holds? (count 1 r)) refl
    where
      holds? : ℕ → Bool
      holds? i = has (set_of (model_of t σ) (reader_of s σ).state) i && eqb ((reader_of s σ).number i) n

      step : (b : Bool) → any (eqb n) s.history ≡ b → (c : Bool) → any holds? (count 1 r) ≡ c
          → (c : IdCase) × Found t s σ n c
      step false h c e = (New, none_equal n s.history h)
      step true h true e =
          let (j, m, both) = any_witness holds? (count 1 r) e in
          let same = eqb-true ((reader_of s σ).number j) n (search and_right) in
          (Private j, record { filled = search and_left; holds = same })
      step true h false e = (Seen, (lacks, any-equal n s.history h))
        where
          lacks : Lacks t s σ n
          lacks i a =
              any_none holds? e (register-counted σ i n a)
              (and_intro _ _ a.filled (eq-eqb ((reader_of s σ).number i) n a.holds))

  -- a register whose number the other side does not hold has no partner
  unpartnered : (σ : Side) (j n : ℕ) → HoldsAt t s (other σ) j n → Lacks t s σ n → partner p (other σ) j ≡ 0
  unpartnered σ j n a l = step (partner p (other σ) j) refl
    where
      step : (x : ℕ) → partner p (other σ) j ≡ x → x ≡ 0
      step zero e = refl
      step (suc x) e = absurd (l (suc x) (rw (other-other σ) at (partner-holds r t s p o (other σ) j n x a e)))

  -- a number that one side and the other do not hold
  neither : (σ : Side) (n : ℕ) → Lacks t s σ n → Lacks t s (other σ) n → (ρ : Side) → Lacks t s ρ n
  neither Left n a b Left = a
  neither Left n a b Right = b
  neither Right n a b Left = b
  neither Right n a b Right = a

  -- a number that an edge takes stands in an id case of that edge
  case_of-number : (σ : Side) (κ : EdgeKind) (n : ℕ) → Takes (model_of t σ) (reader_of s σ) s.history κ n
      → (c : IdCase) × InCase t s σ (register_of κ) n c × (has_case t p σ κ c ≡ true)
  unfolding Takes has_case
  case_of-number σ (Known i) n h = (Held, h, refl)
  case_of-number σ (LocallyFresh i) n h = let (c, f) = find (other σ) n in step c f
    where
      step : (c : IdCase) → Found t s (other σ) n c
          → (c : IdCase) × InCase t s σ i n c × (has_case t p σ (LocallyFresh i) c ≡ true)
      step Held f = absurd f
      step (Private j) f =
          let filled : has (filled t p (other σ)) j ≡ true = rw (o.states (other σ)) f.filled in
          (Private j, (h, f), and_intro _ _ filled (eq-eqb (partner p (other σ) j) 0 (unpartnered σ j n f h)))
      step Seen f = (Seen, (h, f), (room_iff_free r t v s p o).1 (n, (f.1, neither σ n h f.0)))
      step New f = (New, (h, f), refl)
  case_of-number σ (GloballyFresh i) n h = (New, (unseen_lacks r t s p o σ n h, h), refl)

  -- and the register of that case, if it has one, exists
  case-within : (σ : Side) (i n : ℕ) (c : IdCase) → InCase t s σ i n c → Within r c
  case-within σ i n Held a = tt
  case-within σ i n (Private j) a = registers r t s p o v (other σ) j n a.1
  case-within σ i n Seen a = tt
  case-within σ i n New a = tt

  -- ── Each case has a number ──

  -- the number of a register without partner is held by one side only
  private_number : (σ : Side) (j : ℕ) → (has (filled t p (other σ)) j && eqb (partner p (other σ) j) 0) ≡ true
      → HoldsAt t s (other σ) j ((reader_of s (other σ)).number j) × Lacks t s σ ((reader_of s (other σ)).number j)
  private_number σ j h = (holds, λ i a. not_unpartnered r t s p o (other σ) j i _ holds (rw (other-other σ) a) free)
    where
      free : partner p (other σ) j ≡ 0
      free = eqb-true (partner p (other σ) j) 0 (search and_right)

      holds : HoldsAt t s (other σ) j ((reader_of s (other σ)).number j)
      holds = record { filled = rw (← o.states (other σ)) (search and_left); holds = refl }

  -- an id case of an edge has a number that the edge takes
  number-of-case : (σ : Side) (κ : EdgeKind) (to : ℕ) (c : IdCase)
      → RegisterRule (set_of (model_of t σ) (reader_of s σ).state) to κ → has_case t p σ κ c ≡ true
      → (n : ℕ) × InCase t s σ (register_of κ) n c × Takes (model_of t σ) (reader_of s σ) s.history κ n
  unfolding Takes has_case
  number-of-case σ (Known i) to Held rule h =
      let holds : HoldsAt t s σ i ((reader_of s σ).number i) = record { filled = rule.0; holds = refl } in
      ((reader_of s σ).number i, holds, holds)
  number-of-case σ (Known i) to (Private j) rule h = absurd (false≢true h)
  number-of-case σ (Known i) to Seen rule h = absurd (false≢true h)
  number-of-case σ (Known i) to New rule h = absurd (false≢true h)
  number-of-case σ (LocallyFresh i) to Held rule h = absurd (false≢true h)
  number-of-case σ (LocallyFresh i) to (Private j) rule h =
      let (holds, lacks) = private_number σ j h in
      ((reader_of s (other σ)).number j, (lacks, holds), lacks)
  number-of-case σ (LocallyFresh i) to Seen rule h =
      let (n, (seen, lacks)) = (room_iff_free r t v s p o).0 h in (n, (lacks σ, (lacks (other σ), seen)), lacks σ)
  number-of-case σ (LocallyFresh i) to New rule h =
      let (n, unseen) = outside s.history in
      let lacks = unseen_lacks r t s p o σ n unseen in
      (n, (lacks, unseen), lacks)
  number-of-case σ (GloballyFresh i) to Held rule h = absurd (false≢true h)
  number-of-case σ (GloballyFresh i) to (Private j) rule h = absurd (false≢true h)
  number-of-case σ (GloballyFresh i) to Seen rule h = absurd (false≢true h)
  number-of-case σ (GloballyFresh i) to New rule h =
      let (n, unseen) = outside s.history in (n, (unseen_lacks r t s p o σ n unseen, unseen), unseen)

  -- ── Choices and attacks ──

  -- each choice is an attack, in the case of its number
  pub attack_of_choice : (g : Rules) (c : Choice g t s)
      → (d : IdCase) × Chosen g t s c d × (attack_of g t s c d ∈ attacks g t p)
  attack_of_choice g c = (w.0, w.1, is_attack_lem g t p (attack_of g t s c w.0) conditions within)
    where
      σ : Side
      σ = c.side

      kind : EdgeKind
      kind = (edge_of (model_of t σ) c.edge).kind

      w : (d : IdCase) × Chosen g t s c d × (has_case t p σ kind d ≡ true)
      w = case_of-number σ kind c.number c.open_edge.takes

      conditions : AttackAt g t p (attack_of g t s c w.0)
      conditions =
          record {
            allowed = c.allowed;
            exists = c.open_edge.exists;
            starts = c.open_edge.starts ∙ sym (o.states σ);
            in_case_lem = w.2;
          }

      within : Within (length p.partners) w.0
      within = rw o.long (case-within σ (register_of kind) c.number w.0 w.1)

  -- each attack is a choice, of a number in its case
  pub choice_of-attack : (g : Rules) (a : Attack) → a ∈ attacks g t p
      → (c : Choice g t s) × Chosen g t s c a.case × (a ≡ attack_of g t s c a.case)
  choice_of-attack g a m = (
    record {
      side = σ;
      allowed = h.allowed;
      edge = a.edge;
      number = w.0;
      open_edge = record { exists = h.exists; starts = starts; takes = w.2 };
    },
    w.1,
    refl,
  )
    where
      σ : Side
      σ = a.side

      h : AttackAt g t p a
      h = attack-at g t p a m

      starts : (attack_edge t a).from ≡ (reader_of s σ).state
      starts = h.starts ∙ o.states σ

      to : ℕ
      to = set_of (model_of t σ) (attack_edge t a).to

      rule : RegisterRule (set_of (model_of t σ) (reader_of s σ).state) to (attack_edge t a).kind
      rule = rw (← starts) ((valid-side v σ).edges a.edge h.exists).rule

      w : (n : ℕ)
          × InCase t s σ (register_of (attack_edge t a).kind) n a.case
          × Takes (model_of t σ) (reader_of s σ) s.history (attack_edge t a).kind n
      w = number-of-case σ (attack_edge t a).kind to a.case rule h.in_case_lem
