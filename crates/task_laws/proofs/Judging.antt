-- The check of a record refuses it by the first rule that it breaks, in checking order. Assumes nothing.
use Prim.Native.Nat.{ℕ, zero, suc, ◌+◌, ◌-◌, ◌^◌, ◌≤◌, ◌<◌}
use mathlib.Core.Path.{◌≡◌, refl, sym, ◌∙◌, ap, subst}
use mathlib.Core.Logic.{◌⊎◌, inl, inr, ⊎_elim}
use mathlib.Core.Bool.{Bool, true, false, not, cond, ◌||◌}
use mathlib.Core.List.{List, [], ◌∷◌}
use native.Mathlib.Omega.{arith}
use native.Mathlib.Decide.{ℕ_discrete, dec_lt}
use lib.ListN.{length, get_or, drop, get_or-eq_default}
use lib.Seq.{get_or-drop}
use lib.Dec.{ltb, leb, eqb}
use Rattle.fra.specs.Lists.{any, below}
use Rattle.fra.specs.Registers.{has, inside, with}
use Rattle.fra.specs.Model.{set_of, kind_of}
use Rattle.fra.specs.Valid.{RegisterRule}
use Rattle.fra.specs.Position.{right_partner, most_seen, held}
use Rattle.fra.specs.declared.Model.{Model}
use Rattle.fra.specs.declared.Task.{Task}
use Rattle.std.specs.Prelude.{Result, Ok, Err}
use Rattle.task.specs.declared.Refusal.{Refusal}
use Rattle.task.specs.declared.Refusal.TheVariants.{Misplaced, BadHeader, BadState, BadEdge, BrokenRule, EdgesNotRising, TooManyEdges, BadPair, BadHistory}
use Rattle.task.specs.Refusals.{number_of}
use Rattle.task.specs.TaskFile.{max_registers, max_states, tag_count, max_edges, header_refusal, state_refusal, edge_exists, keeps_rule, edge_refusal, rising, pair_refusal, history_refusal}
use borrow.Author.Tests.{ltb-true, ltb-false, eq-eqb, leb-true, leb-false, eqb-true, eqb-false, not-true, not-false}
use Rattle.task_laws.proofs.SeveralTests.{some-of_three, some-of_four, not_all-of_six}
use Rattle.task_laws.proofs.RegisterBits.{has-below, has_above, inside_false}
use Rattle.task_laws.proofs.Arrays.{any_at, any-index}
use Rattle.task_laws.proofs.Checks.{HeaderFits, header-fits, StateFits, state-fits, EdgeExists, edge-exists, PairFits, pair_fits, HistoryFits, history-fits}
use Rattle.task_laws.proofs.Models.{Whole, rule-kept}
use Rattle.task_laws.proofs.RecordsRead.{rising_zeros}
use Rattle.task_laws.proofs.Ties.{Written, Paired}
use Rattle.task_laws.proofs.HeldAtStart.{start-set}
use Rattle.fra_laws.proofs.Tests.{and_false, or_cases, not_both, passes_or_fails}
use Rattle.fra_laws.proofs.Registers.{has_positive}
use Rattle.task.specs.Records.{Record, header, state, edge, pair, history, end, Allowed, states_read, registers, earlier, start_set, held_at_start, Rule, place, header-rule, state-rule, existence, register-rule, edge_order, edge-limit, pair-rule, history-rule, number, order, HeaderFault, StateFault, Nonexistence, RegisterFault, KindFault, OrderFault, LimitFault, PairFault, HistoryFault, Breaks}

-- ── The first rule that is broken ──

-- the record breaks none of the first n rules
abbrev Below : ℕ → List Record → Record → Type 0
Below n l x = (rule : Rule) → order rule < n → Breaks rule l x → ⊥

-- the refusal of a record that breaks a rule, and its number
abbrev pub refusal_for : Rule → Refusal
refusal_for place = Misplaced
refusal_for header-rule = BadHeader
refusal_for state-rule = BadState
refusal_for existence = BadEdge
refusal_for register-rule = BrokenRule
refusal_for edge_order = EdgesNotRising
refusal_for edge-limit = TooManyEdges
refusal_for pair-rule = BadPair
refusal_for history-rule = BadHistory

pub number_of-refusal_for : (rule : Rule) → number_of (refusal_for rule) ≡ number rule
unfolding number
number_of-refusal_for place = refl
number_of-refusal_for header-rule = refl
number_of-refusal_for state-rule = refl
number_of-refusal_for existence = refl
number_of-refusal_for register-rule = refl
number_of-refusal_for edge_order = refl
number_of-refusal_for edge-limit = refl
number_of-refusal_for pair-rule = refl
number_of-refusal_for history-rule = refl

-- a result is right for a record: a refusal is that of the first rule that it breaks
pub data Judged {A : Type 0} (l : List Record) (x : Record) (r : Result A Refusal) : Type 0 where
  obeys : (a : A) → r ≡ Ok a → ((rule : Rule) → Breaks rule l x → ⊥) → Judged l x r
  breaks : (rule : Rule) → r ≡ Err (refusal_for rule) → Breaks rule l x → Below (order rule) l x → Judged l x r

-- the rule at a place of the checking order
rule_of : ℕ → Rule
rule_of zero = place
rule_of (suc zero) = header-rule
rule_of (suc (suc zero)) = state-rule
rule_of (suc (suc (suc zero))) = existence
rule_of (suc (suc (suc (suc zero)))) = register-rule
rule_of (suc (suc (suc (suc (suc zero))))) = edge_order
rule_of (suc (suc (suc (suc (suc (suc zero)))))) = edge-limit
rule_of (suc (suc (suc (suc (suc (suc (suc zero))))))) = pair-rule
rule_of (suc (suc (suc (suc (suc (suc (suc (suc n)))))))) = history-rule

rule_of_order : (rule : Rule) → rule_of (order rule) ≡ rule
unfolding rule_of order
rule_of_order place = refl
rule_of_order header-rule = refl
rule_of_order state-rule = refl
rule_of_order existence = refl
rule_of_order register-rule = refl
rule_of_order edge_order = refl
rule_of_order edge-limit = refl
rule_of_order pair-rule = refl
rule_of_order history-rule = refl

pub order_injective : (a b : Rule) → order a ≡ order b → a ≡ b
order_injective a b e = sym (rule_of_order a) ∙ ap rule_of e ∙ rule_of_order b

order_last : (rule : Rule) → order rule ≤ order history-rule
unfolding order
order_last place = omega arith
order_last header-rule = omega arith
order_last state-rule = omega arith
order_last existence = omega arith
order_last register-rule = omega arith
order_last edge_order = omega arith
order_last edge-limit = omega arith
order_last pair-rule = omega arith
order_last history-rule = omega arith

-- 1 and 2 are no rules of a record
pub number-least : (rule : Rule) → 3 ≤ number rule
unfolding number
number-least place = omega arith
number-least header-rule = omega arith
number-least state-rule = omega arith
number-least existence = omega arith
number-least register-rule = omega arith
number-least edge_order = omega arith
number-least edge-limit = omega arith
number-least pair-rule = omega arith
number-least history-rule = omega arith

-- and 11 to 14 neither
pub number_apart : (rule : Rule) → (number rule ≤ 10) ⊎ (15 ≤ number rule)
unfolding number
number_apart place = inl (omega arith)
number_apart header-rule = inl (omega arith)
number_apart state-rule = inl (omega arith)
number_apart existence = inl (omega arith)
number_apart register-rule = inl (omega arith)
number_apart edge_order = inl (omega arith)
number_apart edge-limit = inl (omega arith)
number_apart pair-rule = inl (omega arith)
number_apart history-rule = inr (omega arith)

module _ (l : List Record) (x : Record) where
  -- one rule more is not broken
  pass : (rule : Rule) → (Breaks rule l x → ⊥) → Below (order rule) l x → Below (suc (order rule)) l x
  pass rule kept below other h broken = at (ℕ_discrete (order other) (order rule))
    where
      at : Dec (order other ≡ order rule) → ⊥
      at (yes e) = kept (subst (λ (a : Rule). Breaks a l x) (order_injective other rule e) broken)
      at (no d) = below other (omega arith) broken

  -- a record in its place
  placed : Allowed l x → Below (suc (order place)) l x
  unfolding order Breaks
  placed allowed = pass place (λ out. out allowed) (λ rule h. absurd (omega arith))

  pub misplaced : {A : Type 0} → (Allowed l x → ⊥) → Judged {A = A} l x (Err Misplaced)
  unfolding order Breaks
  misplaced out = breaks place refl out (λ rule h. absurd (omega arith))

  -- no rule is broken
  obeyed : {A : Type 0} (a : A) → Below (suc (order history-rule)) l x → Judged l x (Ok a)
  obeyed a below = obeys a refl (λ rule. below rule (omega (arith, order_last rule)))

  -- a test decides whether a rule is broken
  check : (rule : Rule) (t : Bool) (c : Result (Unit {0}) Refusal) → Below (order rule) l x → (t ≡ true → Breaks rule l x)
      → (t ≡ false → Breaks rule l x → ⊥)
      → (t ≡ false → Below (suc (order rule)) l x → Judged l x c)
      → Judged l x (cond t (Err (refusal_for rule)) c)
  check rule true c below faulty kept rest = breaks rule refl (faulty refl) below
  check rule false c below faulty kept rest = rest refl (pass rule (kept refl) below)

-- ── Headers ──

header_faulty : (r n q : ℕ) → (ltb max_registers r || eqb n 0 || ltb max_states n || leb n q) ≡ true → HeaderFault (header r n q)
unfolding HeaderFault
header_faulty r n q h = at (some-of_four _ _ _ _ h)
  where
    at : (ltb max_registers r ≡ true) ⊎ (eqb n 0 ≡ true) ⊎ (ltb max_states n ≡ true) ⊎ (leb n q ≡ true)
        → HeaderFault (header r n q)
    at (inl e) = inl (ltb-true max_registers r e)
    at (inr (inl e)) = inr (inl (eqb-true n 0 e))
    at (inr (inr (inl e))) = inr (inr (inl (ltb-true max_states n e)))
    at (inr (inr (inr e))) = inr (inr (inr (leb-true n q e)))

header-kept : {r n q : ℕ} → HeaderFits r n q → HeaderFault (header r n q) → ⊥
unfolding HeaderFault
header-kept f (inl h) = omega arith
header-kept f (inr (inl h)) = omega arith
header-kept f (inr (inr (inl h))) = omega arith
header-kept f (inr (inr (inr h))) = omega arith

pub header-judged : (l : List Record) (r n q : ℕ) → Allowed l (header r n q) → Judged l (header r n q) (header_refusal r n q)
unfolding header_refusal order Breaks StateFault Nonexistence KindFault OrderFault LimitFault PairFault HistoryFault
header-judged l r n q allowed =
    let x = header r n q in
    check l x header-rule _ (Ok tt) (placed l x allowed) (header_faulty r n q)
    (λ e. header-kept (header-fits r n q (rw e)))
    (λ e below.
    obeyed l x tt
    (pass l x history-rule (λ b. b)
    (pass l x pair-rule (λ b. b)
    (pass l x edge-limit (λ b. b)
    (pass l x edge_order (λ b. b)
    (pass l x register-rule (λ b. b) (pass l x existence (λ b. b) (pass l x state-rule (λ b. b) below))))))))

-- ── States ──

module _ (l : List Record) (m : Model) (q n set mark : ℕ) (due : states_read l ≡ q) (same : m.registers ≡ registers l) where
  state_faulty : (not (eqb n q) || leb (2 ^ m.registers) set || ltb 1 mark) ≡ true → StateFault l (state n set mark)
  unfolding StateFault
  state_faulty h = at (some-of_three _ _ _ h)
    where
      at : (not (eqb n q) ≡ true) ⊎ (leb (2 ^ m.registers) set ≡ true) ⊎ (ltb 1 mark ≡ true) → StateFault l (state n set mark)
      at (inl e) = inl (λ d. eqb-false n q (not-true (eqb n q) e) (d ∙ due))
      at (inr (inl e)) =
          let w = has_above m.registers set (leb-true (2 ^ m.registers) set e) in
          inr (inl (w.0, w.1, omega arith))
      at (inr (inr e)) = inr (inr (ltb-true 1 mark e))

  state-kept : StateFits m q n set mark → StateFault l (state n set mark) → ⊥
  unfolding StateFault
  state-kept f (inl h) = h (f.number_due ∙ sym due)
  state-kept f (inr (inl w)) = omega (arith, has-below m.registers set w.0 f.set-fits w.1)
  state-kept f (inr (inr h)) = omega arith

  pub state-judged : Allowed l (state n set mark) → Judged l (state n set mark) (state_refusal m q n set mark)
  unfolding state_refusal order Breaks HeaderFault Nonexistence KindFault OrderFault LimitFault PairFault HistoryFault
  state-judged allowed =
      let x = state n set mark in
      check l x state-rule _ (Ok tt)
      (pass l x header-rule (λ b. b) (placed l x allowed)) state_faulty (λ e. state-kept (state-fits m q n set mark (rw e)))
      (λ e below.
      obeyed l x tt
      (pass l x history-rule (λ b. b)
      (pass l x pair-rule (λ b. b)
      (pass l x edge-limit (λ b. b)
      (pass l x edge_order (λ b. b) (pass l x register-rule (λ b. b) (pass l x existence (λ b. b) below)))))))

-- ── Edges ──

pub register_faulty : (r from to kind i : ℕ) → keeps_rule r from to (kind_of kind i) ≡ false → RegisterFault from to i kind
unfolding keeps_rule RegisterFault
register_faulty r from to zero i h =
    ⊎_elim (λ (e : has from i ≡ false). inl e) (λ (e : inside r to (has from) ≡ false). inr (inside_false r to (has from) e))
    (and_false _ _ h)
register_faulty r from to (suc zero) i h = inside_false r to (with from i) h
register_faulty r from to (suc (suc kind)) i h = inside_false r to (with from i) h

pub register-kept : (from to kind i : ℕ) → RegisterRule from to (kind_of kind i) → RegisterFault from to i kind → ⊥
unfolding RegisterFault
register-kept from to zero i rule (inl e) = not_both _ rule.0 e
register-kept from to zero i rule (inr w) = not_both _ (rule.1 w.0 w.1) w.2
register-kept from to (suc zero) i rule w = not_both _ (rule w.0 w.1) w.2
register-kept from to (suc (suc kind)) i rule w = not_both _ (rule w.0 w.1) w.2

module _ (l : List Record) (m : Model) (from tag kind i to : ℕ) (w : Written l m) where
  existence_faulty : edge_exists m (from ∷ tag ∷ kind ∷ i ∷ to ∷ []) ≡ false → Nonexistence l (edge from tag kind i to)
  unfolding edge_exists Nonexistence
  existence_faulty h = at (not_all-of_six _ _ _ _ _ _ h)
    where
      at : (ltb from m.state_count ≡ false) ⊎ (ltb tag tag_count ≡ false) ⊎ (leb kind 2 ≡ false) ⊎ (leb 1 i ≡ false)
          ⊎ (leb i m.registers ≡ false) ⊎ (ltb to m.state_count ≡ false)
          → Nonexistence l (edge from tag kind i to)
      at (inl e) = inl (omega (arith, ltb-false from m.state_count e))
      at (inr (inl e)) = inr (inl (ltb-false tag tag_count e))
      at (inr (inr (inl e))) = inr (inr (inl (leb-false kind 2 e)))
      at (inr (inr (inr (inl e)))) = inr (inr (inr (inl (omega (arith, leb-false 1 i e)))))
      at (inr (inr (inr (inr (inl e))))) = inr (inr (inr (inr (inl (omega (arith, leb-false i m.registers e))))))
      at (inr (inr (inr (inr (inr e))))) = inr (inr (inr (inr (inr (omega (arith, ltb-false to m.state_count e))))))

  existence_kept : EdgeExists m from tag kind i to → Nonexistence l (edge from tag kind i to) → ⊥
  unfolding Nonexistence
  existence_kept f (inl h) = omega arith
  existence_kept f (inr (inl h)) = omega arith
  existence_kept f (inr (inr (inl h))) = omega arith
  existence_kept f (inr (inr (inr (inl h)))) = omega arith
  existence_kept f (inr (inr (inr (inr (inl h))))) = omega arith
  existence_kept f (inr (inr (inr (inr (inr h))))) = omega arith

  rule_faulty : keeps_rule m.registers (set_of m from) (set_of m to) (kind_of kind i) ≡ false
      → KindFault l (edge from tag kind i to)
  unfolding KindFault
  rule_faulty h =
      rw (← w.set_at from, ← w.set_at to) (register_faulty m.registers (set_of m from) (set_of m to) kind i h)

  rule-obeyed : Whole m → EdgeExists m from tag kind i to
      → keeps_rule m.registers (set_of m from) (set_of m to) (kind_of kind i) ≡ true
      → KindFault l (edge from tag kind i to)
      → ⊥
  unfolding KindFault
  rule-obeyed whole f h fault =
      register-kept (set_of m from) (set_of m to) kind i
      (rule-kept m.registers (set_of m from) (set_of m to) (kind_of kind i) (whole.valid.states to f.to-exists).existing h)
      (rw (w.set_at from, w.set_at to) fault)

  pub edge-judged : Whole m → Allowed l (edge from tag kind i to)
      → Judged l (edge from tag kind i to) (edge_refusal m (from ∷ tag ∷ kind ∷ i ∷ to ∷ []))
  unfolding edge_refusal order Breaks HeaderFault StateFault OrderFault LimitFault PairFault HistoryFault
  edge-judged whole allowed =
      check l x existence _ _
      (pass l x state-rule (λ b. b) (pass l x header-rule (λ b. b) (placed l x allowed)))
      (λ e. existence_faulty (not-true _ e))
      (λ e. existence_kept (edge-exists m from tag kind i to (not-false _ e)))
      (λ d below.
      check l x register-rule _ _ below (λ e. rule_faulty (not-true _ e))
      (λ e. rule-obeyed whole (edge-exists m from tag kind i to (not-false _ d)) (not-false _ e))
      (λ e below.
      check l x edge_order _ _ below (λ e. sym (w.order from (tag ∷ kind ∷ i ∷ to ∷ [])) ∙ not-true _ e)
      (λ e h. not_both _ (not-false _ e) (w.order from (tag ∷ kind ∷ i ∷ to ∷ []) ∙ h)) (λ e below.
      check l x edge-limit (leb max_edges m.edge_count) (Ok tt) below
      (λ e. omega (arith, leb-true max_edges m.edge_count e, whole.valid.edges_placed))
      (λ e h. omega (arith, leb-false max_edges m.edge_count e))
      (λ e below. obeyed l x tt (pass l x history-rule (λ b. b) (pass l x pair-rule (λ b. b) below))))))
    where
      x : Record
      x = edge from tag kind i to

-- ── Pairs ──

-- a partner stands at its left register's place
partner-place : (partners : List ℕ) (a b : ℕ) → right_partner partners a ≡ b → 1 ≤ b
    → (k : ℕ) × (a ≡ suc k) × (k < length partners) × (get_or partners k 0 ≡ b)
unfolding right_partner
partner-place partners zero b e h = absurd (omega arith)
partner-place partners (suc k) b e h = (k, refl, within (dec_lt k (length partners)), e)
  where
    within : Dec (k < length partners) → k < length partners
    within (yes d) = d
    within (no d) =
        let out : length partners ≤ k = omega arith in
        absurd (omega (arith, get_or-eq_default partners 0 out))

-- where a pair does not rise, another pair is not below it
not_rising : (partners : List ℕ) (a : ℕ) → rising partners a ≡ false
    → (i : ℕ) × (j : ℕ) × (right_partner partners i ≡ j) × (1 ≤ j) × (a ≤ i)
unfolding rising right_partner
not_rising partners a h =
    let w = any-index (λ x. ltb 0 x) (drop (a - 1) partners) 0 (not-false _ h) in (
      suc (a - 1 + w.0),
      get_or partners (a - 1 + w.0) 0,
      refl,
      rw (← get_or-drop (a - 1) partners w.0 0) (ltb-true 0 (get_or (drop (a - 1) partners) w.0 0) w.2),
      omega arith,
    )

pub rising_above : (partners : List ℕ) (a i j : ℕ) → rising partners a ≡ true → right_partner partners i ≡ j → 1 ≤ j → i < a
unfolding right_partner
rising_above partners a zero j h e p = absurd (omega arith)
rising_above partners a (suc k) j h e p = at (dec_lt (suc k) a)
  where
    at : Dec (suc k < a) → suc k < a
    at (yes d) = d
    at (no d) = absurd (omega (arith, rising_zeros partners a h k (omega arith)))

module _ (l : List Record) (t : Task) (a b : ℕ) (left : Written (earlier l) t.left) (right : Written l t.right)
    (paired : Paired l t.start.partners) where
  pair_faulty : (not (has (set_of t.left t.left.start) a) ≡ true)
      ⊎ (not (has (set_of t.right t.right.start) b) ≡ true)
      ⊎ (not (rising t.start.partners a) ≡ true)
      ⊎ (any (eqb b) t.start.partners ≡ true)
      → PairFault l (pair a b)
  unfolding PairFault right_partner
  pair_faulty (inl e) = inl (rw (← start-set (earlier l) t.left left) (not-true _ e))
  pair_faulty (inr (inl e)) = inr (inl (rw (← start-set l t.right right) (not-true _ e)))
  pair_faulty (inr (inr (inl e))) =
      let w = not_rising t.start.partners a (not-true _ e) in
      inr (inr (inl (w.0, w.1, paired.read w.0 w.1 w.2 w.3, w.4)))
  pair_faulty (inr (inr (inr e))) =
      let w = any-index (eqb b) t.start.partners 0 e in
      let used = sym (eqb-true b (get_or t.start.partners w.0 0) w.2) in
      ⊎_elim (λ (h : has (start_set l) b ≡ true). inr (inr (inr (suc w.0, paired.read (suc w.0) b used (has_positive (start_set l) b h)))))
      (λ (h : has (start_set l) b ≡ false). inr (inl h)) (passes_or_fails (has (start_set l) b))

  pair-kept : PairFits t a b → PairFault l (pair a b) → ⊥
  unfolding PairFault
  pair-kept f (inl h) = not_both _ f.left (rw (start-set (earlier l) t.left left) h)
  pair-kept f (inr (inl h)) = not_both _ f.right (rw (start-set l t.right right) h)
  pair-kept f (inr (inr (inl w))) =
      let old = paired.joined w.0 w.1 w.2 in
      omega (arith, rising_above t.start.partners a w.0 w.1 f.rises old.1 old.0)
  pair-kept f (inr (inr (inr w))) =
      let old = paired.joined w.0 b w.1 in
      let v = partner-place t.start.partners w.0 b old.1 old.0 in
      not_both _ (any_at (eqb b) t.start.partners v.0 0 v.2 (eq-eqb b _ (sym v.3))) f.unused

  pub pair-judged : Allowed l (pair a b) → Judged l (pair a b) (pair_refusal t a b)
  unfolding pair_refusal order Breaks HeaderFault StateFault Nonexistence KindFault OrderFault LimitFault HistoryFault
  pair-judged allowed =
      let x = pair a b in
      check l x pair-rule _ (Ok tt)
      (pass l x edge-limit (λ b. b)
      (pass l x edge_order (λ b. b)
      (pass l x register-rule (λ b. b)
      (pass l x existence (λ b. b) (pass l x state-rule (λ b. b) (pass l x header-rule (λ b. b) (placed l x allowed)))))))
      (λ e. pair_faulty (some-of_four _ _ _ _ e)) (λ e. pair-kept (pair_fits t a b (rw e)))
      (λ e below. obeyed l x tt (pass l x history-rule (λ b. b) below))

-- ── The history's size ──

module _ (l : List Record) (t : Task) (n : ℕ) (same : held t t.start ≡ held_at_start l) where
  history_faulty : (ltb (most_seen max_registers) n || ltb n (held t t.start)) ≡ true → HistoryFault l (history n)
  unfolding HistoryFault
  history_faulty h = at (or_cases _ _ h)
    where
      at : (ltb (most_seen max_registers) n ≡ true) ⊎ (ltb n (held t t.start) ≡ true) → HistoryFault l (history n)
      at (inl e) = inl (ltb-true (most_seen max_registers) n e)
      at (inr e) = inr (rw (← same) (ltb-true n (held t t.start) e))

  history-kept : HistoryFits t n → HistoryFault l (history n) → ⊥
  unfolding HistoryFault
  history-kept f (inl h) = omega arith
  history-kept f (inr h) = omega arith

  pub history-judged : Allowed l (history n) → Judged l (history n) (history_refusal t n)
  unfolding history_refusal order Breaks HeaderFault StateFault Nonexistence KindFault OrderFault LimitFault PairFault
  history-judged allowed =
      let x = history n in
      check l x history-rule _ (Ok tt)
      (pass l x pair-rule (λ b. b)
      (pass l x edge-limit (λ b. b)
      (pass l x edge_order (λ b. b)
      (pass l x register-rule (λ b. b)
      (pass l x existence (λ b. b) (pass l x state-rule (λ b. b) (pass l x header-rule (λ b. b) (placed l x allowed))))))))
      history_faulty (λ e. history-kept (history-fits t n (rw e))) (λ e. obeyed l x tt)

-- ── The end ──

pub end-judged : (l : List Record) → Allowed l end → Judged {A = Unit {0}} l end (Ok tt)
unfolding order Breaks HeaderFault StateFault Nonexistence KindFault OrderFault LimitFault PairFault HistoryFault
end-judged l allowed =
    obeyed l end tt
    (pass l end history-rule (λ b. b)
    (pass l end pair-rule (λ b. b)
    (pass l end edge-limit (λ b. b)
    (pass l end edge_order (λ b. b)
    (pass l end register-rule (λ b. b)
    (pass l end existence (λ b. b)
    (pass l end state-rule (λ b. b) (pass l end header-rule (λ b. b) (placed l end allowed)))))))))
