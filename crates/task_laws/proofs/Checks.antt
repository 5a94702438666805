-- What is known of a record that its check lets pass, and that the check lets such a record pass. Assumes nothing.
use Prim.Native.Nat.{ℕ, ◌^◌, ◌≤◌, ◌<◌}
use mathlib.Core.Path.{◌≡◌, refl}
use mathlib.Core.Bool.{Bool, true, false, not, cond, ◌||◌}
use mathlib.Core.List.{[], ◌∷◌}
use native.Mathlib.Omega.{arith}
use lib.Dec.{ltb, leb, eqb}
use borrow.Author.Tests.{ltb-true, ltb-false, leb-true, leb-false, eqb-true, not-false, lt-ltb, le-ltb, le-leb, lt-leb, eq-eqb, ne_eqb}
use Rattle.fra.specs.Lists.{any}
use Rattle.fra.specs.Registers.{has}
use Rattle.fra.specs.Model.{set_of, kind_of}
use Rattle.fra.specs.Position.{most_seen, held}
use Rattle.fra.specs.declared.Model.{Model}
use Rattle.fra.specs.declared.Task.{Task}
use Rattle.fra_laws.proofs.Tests.{or_false_left, or_false_right}
use Rattle.std.specs.Prelude.{Result, Ok, Err}
use Rattle.task.specs.declared.Refusal.{Refusal}
use Rattle.fra_laws.proofs.Tests.{clash}
use Rattle.task.specs.TaskFile.{max_registers, max_states, tag_count, max_edges, header_refusal, state_refusal, edge_exists, keeps_rule, rises, edge_refusal, rising, pair_refusal, history_refusal}
use Rattle.task_laws.proofs.SeveralTests.{none_of_three, none_of_four, all-of_six}

-- a check that refuses nothing: its test fails, and what comes after it refuses nothing
passed : (t : Bool) (r : Refusal) (c : Result (Unit {0}) Refusal) → cond t (Err r) c ≡ Ok tt → (t ≡ false) × (c ≡ Ok tt)
passed true r c e = clash (cc)
passed false r c e = (refl, e)

pub record HeaderFits (r s q : ℕ) : Type 0 where
  pub registers : r ≤ max_registers
  pub states : s ≤ max_states
  pub start : q < s

pub header-fits : (r s q : ℕ) → header_refusal r s q ≡ Ok tt → HeaderFits r s q
unfolding header_refusal
header-fits r s q e =
    let t = none_of_four (ltb max_registers r) (eqb s 0) (ltb max_states s) (leb s q) (passed _ _ _ e).0 in
    record {
      registers = ltb-false max_registers r t.0;
      states = ltb-false max_states s t.2;
      start = leb-false s q t.3;
    }

pub header_passes : {r s q : ℕ} → HeaderFits r s q → header_refusal r s q ≡ Ok tt
unfolding header_refusal
header_passes {r} {s} {q} f =
    rw (
      le-ltb max_registers r f.registers,
      ne_eqb s 0 (omega (arith, f.start)),
      le-ltb max_states s f.states,
      lt-leb s q f.start,
    )

pub record StateFits (m : Model) (due n set mark : ℕ) : Type 0 where
  pub number_due : n ≡ due
  pub set-fits : set < 2 ^ m.registers
  pub mark-fits : mark ≤ 1

pub state-fits : (m : Model) (due n set mark : ℕ) → state_refusal m due n set mark ≡ Ok tt → StateFits m due n set mark
unfolding state_refusal
state-fits m due n set mark e =
    let t = none_of_three (not (eqb n due)) (leb (2 ^ m.registers) set) (ltb 1 mark) (passed _ _ _ e).0 in
    record {
      number_due = eqb-true n due (not-false (eqb n due) t.0);
      set-fits = leb-false (2 ^ m.registers) set t.1;
      mark-fits = ltb-false 1 mark t.2;
    }

pub state_passes : {m : Model} {due n set mark : ℕ} → StateFits m due n set mark → state_refusal m due n set mark ≡ Ok tt
unfolding state_refusal
state_passes {m} {due} {n} {set} {mark} f =
    rw (eq-eqb n due f.number_due, lt-leb (2 ^ m.registers) set f.set-fits, le-ltb 1 mark f.mark-fits)

pub record EdgeExists (m : Model) (from tag kind i to : ℕ) : Type 0 where
  pub from-exists : from < m.state_count
  pub tag-exists : tag < tag_count
  pub kind-exists : kind ≤ 2
  pub register-least : 1 ≤ i
  pub register-exists : i ≤ m.registers
  pub to-exists : to < m.state_count

pub edge-exists : (m : Model) (from tag kind i to : ℕ) → edge_exists m (from ∷ tag ∷ kind ∷ i ∷ to ∷ []) ≡ true
    → EdgeExists m from tag kind i to
unfolding edge_exists
edge-exists m from tag kind i to h =
    let t = all-of_six (ltb from m.state_count) (ltb tag tag_count) (leb kind 2) (leb 1 i) (leb i m.registers) (ltb to m.state_count) h in
    record {
      from-exists = ltb-true from m.state_count t.0;
      tag-exists = ltb-true tag tag_count t.1;
      kind-exists = leb-true kind 2 t.2;
      register-least = leb-true 1 i t.3;
      register-exists = leb-true i m.registers t.4;
      to-exists = ltb-true to m.state_count t.5;
    }

pub record EdgeFits (m : Model) (from tag kind i to : ℕ) : Type 0 where
  pub exists : EdgeExists m from tag kind i to
  pub rule : keeps_rule m.registers (set_of m from) (set_of m to) (kind_of kind i) ≡ true
  pub rises : rises m (from ∷ tag ∷ kind ∷ i ∷ to ∷ []) ≡ true
  pub room : m.edge_count < max_edges

pub edge-fits : (m : Model) (from tag kind i to : ℕ) → edge_refusal m (from ∷ tag ∷ kind ∷ i ∷ to ∷ []) ≡ Ok tt
    → EdgeFits m from tag kind i to
unfolding edge_refusal
edge-fits m from tag kind i to h =
    let a = edge_exists m (from ∷ tag ∷ kind ∷ i ∷ to ∷ []) in
    let b = keeps_rule m.registers (set_of m from) (set_of m to) (kind_of kind i) in
    let c = rises m (from ∷ tag ∷ kind ∷ i ∷ to ∷ []) in
    let t = passed (not a) _ _ h in
    let u = passed (not b) _ _ t.1 in
    let v = passed (not c) _ _ u.1 in
    record {
      exists = edge-exists m from tag kind i to (not-false a t.0);
      rule = not-false b u.0;
      rises = not-false c v.0;
      room = leb-false max_edges m.edge_count (passed (leb max_edges m.edge_count) _ _ v.1).0;
    }

pub edge_passes : {m : Model} {from tag kind i to : ℕ} → EdgeFits m from tag kind i to
    → edge_refusal m (from ∷ tag ∷ kind ∷ i ∷ to ∷ []) ≡ Ok tt
unfolding edge_refusal edge_exists
edge_passes {m} {from} {tag} {kind} {i} {to} f =
    rw (
      lt-ltb from m.state_count f.exists.from-exists,
      lt-ltb tag tag_count f.exists.tag-exists,
      le-leb kind 2 f.exists.kind-exists,
      le-leb 1 i f.exists.register-least,
      le-leb i m.registers f.exists.register-exists,
      lt-ltb to m.state_count f.exists.to-exists,
      f.rule,
      f.rises,
      lt-leb max_edges m.edge_count f.room,
    )

pub record PairFits (t : Task) (l r : ℕ) : Type 0 where
  pub left : has (set_of t.left t.left.start) l ≡ true
  pub right : has (set_of t.right t.right.start) r ≡ true
  pub rises : rising t.start.partners l ≡ true
  pub unused : any (eqb r) t.start.partners ≡ false

pub pair_fits : (t : Task) (l r : ℕ) → pair_refusal t l r ≡ Ok tt → PairFits t l r
unfolding pair_refusal
pair_fits t l r h =
    let a = has (set_of t.left t.left.start) l in
    let b = has (set_of t.right t.right.start) r in
    let c = rising t.start.partners l in
    let w = none_of_four (not a) (not b) (not c) (any (eqb r) t.start.partners) (passed _ _ _ h).0 in
    record {
      left = not-false a w.0;
      right = not-false b w.1;
      rises = not-false c w.2;
      unused = w.3;
    }

pub pair_passes : {t : Task} {l r : ℕ} → PairFits t l r → pair_refusal t l r ≡ Ok tt
unfolding pair_refusal
pair_passes f = rw (f.left, f.right, f.rises, f.unused)

-- a history of this size has room for the numbers held at the start, and is not above the greatest
pub record HistoryFits (t : Task) (size : ℕ) : Type 0 where
  pub least : held t t.start ≤ size
  pub most : size ≤ most_seen max_registers

pub history-fits : (t : Task) (size : ℕ) → history_refusal t size ≡ Ok tt → HistoryFits t size
unfolding history_refusal
history-fits t size e =
    let above = ltb (most_seen max_registers) size in
    let short = ltb size (held t t.start) in
    let none = (passed (above || short) _ _ e).0 in
    record {
      least = ltb-false size (held t t.start) (or_false_right above short none);
      most = ltb-false (most_seen max_registers) size (or_false_left above short none);
    }

pub history_passes : {t : Task} {size : ℕ} → HistoryFits t size → history_refusal t size ≡ Ok tt
unfolding history_refusal
history_passes {t} {size} f = rw (le-ltb (most_seen max_registers) size f.most, le-ltb size (held t t.start) f.least)
