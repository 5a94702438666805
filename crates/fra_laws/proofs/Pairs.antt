-- Pairs of a left and a right edge that can take one number: which kinds answer each other, and the history's size after such a
-- round. For any rules and register count. Assumes nothing.
use Prim.Native.Nat.{ℕ, zero, suc, ◌≤◌, ◌<◌}
use mathlib.Core.Path.{◌≡◌, refl, sym}
use mathlib.Core.Logic.{◌⊎◌, inl, inr}
use mathlib.Core.Bool.{Bool, true, false, cond, false≢true}
use mathlib.Core.List.Memᴰ
use mathlib.Core.List.{List, [], ◌∷◌}
use native.Mathlib.Omega.{arith}
use lib.ListN.{length}
use borrow.Author.Tests.{eqb-true, eq-eqb}
use Rattle.fra.specs.Lists.{◌∈◌}
use Rattle.fra.specs.Registers.{has}
use Rattle.fra.specs.Model.{set_of, edge_of, register_of, is_fresh}
use Rattle.fra.specs.Rules.{Rules, other, left_of, right_of, model_of}
use Rattle.fra.specs.Position.{state_of, filled, partner, has_room}
use Rattle.fra.specs.Game.{has_case, attacks, answers, replies, size_after, moved}
use Rattle.fra.specs.Valid.{RegisterRule, ValidEdge, Valid}
use Rattle.fra.specs.declared.EdgeKind.{EdgeKind}
use Rattle.fra.specs.declared.EdgeKind.TheVariants.{Known, LocallyFresh, GloballyFresh}
use Rattle.fra.specs.declared.Edge.{Edge}
use Rattle.fra.specs.declared.Model.{Model}
use Rattle.fra.specs.declared.Position.{Position}
use Rattle.fra.specs.declared.Task.{Task}
use Rattle.fra.specs.declared.Side.{Side}
use Rattle.fra.specs.declared.Side.TheVariants.{Left, Right}
use Rattle.fra.specs.declared.IdCase.{IdCase}
use Rattle.fra.specs.declared.IdCase.TheVariants.{Held, Private, Seen, New}
use Rattle.fra.specs.declared.Attack.{Attack}
use Rattle.fra_laws.specs.Joint.{compatible, sizes_after}
use Rattle.fra_laws.proofs.Tests.{and_right, and_intro}
use Rattle.fra_laws.proofs.AttackMembers.{Within, attack-at, reply_at}
use Rattle.fra_laws.proofs.Legal.{valid-side, Legal, partner_mutual}

-- ── Kinds that answer each other ──

-- what answers a known edge of a register with partner b: the known edge of the partner, or a locally fresh one if there is none
pub known-answers : (b j : ℕ) → answers b Held (Known j) ≡ true → b ≡ j
unfolding answers
known-answers zero j e = absurd (false≢true e)
known-answers (suc b) j e = sym (eqb-true j (suc b) e)

pub fresh_answers : (b j : ℕ) → answers b Held (LocallyFresh j) ≡ true → b ≡ 0
unfolding answers
fresh_answers zero j e = refl
fresh_answers (suc b) j e = absurd (false≢true e)

pub none_answers : (b j : ℕ) → answers b Held (GloballyFresh j) ≡ true → ⊥
unfolding answers
none_answers zero j e = false≢true e
none_answers (suc b) j e = false≢true e

-- which kinds are compatible, by which of them is known
module _ (p : Position) (s : Side) where
  pub own-known : (own others : EdgeKind) → is_fresh own ≡ false
      → compatible p s own others ≡ answers (partner p s (register_of own)) Held others
  unfolding compatible
  own-known (Known i) others e = refl
  own-known (LocallyFresh i) others e = absurd (false≢true (sym e))
  own-known (GloballyFresh i) others e = absurd (false≢true (sym e))

  pub other-known : (own others : EdgeKind) → is_fresh own ≡ true → is_fresh others ≡ false
      → compatible p s own others ≡ answers (partner p (other s) (register_of others)) Held own
  unfolding compatible
  other-known (Known i) others e f = absurd (false≢true e)
  other-known (LocallyFresh i) (Known j) e f = refl
  other-known (LocallyFresh i) (LocallyFresh j) e f = absurd (false≢true (sym f))
  other-known (LocallyFresh i) (GloballyFresh j) e f = absurd (false≢true (sym f))
  other-known (GloballyFresh i) (Known j) e f = refl
  other-known (GloballyFresh i) (LocallyFresh j) e f = absurd (false≢true (sym f))
  other-known (GloballyFresh i) (GloballyFresh j) e f = absurd (false≢true (sym f))

  pub both_fresh : (own others : EdgeKind) → is_fresh own ≡ true → is_fresh others ≡ true → compatible p s own others ≡ true
  unfolding compatible
  both_fresh (Known i) others e f = absurd (false≢true e)
  both_fresh (LocallyFresh i) (Known j) e f = absurd (false≢true f)
  both_fresh (LocallyFresh i) (LocallyFresh j) e f = refl
  both_fresh (LocallyFresh i) (GloballyFresh j) e f = refl
  both_fresh (GloballyFresh i) (Known j) e f = absurd (false≢true f)
  both_fresh (GloballyFresh i) (LocallyFresh j) e f = refl
  both_fresh (GloballyFresh i) (GloballyFresh j) e f = refl

-- a kind that answers a case of another is compatible with it
answers-compatible : (t : Task) (p : Position) (s : Side) (own : EdgeKind) (c : IdCase) (others : EdgeKind)
    → has_case t p s own c ≡ true → answers (partner p s (register_of own)) c others ≡ true → compatible p s own others ≡ true
unfolding has_case answers compatible
answers-compatible t p s (Known i) Held others h e = e
answers-compatible t p s (Known i) (Private j) others h e = absurd (false≢true h)
answers-compatible t p s (Known i) Seen others h e = absurd (false≢true h)
answers-compatible t p s (Known i) New others h e = absurd (false≢true h)
answers-compatible t p s (LocallyFresh i) Held others h e = absurd (false≢true h)
answers-compatible t p s (LocallyFresh i) (Private j) (Known k) h e =
    let alone = eqb-true (partner p (other s) j) 0 (and_right (has (filled t p (other s)) j) _ h) in rw (eqb-true k j e, alone)
answers-compatible t p s (LocallyFresh i) (Private j) (LocallyFresh k) h e = refl
answers-compatible t p s (LocallyFresh i) (Private j) (GloballyFresh k) h e = refl
answers-compatible t p s (LocallyFresh i) Seen (Known k) h e = absurd (false≢true e)
answers-compatible t p s (LocallyFresh i) Seen (LocallyFresh k) h e = refl
answers-compatible t p s (LocallyFresh i) Seen (GloballyFresh k) h e = refl
answers-compatible t p s (LocallyFresh i) New (Known k) h e = absurd (false≢true e)
answers-compatible t p s (LocallyFresh i) New (LocallyFresh k) h e = refl
answers-compatible t p s (LocallyFresh i) New (GloballyFresh k) h e = refl
answers-compatible t p s (GloballyFresh i) Held others h e = absurd (false≢true h)
answers-compatible t p s (GloballyFresh i) (Private j) others h e = absurd (false≢true h)
answers-compatible t p s (GloballyFresh i) Seen others h e = absurd (false≢true h)
answers-compatible t p s (GloballyFresh i) New (Known k) h e = absurd (false≢true e)
answers-compatible t p s (GloballyFresh i) New (LocallyFresh k) h e = refl
answers-compatible t p s (GloballyFresh i) New (GloballyFresh k) h e = refl

-- the history sizes after a round of two such edges, from a position
abbrev pub sizes_from : Task → Position → EdgeKind → EdgeKind → List ℕ
sizes_from t p own others = sizes_after (length p.partners) (has_room t p) p.history own others

-- it has the size that a round in this case leads to
answers-size : (r : ℕ) (t : Task) (p : Position) (s : Side) (own : EdgeKind) (c : IdCase) (others : EdgeKind)
    → has_case t p s own c ≡ true → answers (partner p s (register_of own)) c others ≡ true
    → size_after r c p.history ∈ sizes_after r (has_room t p) p.history own others
unfolding has_case answers sizes_after
answers-size r t p s (Known i) Held (Known k) h e = Memᴰ.head refl
answers-size r t p s (Known i) Held (LocallyFresh k) h e = Memᴰ.head refl
answers-size r t p s (Known i) Held (GloballyFresh k) h e = Memᴰ.head refl
answers-size r t p s (Known i) (Private j) others h e = absurd (false≢true h)
answers-size r t p s (Known i) Seen others h e = absurd (false≢true h)
answers-size r t p s (Known i) New others h e = absurd (false≢true h)
answers-size r t p s (LocallyFresh i) Held others h e = absurd (false≢true h)
answers-size r t p s (LocallyFresh i) (Private j) (Known k) h e = Memᴰ.head refl
answers-size r t p s (LocallyFresh i) (Private j) (LocallyFresh k) h e = absurd (false≢true e)
answers-size r t p s (LocallyFresh i) (Private j) (GloballyFresh k) h e = absurd (false≢true e)
answers-size r t p s (LocallyFresh i) Seen (Known k) h e = absurd (false≢true e)
answers-size r t p s (LocallyFresh i) Seen (LocallyFresh k) h e = rw h (Memᴰ.tail (Memᴰ.head refl))
answers-size r t p s (LocallyFresh i) Seen (GloballyFresh k) h e = absurd (false≢true e)
answers-size r t p s (LocallyFresh i) New (Known k) h e = absurd (false≢true e)
answers-size r t p s (LocallyFresh i) New (LocallyFresh k) h e = Memᴰ.head refl
answers-size r t p s (LocallyFresh i) New (GloballyFresh k) h e = Memᴰ.head refl
answers-size r t p s (GloballyFresh i) Held others h e = absurd (false≢true h)
answers-size r t p s (GloballyFresh i) (Private j) others h e = absurd (false≢true h)
answers-size r t p s (GloballyFresh i) Seen others h e = absurd (false≢true h)
answers-size r t p s (GloballyFresh i) New (Known k) h e = absurd (false≢true e)
answers-size r t p s (GloballyFresh i) New (LocallyFresh k) h e = Memᴰ.head refl
answers-size r t p s (GloballyFresh i) New (GloballyFresh k) h e = Memᴰ.head refl

-- it is the same from the other side
sizes-other : (r : ℕ) (room : Bool) (size : ℕ) (own others : EdgeKind)
    → sizes_after r room size others own ≡ sizes_after r room size own others
unfolding sizes_after
sizes-other r room size (Known i) (Known j) = refl
sizes-other r room size (Known i) (LocallyFresh j) = refl
sizes-other r room size (Known i) (GloballyFresh j) = refl
sizes-other r room size (LocallyFresh i) (Known j) = refl
sizes-other r room size (LocallyFresh i) (LocallyFresh j) = refl
sizes-other r room size (LocallyFresh i) (GloballyFresh j) = refl
sizes-other r room size (GloballyFresh i) (Known j) = refl
sizes-other r room size (GloballyFresh i) (LocallyFresh j) = refl
sizes-other r room size (GloballyFresh i) (GloballyFresh j) = refl

-- the register that an edge reads is in the set
abbrev pub Reads : ℕ → EdgeKind → Type 0
Reads set (Known i) = has set i ≡ true
Reads set (LocallyFresh i) = Unit {0}
Reads set (GloballyFresh i) = Unit {0}

pub edge_reads : {m : Model} {e : Edge} → ValidEdge m e → Reads (set_of m e.from) e.kind
edge_reads {m} {e} v = step e.kind v.rule
  where
    step : (kind : EdgeKind) → RegisterRule (set_of m e.from) (set_of m e.to) kind → Reads (set_of m e.from) kind
    step (Known i) h = h.0
    step (LocallyFresh i) h = tt
    step (GloballyFresh i) h = tt

-- a case in which a compatible kind answers, and a round in which the history then has the size
pub record Answered (r : ℕ) (t : Task) (p : Position) (s : Side) (own others : EdgeKind) (size : ℕ) : Type 0 where
  pub case : IdCase
  pub within : Within r case
  pub leads : size_after r case p.history ≡ size
  pub in_case_lem : has_case t p s own case ≡ true
  pub answering : answers (partner p s (register_of own)) case others ≡ true

partner-answers : (b j : ℕ) → 1 ≤ j → b ≡ j → answers b Held (Known j) ≡ true
unfolding answers
partner-answers zero j l e = absurd (omega arith)
partner-answers (suc b) j l e = eq-eqb j (suc b) (sym e)

-- two locally fresh edges take a new number, or one seen before if there is room
locally_fresh_answers : (r : ℕ) (t : Task) (p : Position) (s : Side) (i j size : ℕ)
    → size ∈ size_after r New p.history ∷ cond (has_room t p) (p.history ∷ []) []
    → Answered r t p s (LocallyFresh i) (LocallyFresh j) size
unfolding has_case answers
locally_fresh_answers r t p s i j size m = step (Memᴰ.cases_cons m) (has_room t p) refl
  where
    step : (size ≡ size_after r New p.history) ⊎ (size ∈ cond (has_room t p) (p.history ∷ []) [])
        → (room : Bool) → has_room t p ≡ room
        → Answered r t p s (LocallyFresh i) (LocallyFresh j) size
    step (inl e) room q = record { case = New; within = tt; leads = sym e; in_case_lem = refl; answering = refl }
    step (inr n) true q =
        let e : size ≡ p.history = Memᴰ.eq_of_singleton (rw q at n) in
        record { case = Seen; within = tt; leads = sym e; in_case_lem = q; answering = refl }
    step (inr n) false q = absurd (Memᴰ.not-nil (rw q at n))

pub compatible-answers : (r : ℕ) (t : Task) (p : Position) (s : Side) (own others : EdgeKind) (size : ℕ) → 1 ≤ register_of others
    → register_of others ≤ r → Reads (filled t p (other s)) others → compatible p s own others ≡ true
    → size ∈ sizes_after r (has_room t p) p.history own others
    → Answered r t p s own others size
unfolding has_case answers compatible sizes_after
compatible-answers r t p s (Known i) (Known j) size l g h e m =
    record { case = Held; within = tt; leads = sym (Memᴰ.eq_of_singleton m); in_case_lem = refl; answering = e }
compatible-answers r t p s (Known i) (LocallyFresh j) size l g h e m =
    record { case = Held; within = tt; leads = sym (Memᴰ.eq_of_singleton m); in_case_lem = refl; answering = e }
compatible-answers r t p s (Known i) (GloballyFresh j) size l g h e m =
    record { case = Held; within = tt; leads = sym (Memᴰ.eq_of_singleton m); in_case_lem = refl; answering = e }
compatible-answers r t p s (LocallyFresh i) (Known j) size l g h e m =
    let alone = eq-eqb (partner p (other s) j) 0 (fresh_answers (partner p (other s) j) i e) in
    let held = sym (Memᴰ.eq_of_singleton m) in
    record { case = Private j; within = (l, g); leads = held; in_case_lem = and_intro _ _ h alone; answering = eq-eqb j j refl }
compatible-answers r t p s (LocallyFresh i) (LocallyFresh j) size l g h e m = locally_fresh_answers r t p s i j size m
compatible-answers r t p s (LocallyFresh i) (GloballyFresh j) size l g h e m =
    record { case = New; within = tt; leads = sym (Memᴰ.eq_of_singleton m); in_case_lem = refl; answering = refl }
compatible-answers r t p s (GloballyFresh i) (Known j) size l g h e m = absurd (none_answers (partner p (other s) j) i e)
compatible-answers r t p s (GloballyFresh i) (LocallyFresh j) size l g h e m =
    record { case = New; within = tt; leads = sym (Memᴰ.eq_of_singleton m); in_case_lem = refl; answering = refl }
compatible-answers r t p s (GloballyFresh i) (GloballyFresh j) size l g h e m =
    record { case = New; within = tt; leads = sym (Memᴰ.eq_of_singleton m); in_case_lem = refl; answering = refl }

-- in a legal position it is the same from the other side
compatible-other : {r : ℕ} {t : Task} {p : Position} → Legal r t p → (s : Side) (own others : EdgeKind) → 1 ≤ register_of own
    → 1 ≤ register_of others → compatible p s own others ≡ true → compatible p (other s) others own ≡ true
unfolding compatible
compatible-other {p = p} l s (Known i) (Known j) f g e =
    partner-answers (partner p (other s) j) i f (partner_mutual l s i j g (known-answers (partner p s i) j e))
compatible-other l Left (Known i) (LocallyFresh j) f g e = e
compatible-other l Right (Known i) (LocallyFresh j) f g e = e
compatible-other l Left (Known i) (GloballyFresh j) f g e = e
compatible-other l Right (Known i) (GloballyFresh j) f g e = e
compatible-other l s (LocallyFresh i) (Known j) f g e = e
compatible-other l s (LocallyFresh i) (LocallyFresh j) f g e = e
compatible-other l s (LocallyFresh i) (GloballyFresh j) f g e = e
compatible-other l s (GloballyFresh i) (Known j) f g e = e
compatible-other l s (GloballyFresh i) (LocallyFresh j) f g e = e
compatible-other l s (GloballyFresh i) (GloballyFresh j) f g e = e

-- ── Pairs of edges ──

pub other-other : (s : Side) → other (other s) ≡ s
other-other Left = refl
other-other Right = refl

-- from position p, edge number k of side s and edge number j of the other side can take one number, and the history then has this
-- size
pub record Pair (t : Task) (p : Position) (s : Side) (k j size : ℕ) : Type 0 where
  pub exists : k < (model_of t s).edge_count
  pub other-exists : j < (model_of t (other s)).edge_count
  pub starts : (edge_of (model_of t s) k).from ≡ state_of p s
  pub other-starts : (edge_of (model_of t (other s)) j).from ≡ state_of p (other s)
  pub tag : (edge_of (model_of t (other s)) j).tag ≡ (edge_of (model_of t s) k).tag
  pub joint : compatible p s (edge_of (model_of t s) k).kind (edge_of (model_of t (other s)) j).kind ≡ true
  pub sized : size ∈ sizes_from t p (edge_of (model_of t s) k).kind (edge_of (model_of t (other s)) j).kind

-- where they lead
abbrev pub moved_by : Task → Position → Side → ℕ → ℕ → ℕ → Position
moved_by t p s k j size =
    moved t p size (left_of s (edge_of (model_of t s) k) (edge_of (model_of t (other s)) j))
    (right_of s (edge_of (model_of t s) k) (edge_of (model_of t (other s)) j))

-- an attack and a reply are a pair
pub reply_pair : (g : Rules) (t : Task) (p : Position) (a : Attack) (j : ℕ) → a ∈ attacks g t p → j ∈ replies t p a
    → Pair t p a.side a.edge j (size_after (length p.partners) a.case p.history)
reply_pair g t p a j m n =
    let x = attack-at g t p a m in
    let y = reply_at t p a j n in
    record {
      exists = x.exists;
      other-exists = y.exists;
      starts = x.starts;
      other-starts = y.starts;
      tag = y.tag;
      joint = answers-compatible t p a.side _ a.case _ x.in_case_lem y.answering;
      sized = answers-size (length p.partners) t p a.side _ a.case _ x.in_case_lem y.answering;
    }

-- it is a pair from the other side too
module _ {r : ℕ} {t : Task} (valid : Valid r t) {p : Position} (l : Legal r t p) where
  pub other-pair : (s : Side) (k j size : ℕ) → Pair t p s k j size → Pair t p (other s) j k size
  other-pair s k j size x =
      record {
        exists = x.other-exists;
        other-exists = rw (other-other s) x.exists;
        starts = x.other-starts;
        other-starts = rw (other-other s) x.starts;
        tag = rw (other-other s) (sym x.tag);
        joint =
            rw (other-other s)
            (compatible-other l s _ _ ((valid-side valid s).edges k x.exists).least
            ((valid-side valid (other s)).edges j x.other-exists).least x.joint);
        sized = rw (other-other s, sizes-other _ _ _ (edge_of (model_of t s) k).kind _) x.sized;
      }
