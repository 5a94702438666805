-- The reader goes from record to record and halts once: `Run` and `Halt` say so without its counter. Assumes nothing.
use Prim.Native.Nat.{ℕ, zero, suc, ◌≤◌, ◌<◌}
use mathlib.Core.Path.{◌≡◌, refl, sym, ◌∙◌, ap, subst}
use mathlib.Core.Logic.{◌↔◌, ◌⊎◌, inl, inr, ⊎_elim}
use mathlib.Core.Bool.{Bool, true, false, cond}
use mathlib.Core.List.{List, [], ◌∷◌, ◌++◌}
use Rattle.std.specs.Prelude.{Result, Ok, Err}
use native.Mathlib.Decide.{dec_lt}
use native.Mathlib.Omega.{arith}
use lib.ListN.{length, take, drop}
use lib.Dec.{eqb}
use borrow.Author.Tests.{eqb-true}
use Rattle.task.specs.Records.{Record, header, state, edge, pair, history, end, encode, Body, of-header, of-state, of-edge, of_pair, of-history, of_end}
use Rattle.task.specs.TaskFile
use Rattle.task.specs.TaskFile.{◌>>=◌, record_kind, body_length, step, at_start, at_end, read_rest, read_task}
use Rattle.task.specs.declared.Kind.{Kind}
use Rattle.task.specs.declared.Kind.TheVariants.{Header, State, Edge, Pair, History, End}
use Rattle.task.specs.declared.Refusal.{Refusal}
use Rattle.task.specs.declared.Refusal.TheVariants.{UnknownKind, CutShort}
use Rattle.fra.specs.declared.Task.{Task}
use Rattle.task.specs.declared.Stage.{Stage}
use Rattle.task.specs.declared.Stage.TheVariants.{Start, States, Edges, Pairs, Sized, Ended}
use Rattle.task.specs.declared.Progress.{Progress}
use Rattle.fra_laws.proofs.Tests.{clash}
use Rattle.task_laws.proofs.RestOfFile
use Rattle.task_laws.proofs.RestOfFile.{ReadTo, begins, no_kind, rest-unknown, rest-cut, rest-stepped, over, turned_back, goes_on}

-- ── One record ──

-- what a record does at a stage
abbrev pub step_at : Record → Stage → Progress → Result Progress Refusal
step_at (header r s q) stage p = TaskFile.header stage p (r ∷ s ∷ q ∷ [])
step_at (state n set mark) stage p = TaskFile.state stage p (n ∷ set ∷ mark ∷ [])
step_at (edge from tag kind i to) stage p = TaskFile.edge stage p (from ∷ tag ∷ kind ∷ i ∷ to ∷ [])
step_at (pair a b) stage p = TaskFile.pair stage p (a ∷ b ∷ [])
step_at (history n) stage p = TaskFile.history stage p (n ∷ [])
step_at end stage p = TaskFile.end stage p

abbrev pub step_of : Record → Progress → Result Progress Refusal
step_of x p = step_at x p.stage p

-- what a check leads to: its refusal, or the progress after it
abbrev pub decided : Result (Unit {0}) Refusal → Progress → Result Progress Refusal
decided c after = c >>= (λ _. Ok after)

-- what holds after a record that is not refused
pub decided_passes : (P : Progress → Type 0) (c : Result (Unit {0}) Refusal) (after : Progress) {q : Progress} → decided c after ≡ Ok q
    → (c ≡ Ok tt → P after) → P q
decided_passes P (Ok x) after {q} e h =
    let same : after ≡ q = cc in
    subst P same (h refl)
decided_passes P (Err r) after e h = clash (cc)

-- ── Kinds ──

-- the kind byte of a kind
abbrev byte_of : Kind → ℕ
byte_of Header = 1
byte_of State = 2
byte_of Edge = 3
byte_of Pair = 4
byte_of History = 5
byte_of End = 15

byte-known : (k : Kind) → record_kind (byte_of k) ≡ Ok k
byte-known Header = refl
byte-known State = refl
byte-known Edge = refl
byte-known Pair = refl
byte-known History = refl
byte-known End = refl

known-byte : (b : ℕ) (k : Kind) → record_kind b ≡ Ok k → b ≡ byte_of k
known-byte b k =
    one Header (one State (one Edge (one Pair (one History (one End (λ e. clash (cc)))))))
  where
    one : (j : Kind) {o : Result Kind Refusal} → (o ≡ Ok k → b ≡ byte_of k)
        → cond (eqb b (byte_of j)) (Ok j) o ≡ Ok k → b ≡ byte_of k
    one j {o} rest = at (eqb b (byte_of j)) refl
      where
        at : (t : Bool) → eqb b (byte_of j) ≡ t → cond t (Ok j) o ≡ Ok k → b ≡ byte_of k
        at true e h = let same : j ≡ k = cc in eqb-true b (byte_of j) e ∙ ap byte_of same
        at false e h = rest h

-- a kind has its byte and its length, as the papers list them
pub kind-body : (b : ℕ) (k : Kind) → record_kind b ≡ Ok k → Body b (body_length k)
kind-body b k e = rw (known-byte b k e) (at k)
  where
    at : (k : Kind) → Body (byte_of k) (body_length k)
    at Header = of-header
    at State = of-state
    at Edge = of-edge
    at Pair = of_pair
    at History = of-history
    at End = of_end

pub body-kind : {b n : ℕ} → Body b n → (k : Kind) × (record_kind b ≡ Ok k) × (body_length k ≡ n)
body-kind of-header = (Header, byte-known Header, refl)
body-kind of-state = (State, byte-known State, refl)
body-kind of-edge = (Edge, byte-known Edge, refl)
body-kind of_pair = (Pair, byte-known Pair, refl)
body-kind of-history = (History, byte-known History, refl)
body-kind of_end = (End, byte-known End, refl)

-- the reader knows no other byte, and refuses it by 1
only-unknown : (b : ℕ) (r : Refusal) → record_kind b ≡ Err r → r ≡ UnknownKind
only-unknown b r e = at (eqb b 1) (eqb b 2) (eqb b 3) (eqb b 4) (eqb b 5) (eqb b 15) e
  where
    at : (h s d p n z : Bool)
        → cond h (Ok Header) (cond s (Ok State) (cond d (Ok Edge) (cond p (Ok Pair) (cond n (Ok History) (cond z (Ok End) (Err UnknownKind)))))) ≡ Err r
        → r ≡ UnknownKind
    at true s d p n z e = clash (cc)
    at false true d p n z e = clash (cc)
    at false false true p n z e = clash (cc)
    at false false false true n z e = clash (cc)
    at false false false false true z e = clash (cc)
    at false false false false false true e = clash (cc)
    at false false false false false false e = cc

-- a byte is of no kind exactly if it begins no record
pub unknown-kind : (b : ℕ) → (record_kind b ≡ Err UnknownKind) ↔ ((n : ℕ) → Body b n → ⊥)
unknown-kind b = (
  λ e n body. let known = (body-kind body).1 in clash (cc),
  λ h. no_kind b (λ e. h 3 (rw e of-header)) (λ e. h 3 (rw e of-state)) (λ e. h 5 (rw e of-edge)) (λ e. h 2 (rw e of_pair))
      (λ e. h 1 (rw e of-history)) (λ e. h 0 (rw e of_end)),
)

-- what stands next in a file
data Next : List ℕ → Type 0 where
  nothing : Next []
  unknown : (b : ℕ) (l : List ℕ) → record_kind b ≡ Err UnknownKind → Next (b ∷ l)
  cut : (b : ℕ) (l : List ℕ) (k : Kind) → record_kind b ≡ Ok k → length l < body_length k → Next (b ∷ l)
  whole : (x : Record) (rest : List ℕ) → Next (encode x ++ rest)

-- the record that bytes of its kind's length stand for, and that does what its kind does
record_whole : (k : Kind) (l : List ℕ) → body_length k ≤ length l
    → (x : Record) × (byte_of k ∷ l ≡ encode x ++ drop (body_length k) l)
    × ((p : Progress) → step_of x p ≡ step k p (take (body_length k) l))
unfolding encode step
record_whole Header (r ∷ s ∷ q ∷ rest) h = (header r s q, refl, λ p. refl)
record_whole State (n ∷ set ∷ mark ∷ rest) h = (state n set mark, refl, λ p. refl)
record_whole Edge (from ∷ tag ∷ kind ∷ i ∷ to ∷ rest) h = (edge from tag kind i to, refl, λ p. refl)
record_whole Pair (a ∷ b ∷ rest) h = (pair a b, refl, λ p. refl)
record_whole History (n ∷ rest) h = (history n, refl, λ p. refl)
record_whole End rest h = (end, refl, λ p. refl)
record_whole Header [] h = absurd (omega arith)
record_whole Header (a ∷ []) h = absurd (omega arith)
record_whole Header (a ∷ b ∷ []) h = absurd (omega arith)
record_whole State [] h = absurd (omega arith)
record_whole State (a ∷ []) h = absurd (omega arith)
record_whole State (a ∷ b ∷ []) h = absurd (omega arith)
record_whole Edge [] h = absurd (omega arith)
record_whole Edge (a ∷ []) h = absurd (omega arith)
record_whole Edge (a ∷ b ∷ []) h = absurd (omega arith)
record_whole Edge (a ∷ b ∷ c ∷ []) h = absurd (omega arith)
record_whole Edge (a ∷ b ∷ c ∷ d ∷ []) h = absurd (omega arith)
record_whole Pair [] h = absurd (omega arith)
record_whole Pair (a ∷ []) h = absurd (omega arith)
record_whole History [] h = absurd (omega arith)

next_in : (l : List ℕ) → Next l
next_in [] = nothing
next_in (b ∷ l) = by_kind (record_kind b) refl
  where
    by_kind : (o : Result Kind Refusal) → record_kind b ≡ o → Next (b ∷ l)
    by_kind (Err r) e =
        let only = only-unknown b r e in
        unknown b l (cc)
    by_kind (Ok k) e = by_length (dec_lt (length l) (body_length k))
      where
        by_length : Dec (length l < body_length k) → Next (b ∷ l)
        by_length (yes d) = cut b l k e d
        by_length (no d) =
            let w = record_whole k l (omega arith) in
            rw (known-byte b k e, w.1) (whole w.0 (drop (body_length k) l))

-- ── All records ──

-- the reader comes to this progress with the rest of the file before it
pub data Run (file : List ℕ) : Progress → List ℕ → Type 0 where
  begin : Run file at_start file
  onward : {p q : Progress} {rest : List ℕ} (x : Record) → Run file p (encode x ++ rest) → step_of x p ≡ Ok q → Run file q rest

-- and halts there, with this result
pub data Halt (p : Progress) : List ℕ → Result Task Refusal → Type 0 where
  ended : p.stage ≡ Ended → Halt p [] (Ok p.task)
  unended : (p.stage ≡ Ended → ⊥) → Halt p [] (Err CutShort)
  unknown : (b : ℕ) (l : List ℕ) → record_kind b ≡ Err UnknownKind → Halt p (b ∷ l) (Err UnknownKind)
  cut : (b : ℕ) (l : List ℕ) (k : Kind) → record_kind b ≡ Ok k → length l < body_length k → Halt p (b ∷ l) (Err CutShort)
  broken : (x : Record) (rest : List ℕ) (r : Refusal) → step_of x p ≡ Err r → Halt p (encode x ++ rest) (Err r)

-- ── What the reader does at a halt and at a record ──

read_record : (n : ℕ) (p : Progress) (x : Record) (rest : List ℕ)
    → read_rest (suc n) p (encode x ++ rest) ≡ (step_of x p >>= (λ after. read_rest n after rest))
unfolding encode step
read_record n p (header r s q) rest = rest-stepped n p 1 (r ∷ s ∷ q ∷ rest) refl (omega arith)
read_record n p (state m set mark) rest = rest-stepped n p 2 (m ∷ set ∷ mark ∷ rest) refl (omega arith)
read_record n p (edge from tag kind i to) rest = rest-stepped n p 3 (from ∷ tag ∷ kind ∷ i ∷ to ∷ rest) refl (omega arith)
read_record n p (pair a b) rest = rest-stepped n p 4 (a ∷ b ∷ rest) refl (omega arith)
read_record n p (history m) rest = rest-stepped n p 5 (m ∷ rest) refl (omega arith)
read_record n p end rest = rest-stepped n p 15 rest refl (omega arith)

-- the end record was read, or the file's end is refused
at-end : (stage : Stage) (t : Task) → (stage ≡ Ended) ⊎ ((stage ≡ Ended → ⊥) × (at_end stage t ≡ Err CutShort))
unfolding at_end
at-end Start t = inr (λ e. clash (cc), refl)
at-end (States s q) t = inr (λ e. clash (cc), refl)
at-end (Edges s) t = inr (λ e. clash (cc), refl)
at-end Pairs t = inr (λ e. clash (cc), refl)
at-end Sized t = inr (λ e. clash (cc), refl)
at-end Ended t = inl refl

-- a halt is what the reader gives there
halt_read : (n : ℕ) (p : Progress) {l : List ℕ} {r : Result Task Refusal} → Halt p l r → length l < n → read_rest n p l ≡ r
unfolding read_rest at_end
halt_read zero p h b = absurd (omega arith)
halt_read (suc n) p (ended e) b = rw e
halt_read (suc n) p (unended d) b = RestOfFile.unended p.stage p.task d
halt_read (suc n) p (unknown c l e) b = rest-unknown n p c l e
halt_read (suc n) p (cut c l k e d) b = rest-cut n p c l e d
halt_read (suc n) p (broken x rest r e) b = read_record n p x rest ∙ rw e

-- a record takes at least its kind byte
record_shortens : (x : Record) (rest : List ℕ) → length rest < length (encode x ++ rest)
unfolding encode
record_shortens (header r s q) rest = omega arith
record_shortens (state n set mark) rest = omega arith
record_shortens (edge from tag kind i to) rest = omega arith
record_shortens (pair a b) rest = omega arith
record_shortens (history n) rest = omega arith
record_shortens end rest = omega arith

-- what is left after a record
read_on : {file rest : List ℕ} {p q : Progress} (x : Record) → ReadTo file p (encode x ++ rest) → step_of x p ≡ Ok q → ReadTo file q rest
unfolding encode step
read_on (header r s q) t e = goes_on t refl (omega arith) e
read_on (state m set mark) t e = goes_on t refl (omega arith) e
read_on (edge from tag kind i to) t e = goes_on t refl (omega arith) e
read_on (pair a b) t e = goes_on t refl (omega arith) e
read_on (history m) t e = goes_on t refl (omega arith) e
read_on end t e = goes_on t refl (omega arith) e

pub read_to : {file rest : List ℕ} {p : Progress} → Run file p rest → ReadTo file p rest
read_to {file} begin = begins file
read_to (onward x run e) = read_on x (read_to run) e

run_read : {file rest : List ℕ} {p : Progress} → Run file p rest → (n : ℕ) × (length rest < n) × (read_task file ≡ read_rest n p rest)
run_read run = let t = read_to run in (suc t.spare, omega (arith, t.enough), t.left)

-- ── The reader halts, and only once ──

pub halt_decides : {file rest : List ℕ} {p : Progress} {r : Result Task Refusal} → Run file p rest → Halt p rest r → read_task file ≡ r
halt_decides {p = p} run h = let w = run_read run in w.2 ∙ halt_read w.0 p h w.1

pub record Halting (file : List ℕ) : Type 0 where
  pub progress : Progress
  pub rest : List ℕ
  pub run : Run file progress rest
  pub halt : Halt progress rest (read_task file)

pub halts : (file : List ℕ) → Halting file
halts file = from (suc (length file)) begin (omega arith)
  where
    stop : {p : Progress} {l : List ℕ} {r : Result Task Refusal} → Run file p l → Halt p l r → Halting file
    stop {p} {l} run h =
        record { progress = p; rest = l; run = run; halt = subst (Halt p l) (sym (halt_decides run h)) h }

    from : (n : ℕ) {p : Progress} {l : List ℕ} → Run file p l → length l < n → Halting file
    from zero run b = absurd (omega arith)
    from (suc n) {p} {l} run b =
        at (next_in l) run b
        (λ q rest (r : Run file q rest) (c : length rest < n). from n r c)
      where
        at : {l : List ℕ} → Next l → Run file p l → length l < suc n
            → ((q : Progress) (rest : List ℕ) → Run file q rest → length rest < n → Halting file)
            → Halting file
        at nothing run b on =
            ⊎_elim (λ (e : p.stage ≡ Ended). stop run (ended e))
            (λ (h : (p.stage ≡ Ended → ⊥) × (at_end p.stage p.task ≡ Err CutShort)). stop run (unended h.0))
            (at-end p.stage p.task)
        at (unknown c l e) run b on = stop run (unknown c l e)
        at (cut c l k e d) run b on = stop run (cut c l k e d)
        at (whole x rest) run b on = by_result (step_of x p) refl
          where
            by_result : (r : Result Progress Refusal) → step_of x p ≡ r → Halting file
            by_result (Ok q) e = on q rest (onward x run e) (omega (arith, record_shortens x rest))
            by_result (Err r) e = stop run (broken x rest r e)

-- a file that is read: its last record is the end
pub read_halt : (file : List ℕ) {t : Task} → read_task file ≡ Ok t → (p : Progress) × Run file p [] × (p.stage ≡ Ended) × (t ≡ p.task)
read_halt file {t} e = let h = halts file in at h.run h.halt e
  where
    at : {p : Progress} {l : List ℕ} {r : Result Task Refusal} → Run file p l → Halt p l r → r ≡ Ok t
        → (q : Progress) × Run file q [] × (q.stage ≡ Ended) × (t ≡ q.task)
    at {p} run (ended d) e = (p, run, d, cc)
    at run (unended d) e = clash (cc)
    at run (unknown b l k) e = clash (cc)
    at run (cut b l k d f) e = clash (cc)
    at run (broken x rest r d) e = clash (cc)

-- ── The same, told by the bytes that the reader looks at ──

-- a kind byte that is none
pub unknown_read : {file l : List ℕ} {p : Progress} {b : ℕ} {r : Refusal} → Run file p (b ∷ l) → record_kind b ≡ Err r
    → read_task file ≡ Err r
unknown_read run e = RestOfFile.unknown (read_to run) e

-- a body that the file ends in
pub cut_read : {file l : List ℕ} {p : Progress} {b : ℕ} {k : Kind} → Run file p (b ∷ l) → record_kind b ≡ Ok k
    → length l < body_length k
    → read_task file ≡ Err CutShort
cut_read run known h = RestOfFile.cut (read_to run) known h

-- the file's end
pub end_read : {file : List ℕ} {p : Progress} → Run file p [] → read_task file ≡ at_end p.stage p.task
end_read run = over (read_to run)

-- a whole record
module _ {file l : List ℕ} {p : Progress} {b : ℕ} {k : Kind} (run : Run file p (b ∷ l)) (known : record_kind b ≡ Ok k)
    (fits : body_length k ≤ length l) where
  whole-run : let w = record_whole k l fits in Run file p (encode w.0 ++ drop (body_length k) l)
  whole-run = let w = record_whole k l fits in subst (Run file p) (ap (λ c. c ∷ l) (known-byte b k known) ∙ w.1) run

  pub record-taken : {q : Progress} → step k p (take (body_length k) l) ≡ Ok q → Run file q (drop (body_length k) l)
  record-taken e = let w = record_whole k l fits in onward w.0 whole-run (w.2 p ∙ e)

  pub record_refused : {r : Refusal} → step k p (take (body_length k) l) ≡ Err r → read_task file ≡ Err r
  record_refused e = turned_back (read_to run) known fits e
