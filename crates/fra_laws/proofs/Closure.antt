-- The list that computes a closure holds exactly the members of the closure, if its fuel bounds the rising lists of good
-- positions, where the start is good and steps lead from good positions to good ones. Assumes nothing.
use Prim.Native.Nat.{ℕ, zero, suc, ◌+◌, ◌≤◌, ◌<◌}
use mathlib.Core.Path.{◌≡◌, refl, ◌∙◌, ap}
use mathlib.Core.Logic.{◌⊎◌, inl, inr, ⊎_elim}
use mathlib.Core.Bool.{Bool, true, false}
use mathlib.Core.List.Memᴰ
use mathlib.Core.List.{List, [], ◌∷◌, flat_map, foldr}
use native.Mathlib.Omega.{arith}
use native.Mathlib.Decide.{ℕ_discrete}
use lib.ListN.{length}
use borrow.Author.Tests.{eq-eqb, ne_eqb}
use Rattle.fra.specs.Lists.{◌∈◌, Unique}
use Rattle.fra.specs.Position.{before, Rising}
use Rattle.fra.specs.Reach.{Closure, begin, onward, insert, grown, closed}
use Rattle.fra.specs.declared.Position.{Position}
use Rattle.fra_laws.proofs.Tests.{not_both}
use Rattle.fra_laws.proofs.Lists.{flat_map_intro, flat_map_elim}
use Rattle.fra_laws.proofs.Order.{before_irreflexive, before_transitive, before_total}

-- ── insert ──

-- where p stands after it is inserted into q ∷ qs: first, or later, or where it stood before
data Place (p q : Position) (qs : List Position) : List Position → Type 0 where
  first : before p q ≡ true → Place p q qs (p ∷ q ∷ qs)
  later : before q p ≡ true → Place p q qs (q ∷ insert p qs)
  present : p ≡ q → Place p q qs (q ∷ qs)

insert-place : (p q : Position) (qs : List Position) → Place p q qs (insert p (q ∷ qs))
unfolding insert
insert-place p q qs = step (before p q) (before q p) refl refl
  where
    step : (a b : Bool) → before p q ≡ a → before q p ≡ b → Place p q qs (insert p (q ∷ qs))
    step true b e f = rw (e, insert) (first e)
    step false true e f = rw (e, f, insert) (later f)
    step false false e f = rw (e, f, insert) (present (before_total p q e f))

pub insert_elim : (p : Position) (l : List Position) {x : Position} → x ∈ insert p l → (x ≡ p) ⊎ (x ∈ l)
unfolding insert
insert_elim p [] m = Memᴰ.cases_cons m
insert_elim p (q ∷ qs) {x} m = step (insert-place p q qs) m (λ n. insert_elim p qs n)
  where
    step : {l : List Position} → Place p q qs l → x ∈ l → (x ∈ insert p qs → (x ≡ p) ⊎ (x ∈ qs)) → (x ≡ p) ⊎ (x ∈ q ∷ qs)
    step (first e) m rest = Memᴰ.cases_cons m
    step (later e) m rest =
        ⊎_elim (λ (d : x ≡ q). inr (Memᴰ.head d)) (λ n. ⊎_elim inl (λ k. inr (Memᴰ.tail k)) (rest n))
        (Memᴰ.cases_cons m)
    step (present e) m rest = inr m

pub insert-has : (p : Position) (l : List Position) → p ∈ insert p l
unfolding insert
insert-has p [] = Memᴰ.head refl
insert-has p (q ∷ qs) = step (insert-place p q qs) (insert-has p qs)
  where
    step : {l : List Position} → Place p q qs l → p ∈ insert p qs → p ∈ l
    step (first e) rest = Memᴰ.head refl
    step (later e) rest = Memᴰ.tail rest
    step (present e) rest = Memᴰ.head e

pub insert_keeps : (p : Position) (l : List Position) {x : Position} → x ∈ l → x ∈ insert p l
insert_keeps p [] m = absurd (Memᴰ.not-nil m)
insert_keeps p (q ∷ qs) {x} m = step (insert-place p q qs) (λ n. insert_keeps p qs n)
  where
    step : {l : List Position} → Place p q qs l → (x ∈ qs → x ∈ insert p qs) → x ∈ l
    step (first e) rest = Memᴰ.tail m
    step (later e) rest = ⊎_elim (λ d. Memᴰ.head d) (λ n. Memᴰ.tail (rest n)) (Memᴰ.cases_cons m)
    step (present e) rest = m

rising_one : (p : Position) → Rising (p ∷ [])
rising_one p = (λ q m. absurd (Memᴰ.not-nil m), tt)

pub insert-rising : (p : Position) (l : List Position) → Rising l → Rising (insert p l)
unfolding insert
insert-rising p [] r = rising_one p
insert-rising p (q ∷ qs) r = step (insert-place p q qs) (insert-rising p qs r.1)
  where
    step : {l : List Position} → Place p q qs l → Rising (insert p qs) → Rising l
    step (first e) rest =
        (λ x m. ⊎_elim (λ (d : x ≡ q). rw d e) (λ n. before_transitive p q x e (r.0 x n)) (Memᴰ.cases_cons m), r)
    step (later e) rest = (λ x m. ⊎_elim (λ (d : x ≡ p). rw d e) (r.0 x) (insert_elim p qs m), rest)
    step (present e) rest = r

-- a list stays as it is or becomes longer by one
pub insert-length : (p : Position) (l : List Position) → (insert p l ≡ l) ⊎ (length (insert p l) ≡ suc (length l))
unfolding insert
insert-length p [] = inr refl
insert-length p (q ∷ qs) = step (insert-place p q qs) (insert-length p qs)
  where
    step : {l : List Position} → Place p q qs l → (insert p qs ≡ qs) ⊎ (length (insert p qs) ≡ suc (length qs))
        → (l ≡ q ∷ qs) ⊎ (length l ≡ suc (length (q ∷ qs)))
    step (first e) rest = inr refl
    step (later e) (inl d) = inl (ap (λ (l : List Position). q ∷ l) d)
    step (later e) (inr d) = inr (ap suc d)
    step (present e) rest = inl refl

-- ── rising lists ──

pub rising-unique : (l : List Position) → Rising l → Unique l
rising-unique [] r = tt
rising-unique (p ∷ l) r = (λ m. not_both (before p p) (r.0 p m) (before_irreflexive p), rising-unique l r.1)

-- ── a list m inserted into l ──

inserted_elim : (l m : List Position) {x : Position} → x ∈ foldr insert l m → (x ∈ m) ⊎ (x ∈ l)
inserted_elim l [] h = inr h
inserted_elim l (p ∷ m) {x} h = step (λ n. inserted_elim l m n) (insert_elim p (foldr insert l m) h)
  where
    step : (x ∈ foldr insert l m → (x ∈ m) ⊎ (x ∈ l)) → (x ≡ p) ⊎ (x ∈ foldr insert l m) → (x ∈ p ∷ m) ⊎ (x ∈ l)
    step rest (inl e) = inl (Memᴰ.head e)
    step rest (inr n) = ⊎_elim (λ k. inl (Memᴰ.tail k)) inr (rest n)

inserted_has : (l : List Position) {x : Position} {m : List Position} → x ∈ m → x ∈ foldr insert l m
inserted_has l (Memᴰ.head {x = p} {xs = m} e) = Memᴰ.cast e (insert-has p (foldr insert l m))
inserted_has l (Memᴰ.tail {x = p} {xs = m} n) = insert_keeps p (foldr insert l m) (inserted_has l n)

inserted_keeps : (l m : List Position) {x : Position} → x ∈ l → x ∈ foldr insert l m
inserted_keeps l [] h = h
inserted_keeps l (p ∷ m) h = insert_keeps p (foldr insert l m) (inserted_keeps l m h)

inserted_rising : (l m : List Position) → Rising l → Rising (foldr insert l m)
inserted_rising l [] r = r
inserted_rising l (p ∷ m) r = insert-rising p (foldr insert l m) (inserted_rising l m r)

-- a list stays as it is or becomes longer
inserted_length : (l m : List Position) → (foldr insert l m ≡ l) ⊎ (length l < length (foldr insert l m))
inserted_length l [] = inl refl
inserted_length l (p ∷ m) = step (inserted_length l m) (insert-length p (foldr insert l m))
  where
    step : {k n : List Position} → (k ≡ l) ⊎ (length l < length k) → (n ≡ k) ⊎ (length n ≡ suc (length k))
        → (n ≡ l) ⊎ (length l < length n)
    step (inl d) (inl e) = inl (e ∙ d)
    step (inl d) (inr e) = let f = ap length d in inr (omega arith)
    step (inr d) (inl e) = let f = ap length e in inr (omega arith)
    step (inr d) (inr e) = inr (omega arith)

-- ── closed ──

-- what a list with fuel n + 1 is closed to: itself, where growing leaves it as it is; otherwise what its growth is closed to
data Next (step : Position → List Position) (n : ℕ) (l : List Position) : List Position → Type 0 where
  stays : grown step l ≡ l → Next step n l l
  grows : length l < length (grown step l) → Next step n l (closed step n (grown step l))

-- from l, steps lead into l
abbrev pub Within : (Position → List Position) → List Position → Type 0
Within step l = (p q : Position) → p ∈ l → q ∈ step p → q ∈ l

module _ (step : Position → List Position) where
  closed-next : (n : ℕ) (l : List Position) → Next step n l (closed step (suc n) l)
  unfolding closed grown
  closed-next n l = at (ℕ_discrete (length (grown step l)) (length l)) (inserted_length l (flat_map step l))
    where
      at : Dec (length (grown step l) ≡ length l) → (grown step l ≡ l) ⊎ (length l < length (grown step l))
          → Next step n l (closed step (suc n) l)
      at (yes e) (inl d) = rw (eq-eqb (length (grown step l)) (length l) e, closed) (stays d)
      at (yes e) (inr h) = absurd (omega arith)
      at (no d) (inl e) = absurd (d (ap length e))
      at (no d) (inr h) = rw (ne_eqb (length (grown step l)) (length l) d, closed) (grows h)

  -- what holds of a list and is kept where it grows holds of what it is closed to
  closed_keeps : (P : List Position → Type 0) → ((l : List Position) → P l → P (grown step l)) → (n : ℕ) (l : List Position)
      → P l → P (closed step n l)
  unfolding closed
  closed_keeps P kept zero l h = h
  closed_keeps P kept (suc n) l h = at (closed-next n l) (closed_keeps P kept n (grown step l) (kept l h))
    where
      at : {m : List Position} → Next step n l m → P (closed step n (grown step l)) → P m
      at (stays e) rest = h
      at (grows e) rest = rest

  -- the closed list is closed under the step, unless it is longer by all of its fuel
  closed_or_long : (n : ℕ) (l : List Position) → Within step (closed step n l) ⊎ (length l + n ≤ length (closed step n l))
  unfolding closed grown
  closed_or_long zero l = inr (omega arith)
  closed_or_long (suc n) l = at (closed-next n l) (closed_or_long n (grown step l))
    where
      at : {m : List Position} → Next step n l m
          → Within step (closed step n (grown step l)) ⊎ (length (grown step l) + n ≤ length (closed step n (grown step l)))
          → Within step m ⊎ (length l + suc n ≤ length m)
      at (stays e) rest = inl (λ p q m k. rw e at (inserted_has l (flat_map_intro step m k)))
      at (grows e) (inl w) = inl w
      at (grows e) (inr h) = inr (omega arith)

-- ── The list computes the closure ──

-- what holds of the start and is kept by steps holds in the closure
pub closure_keeps : {step : Position → List Position} {start : Position} (Good : Position → Type 0) → Good start
    → ((p q : Position) → Good p → q ∈ step p → Good q)
    → {p : Position} → Closure step start p → Good p
closure_keeps Good begins kept begin = begins
closure_keeps Good begins kept (onward {p = p} {q = q} c m) = kept p q (closure_keeps Good begins kept c) m

-- a rising list holds exactly what steps lead to from the start
pub record Computes (step : Position → List Position) (start : Position) (l : List Position) : Type 0 where
  pub sound : (p : Position) → p ∈ l → Closure step start p
  pub complete : (p : Position) → Closure step start p → p ∈ l
  pub rising : Rising l
  pub within : Within step l

-- the start is good, steps keep what is good, and no rising list of good positions is longer than the fuel n
pub closed_computes : (step : Position → List Position) (start : Position) (Good : Position → Type 0) (n : ℕ)
    → Good start
    → ((p q : Position) → Good p → q ∈ step p → Good q)
    → ((l : List Position) → Rising l → ((p : Position) → p ∈ l → Good p) → length l ≤ n)
    → Computes step start (closed step n (start ∷ []))
unfolding grown
closed_computes step start Good n begins kept bound =
    record { sound = sound; complete = λ p c. complete c; rising = rises; within = leads }
  where
    l : List Position
    l = closed step n (start ∷ [])

    sound : (p : Position) → p ∈ l → Closure step start p
    sound =
        closed_keeps step (λ m. (p : Position) → p ∈ m → Closure step start p)
        (λ m h p k.
        ⊎_elim (λ i. let w = flat_map_elim step m i in onward (h w.0 w.1) w.2) (h p)
        (inserted_elim m (flat_map step m) k))
        n (start ∷ []) (λ p k. rw (Memᴰ.eq_of_singleton k) begin)

    rises : Rising l
    rises =
        closed_keeps step Rising (λ m. inserted_rising m (flat_map step m)) n (start ∷ []) (rising_one start)

    leads : Within step l
    leads =
        ⊎_elim (λ w. w)
        (λ h. let b = bound l rises (λ p m. closure_keeps Good begins kept (sound p m)) in absurd (omega arith))
        (closed_or_long step n (start ∷ []))

    complete : {p : Position} → Closure step start p → p ∈ l
    complete begin =
        closed_keeps step (λ m. start ∈ m) (λ m. inserted_keeps m (flat_map step m)) n (start ∷ []) (Memᴰ.head refl)
    complete (onward {p = p} {q = q} c m) = leads p q (complete c) m
