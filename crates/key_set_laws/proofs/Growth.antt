-- Growing goes on step by step and place by place, and keeps what holds of all keys. Assumes nothing.
use Prim.Native.Nat.{ℕ, ◌+◌, ◌/◌, ◌≤◌, ◌<◌}
use mathlib.Core.Path.{◌≡◌, refl, ◌∙◌, ap, subst}
use mathlib.Core.Logic.{◌⊎◌, inl, inr, ⊎_elim}
use mathlib.Core.List.{List}
use native.Mathlib.Omega.{arith}
use native.Mathlib.Decide.{ℕ_discrete, dec_lt}
use Rattle.outcome.specs.Compare.{capacity}
use Rattle.listing.specs.Widths.{entry_width}
use Rattle.table_laws.specs.Table.{key_at}
use Rattle.key_set_laws.specs.Stored.{Stored, Holds}
use Rattle.key_set_laws.specs.Growth.{Grows, Completes, Overflows, Among, Passed}

-- ── Step by step ──

pub grows_none : {space : ℕ} {Wanted : ℕ → Type 0} {n : ℕ} {table : List ℕ} → Stored space n table → Grows space Wanted n table n table
grows_none s =
    record {
      stored = s;
      long = refl;
      more = omega arith;
      kept = λ i l. refl;
      sound = λ i a b. absurd (omega arith);
    }

pub holds_kept : {space : ℕ} {Wanted : ℕ → Type 0} {n m : ℕ} {a b : List ℕ} → Grows space Wanted n a m b → {k : ℕ} → Holds n a k → Holds m b k
holds_kept g h = (h.0, omega (arith, h.1, g.more), g.kept h.0 h.1 ∙ h.2)

grows_then : {space : ℕ} {P Q R : ℕ → Type 0} {n m l : ℕ} {a b c : List ℕ} → ((k : ℕ) → P k → R k) → ((k : ℕ) → Q k → R k)
    → Grows space P n a m b → Grows space Q m b l c → Grows space R n a l c
grows_then {P = P} {Q} {R} {n} {m} {l} {a} {b} {c} p q f g =
    record {
      stored = g.stored;
      long = g.long ∙ f.long;
      more = omega (arith, f.more, g.more);
      kept = λ i h. g.kept i (omega (arith, f.more)) ∙ f.kept i h;
      sound = λ i x y. step i x y (dec_lt i m);
    }
  where
    step : (i : ℕ) → n ≤ i → i < l → Dec (i < m) → R (key_at c i)
    step i x y (yes h) = rw (g.kept i h) (p (key_at b i) (f.sound i x h))
    step i x y (no h) = q (key_at c i) (g.sound i (omega arith) y)

-- what holds of all keys and of all that are wanted holds of all keys afterwards
pub grown-all : (Good : ℕ → Type 0) {space : ℕ} {Wanted : ℕ → Type 0} {n m : ℕ} {a b : List ℕ} → Grows space Wanted n a m b
    → ((i : ℕ) → i < n → Good (key_at a i))
    → ((k : ℕ) → Wanted k → Good k)
    → (i : ℕ)
    → i < m
    → Good (key_at b i)
grown-all Good {n = n} {b = b} g old wanted i l = step (dec_lt i n)
  where
    step : Dec (i < n) → Good (key_at b i)
    step (yes h) = rw (g.kept i h) (old i h)
    step (no h) = wanted (key_at b i) (g.sound i (omega arith) l)

-- what is wanted may be said in another way
pub completes_as : {space : ℕ} {P Q : ℕ → Type 0} {n m : ℕ} {a b : List ℕ} → ((k : ℕ) → P k → Q k) → ((k : ℕ) → Q k → P k)
    → Completes space P n a m b → Completes space Q n a m b
completes_as p q c =
    record { grows = grows_then p p c.grows (grows_none c.grows.stored); complete = λ k w. c.complete k (q k w) }

pub overflows_as : {space : ℕ} {P Q : ℕ → Type 0} {n : ℕ} {a b : List ℕ} → ((k : ℕ) → P k → Q k) → Overflows space P n a b → Overflows space Q n a b
overflows_as p o =
    record {
      grows = grows_then p p o.grows (grows_none o.grows.stored);
      key = o.key;
      wanted = p o.key o.wanted;
      missing = o.missing;
    }

-- what is wanted at first, and then
pub completes_then : {space : ℕ} {P Q R : ℕ → Type 0} {n m l : ℕ} {a b c : List ℕ} → ((k : ℕ) → P k → R k) → ((k : ℕ) → Q k → R k)
    → ((k : ℕ) → R k → P k ⊎ Q k)
    → Completes space P n a m b
    → Completes space Q m b l c
    → Completes space R n a l c
completes_then p q either f g =
    record {
      grows = grows_then p q f.grows g.grows;
      complete = λ k w. ⊎_elim (λ x. holds_kept g.grows (f.complete k x)) (g.complete k) (either k w);
    }

pub overflows_then : {space : ℕ} {P Q R : ℕ → Type 0} {n m : ℕ} {a b c : List ℕ} → ((k : ℕ) → P k → R k) → ((k : ℕ) → Q k → R k)
    → Completes space P n a m b → Overflows space Q m b c → Overflows space R n a c
unfolding capacity
overflows_then {space = space} {Q = Q} {m = m} {a} {b} {c} p q f o =
    let same : capacity b ≡ capacity a = ap (λ n. n / entry_width) f.grows.long in
    record {
      grows = grows_then p q f.grows (subst (λ x. Grows space Q m b x c) same o.grows);
      key = o.key;
      wanted = q o.key o.wanted;
      missing = subst (λ x. Holds x c o.key → ⊥) same o.missing;
    }

-- nothing is wanted
pub completes_none : {space : ℕ} {Wanted : ℕ → Type 0} {n : ℕ} {table : List ℕ} → Stored space n table → ((k : ℕ) → Wanted k → ⊥)
    → Completes space Wanted n table n table
completes_none s none = record { grows = grows_none s; complete = λ k w. absurd (none k w) }

-- ── Place by place ──

module _ (first end : ℕ) (Wanted : ℕ → ℕ → Type 0) where
  among-more : (i j : ℕ) → i ≤ j → (k : ℕ) → Among first i Wanted k → Among first j Wanted k
  among-more i j l k (h, a, b, w) = (h, a, omega arith, w)

  among_last : (i j : ℕ) → first ≤ i → i < j → (k : ℕ) → Wanted i k → Among first j Wanted k
  among_last i j a l k w = (i, a, l, w)

  pub passed_none : {space n : ℕ} {table : List ℕ} → Stored space n table → Passed space first end Wanted first n table n table
  passed_none s =
      record {
        from = omega arith;
        within = λ h. absurd (omega arith);
        visited = completes_none s (λ k w. omega (arith, w.1, w.2));
      }

  pub passed-next : {space n m l i : ℕ} {a b c : List ℕ} → i < end → Passed space first end Wanted i n a m b → Completes space (Wanted i) m b l c
      → Passed space first end Wanted (i + 1) n a l c
  passed-next {i = i} h f g =
      record {
        from = omega (arith, f.from);
        within = λ x. omega arith;
        visited =
            completes_then (among-more i (i + 1) (omega arith)) (among_last i (i + 1) f.from (omega arith))
            (λ k w. either k w (ℕ_discrete w.0 i)) f.visited g;
      }
    where
      either : (k : ℕ) (w : Among first (i + 1) Wanted k) → Dec (w.0 ≡ i) → Among first i Wanted k ⊎ Wanted i k
      either k w (yes d) = inr (subst (λ j. Wanted j k) d w.3)
      either k w (no d) = inl (w.0, w.1, omega (arith, w.2), w.3)

  -- a key wanted at this place has no room
  pub passed_overflows : {space n m i : ℕ} {a b c : List ℕ} → i < end → Passed space first end Wanted i n a m b → Overflows space (Wanted i) m b c
      → Overflows space (Among first end Wanted) n a c
  passed_overflows {i = i} h f o =
      overflows_then (among-more i end (omega arith)) (among_last i end f.from h) f.visited o

  pub passed-all : {space n m i : ℕ} {a b : List ℕ} → end ≤ i → Passed space first end Wanted i n a m b
      → Completes space (Among first end Wanted) n a m b
  passed-all {i = i} h f =
      completes_as (λ k (j, a, b, w). (j, a, omega (arith, f.within (omega arith)), w)) (among-more end i h) f.visited
