-- Places up to which a function stays below a number, and what a test keeps of places at which a function does not fall.
-- Assumes nothing.
use Prim.Native.Nat.{ℕ, zero, suc, ◌+◌, ◌-◌, ◌≤◌, ◌<◌}
use mathlib.Core.Path.{◌≡◌, refl, ◌∙◌, ap}
use mathlib.Core.Bool.{Bool, true, false}
use mathlib.Core.List.{List, [], ◌∷◌}
use native.Mathlib.Nat.{sub_self}
use native.Mathlib.Omega.{arith}
use native.Mathlib.Decide.{dec_lt}
use lib.Dec.{ltb}
use borrow.Author.Tests.{ltb-true, ltb-false}
use Rattle.fra.specs.Lists.{keep, count}
use Rattle.fra_laws.proofs.Tests.{fails_unless}
use Rattle.fra_laws.proofs.Lists.{keep_passes, keep_fails}
use Rattle.game_index.specs.Ranges.{lower}

-- ── lower ──

-- r is the first of n places from i on at which f is not below x, or the place past them
pub record Lower (f : ℕ → ℕ) (x i n r : ℕ) : Type 0 where
  pub least : i ≤ r
  pub most : r ≤ i + n
  pub below : (k : ℕ) → i ≤ k → k < r → f k < x
  pub here : r < i + n → x ≤ f r

pub lower_is : (f : ℕ → ℕ) (x i n : ℕ) → Lower f x i n (lower f x i n)
unfolding lower
lower_is f x i zero =
    record { least = omega arith; most = omega arith; below = λ k p q. absurd (omega arith); here = λ p. absurd (omega arith) }
lower_is f x i (suc n) = step (ltb (f i) x) refl (lower_is f x (suc i) n)
  where
    step : (b : Bool) → ltb (f i) x ≡ b → Lower f x (suc i) n (lower f x (suc i) n) → Lower f x i (suc n) (lower f x i (suc n))
    step true e r =
        rw (e, lower)
        (record {
          least = omega (arith, r.least);
          most = omega (arith, r.most);
          below = λ k p q. at k p q (dec_lt i k);
          here = λ p. r.here (omega arith);
        })
      where
        at : (k : ℕ) → i ≤ k → k < lower f x (suc i) n → Dec (i < k) → f k < x
        at k p q (yes h) = r.below k h q
        at k p q (no h) = let s : k ≡ i = omega arith in rw s (ltb-true (f i) x e)
    step false e r =
        rw (e, lower)
        (record {
          least = omega arith;
          most = omega arith;
          below = λ k p q. absurd (omega arith);
          here = λ p. ltb-false (f i) x e;
        })

-- where f does not fall, it is not below x from there on
pub lower_above : (f : ℕ → ℕ) (x i n r : ℕ) → Lower f x i n r
    → ((j k : ℕ) → i ≤ j → j ≤ k → k < i + n → f j ≤ f k) → (k : ℕ) → r ≤ k → k < i + n → x ≤ f k
lower_above f x i n r h rises k p q = omega (arith, h.here (omega arith), rises r k h.least p q)

-- ── What a test keeps ──

-- of n numbers from i on, the test passes exactly at those from a on below b
pub record Between (f : ℕ → Bool) (i n a b : ℕ) : Type 0 where
  pub from : i ≤ a
  pub ordered : a ≤ b
  pub inside : b ≤ i + n
  pub before : (k : ℕ) → i ≤ k → k < a → f k ≡ false
  pub passes : (k : ℕ) → a ≤ k → k < b → f k ≡ true
  pub after : (k : ℕ) → b ≤ k → k < i + n → f k ≡ false

pub keep-between : (f : ℕ → Bool) (i n a b : ℕ) → Between f i n a b → keep f (count i n) ≡ count a (b - a)
unfolding keep count
keep-between f i zero a b h = let e : b - a ≡ 0 = omega (arith, h.from, h.inside) in rw e
keep-between f i (suc n) a b h = step (keep-between f (suc i) n) (dec_lt i a) (dec_lt i b)
  where
    step : ((a b : ℕ) → Between f (suc i) n a b → keep f (count (suc i) n) ≡ count a (b - a)) → Dec (i < a) → Dec (i < b)
        → keep f (count i (suc n)) ≡ count a (b - a)
    step rest (yes p) d =
        keep_fails f i (count (suc i) n) (h.before i (omega arith) p)
        ∙ rest a b
        (record {
          from = omega arith;
          ordered = h.ordered;
          inside = omega (arith, h.inside);
          before = λ k c e. h.before k (omega arith) e;
          passes = h.passes;
          after = λ k c e. h.after k c (omega arith);
        })
    step rest (no p) (yes q) =
        let e : b - a ≡ suc (b - suc i) = omega (arith, h.from) in
        let g : a ≡ i = omega (arith, h.from) in
        keep_passes f i (count (suc i) n) (h.passes i (omega arith) q)
        ∙ ap (λ (l : List ℕ). i ∷ l)
        (rest (suc i) b
        (record {
          from = omega arith;
          ordered = omega arith;
          inside = omega (arith, h.inside);
          before = λ k c e. absurd (omega arith);
          passes = λ k c e. h.passes k (omega arith) e;
          after = λ k c e. h.after k c (omega arith);
        }))
        ∙ rw (e, g)
    step rest (no p) (no q) =
        let e : b - a ≡ 0 = omega (arith, h.from) in
        keep_fails f i (count (suc i) n) (h.after i (omega arith) (omega arith))
        ∙ rest (suc i) (suc i)
        (record {
          from = omega arith;
          ordered = omega arith;
          inside = omega arith;
          before = λ k c e. absurd (omega arith);
          passes = λ k c e. absurd (omega arith);
          after = λ k c e. h.after k (omega arith) (omega arith);
        })
        ∙ rw (e, sub_self (suc i))

-- a test that passes nowhere keeps nothing
pub keep_none : (f : ℕ → Bool) (n : ℕ) → ((k : ℕ) → k < n → f k ≡ true → ⊥) → keep f (count 0 n) ≡ []
unfolding count
keep_none f n none =
    keep-between f 0 n 0 0
    (record {
      from = omega arith;
      ordered = omega arith;
      inside = omega arith;
      before = λ k i b. absurd (omega arith);
      passes = λ k i b. absurd (omega arith);
      after = λ k i b. fails_unless (f k) (none k (omega arith));
    })

-- ── Places at which a function that does not fall lies between two numbers ──

module _ (f : ℕ → ℕ) (n c d : ℕ) (order : c ≤ d) where
  abbrev start : ℕ
  start = lower f c 0 n

  abbrev end : ℕ
  end = lower f d 0 n

  starts : Lower f c 0 n start
  starts = lower_is f c 0 n

  ends : Lower f d 0 n end
  ends = lower_is f d 0 n

  pub lower-order : start ≤ end
  lower-order = step (dec_lt end start)
    where
      step : Dec (end < start) → start ≤ end
      step (no h) = omega arith
      step (yes h) = absurd (omega (arith, starts.below end (omega arith) h, ends.here (omega (arith, starts.most))))

  -- a test that passes exactly there keeps the places from the first on, below the second
  pub keep-lower : ((j k : ℕ) → j ≤ k → k < n → f j ≤ f k)
      → (test : ℕ → Bool)
      → ((k : ℕ) → k < n → c ≤ f k → f k < d → test k ≡ true)
      → ((k : ℕ) → k < n → test k ≡ true → (c ≤ f k) × (f k < d))
      → keep test (count 0 n) ≡ count start (end - start)
  keep-lower rises test passes only =
      keep-between test 0 n start end
      (record {
        from = omega arith;
        ordered = lower-order;
        inside = ends.most;
        before = λ k i b.
            fails_unless (test k) (λ t. omega (arith, starts.below k i b, (only k (omega (arith, starts.most)) t).0));
        passes = λ k i b.
            let exists : k < n = omega (arith, ends.most) in
            passes k exists (above c start starts k i exists) (ends.below k (omega arith) b);
        after = λ k i b.
            fails_unless (test k) (λ t. omega (arith, above d end ends k i (omega arith), (only k (omega arith) t).1));
      })
    where
      above : (x r : ℕ) → Lower f x 0 n r → (k : ℕ) → r ≤ k → k < n → x ≤ f k
      above x r h k p q = lower_above f x 0 n r h (λ j k a b c. rises j k b (omega arith)) k p (omega arith)
