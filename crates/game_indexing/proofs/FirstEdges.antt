-- The first edges of all codes, written edge by edge: an edge is the first one for the codes past those of the edges before it,
-- up to its own. Assumes nothing.
use Prim.Native.Nat.{ℕ, ◌+◌, ◌-◌, ◌≤◌, ◌<◌}
use mathlib.Core.Path.{◌≡◌}
use mathlib.Core.List.{List, map, map-append}
use native.Mathlib.Nat.{zero-add}
use native.Mathlib.Omega.{arith}
use native.Mathlib.Decide.{dec_lt}
use lib.ListN.{replicate}
use lib.Seq.{sets}
use Rattle.fra.specs.Lists.{count}
use Rattle.fra.specs.Model.{edge_of}
use Rattle.fra.specs.declared.Model.{Model}
use Rattle.game_index.specs.Layout.{codes}
use Rattle.game_index.specs.Ranges.{lower, edge_code, first_edge}
use Rattle.game_index.specs.Writing.{IndexableModel, Sized}
use Rattle.game_index.proofs.Ranges.{Lower, lower_is}
use Rattle.game_index.proofs.EdgeRanges.{code_bound, code_rises}
use Rattle.fra_laws.proofs.ByPlace.{places-length, count_add, map_constant}
use Rattle.game_indexing.proofs.Appended.{sets_behind}

-- the place before which f is below x and at which it is not
lower_only : (f : ℕ → ℕ) (x n k : ℕ) → k ≤ n → ((j : ℕ) → j < k → f j < x) → (k < n → x ≤ f k) → lower f x 0 n ≡ k
lower_only f x n k most less here = at (lower f x 0 n) (lower_is f x 0 n)
  where
    at : (r : ℕ) → Lower f x 0 n r → r ≡ k
    at r l = step (dec_lt r k) (dec_lt k r)
      where
        step : Dec (r < k) → Dec (k < r) → r ≡ k
        step (yes p) d = absurd (omega (arith, less r p, l.here (omega arith)))
        step (no p) (yes q) = absurd (omega (arith, l.below k (omega arith) q, here (omega (arith, l.most))))
        step (no p) (no q) = omega arith

-- the edges below k have codes below `next`, which is at most one past the code of edge k
pub record Passed (m : Model) (k next : ℕ) : Type 0 where
  pub edges : k ≤ m.edge_count
  pub codes_few : next ≤ codes
  pub below : (j : ℕ) → j < k → edge_code (edge_of m j) < next
  pub ahead : k < m.edge_count → next ≤ edge_code (edge_of m k) + 1

pub passed_none : (m : Model) → Passed m 0 0
passed_none m =
    record { edges = omega arith; codes_few = omega arith; below = λ j h. absurd (omega arith); ahead = λ h. omega arith }

module _ {m : Model} {k next : ℕ} (p : Passed m k next) where
  pub passed-more : IndexableModel m → Sized m → k < m.edge_count → Passed m (k + 1) (edge_code (edge_of m k) + 1)
  passed-more v sized h =
      record {
        edges = omega arith;
        codes_few = omega (arith, code_bound v sized k h);
        below = λ j b. omega (arith, code_rises v j k (omega arith) h);
        ahead = λ b. omega (arith, code_rises v k (k + 1) (omega arith) b);
      }

  -- edge k is the first one for the codes from `next` on, up to its own, or up to any if there is no edge k
  pub first_is : (c : ℕ) → next ≤ c → (k < m.edge_count → c ≤ edge_code (edge_of m k)) → first_edge m c ≡ k
  first_is c h here =
      lower_only (λ j. edge_code (edge_of m j)) c m.edge_count k p.edges (λ j b. omega (arith, p.below j b)) here

  -- so it is written for these codes
  pub firsts_more : (old : List ℕ) (at end : ℕ) → next ≤ end → (k < m.edge_count → end ≤ edge_code (edge_of m k) + 1)
      → sets (sets old at (map (first_edge m) (count 0 next))) (at + next) (replicate (at + end - (at + next)) k)
      ≡ sets old at (map (first_edge m) (count 0 end))
  firsts_more old at end h here = by (end - next) (omega arith)
    where
      by : (n : ℕ) → end ≡ next + n
          → sets (sets old at (map (first_edge m) (count 0 next))) (at + next) (replicate (at + end - (at + next)) k)
          ≡ sets old at (map (first_edge m) (count 0 end))
      by n all =
          let wide : at + end - (at + next) ≡ n = omega arith in
          let same = map_constant (first_edge m) k next n (λ c b d. first_is c b (λ g. omega (arith, here g))) in
          rw (wide, all, count_add 0 next n, zero-add next, map-append (first_edge m) (count 0 next) (count next n), same)
          (sets_behind old at (map (first_edge m) (count 0 next)) (replicate n k) (at + next)
          (rw (places-length (first_edge m) next)))
