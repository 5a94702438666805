-- New rounds leave a table its length and its positions, so that they can be looked up all the while. Assumes nothing.
use Prim.Native.Nat.{ℕ, zero, suc, ◌+◌, ◌*◌, ◌≤◌, ◌<◌}
use mathlib.Core.Path.{◌≡◌, refl, sym, ◌∙◌, subst}
use mathlib.Core.Bool.{Bool, true, false, cond}
use mathlib.Core.List.{List, [], ◌∷◌}
use native.Mathlib.Omega.{arith}
use lib.ListN.{length}
use lib.Dec.{eqb}
use lib.Seq.{length-sets}
use Rattle.std.specs.Prelude.{Option, Some, None}
use Rattle.fra.specs.Rules.{Rules}
use Rattle.fra.specs.Position.{Rising}
use Rattle.fra.specs.declared.Position.{Position}
use Rattle.fra.specs.declared.Task.{Task}
use Rattle.outcome.specs.Bytes.{word}
use Rattle.listing.specs.Widths.{entry_width, entry_rounds}
use Rattle.listing.specs.Listing.{of_table, positions_in, Fitting, Searchable}
use Rattle.listing.specs.Lookup.{place_of}
use Rattle.listing.proofs.PositionNumbers.{positions-length}
use Rattle.listing.proofs.Placing.{place-within}
use Rattle.comparer_rank_laws.proofs.PositionsKept.{positions-kept}
use Rattle.comparer_certify_laws.specs.MarkedRounds.{doubled, with_mark}
use Rattle.comparer_certify_laws.specs.Marking.{rounds_of, changed_at, changed, marked_at, marked, marked_all, led_from, passed, marking, prepared}

-- a look-up finds one of the n entries
pub found-entry : (n : ℕ) (table : List ℕ) (q : Position) {i : ℕ} → place_of q (positions_in (of_table n) table) ≡ Some i → i < n
found-entry n table q {i} e =
    omega (arith, place-within q (positions_in (of_table n) table) i e, positions-length (of_table n) table)

-- n entries that lie in the table fit it
pub fitting : {n : ℕ} {table : List ℕ} → n * entry_width ≤ length table → Fitting (of_table n) table
fitting room = record { room = room; position = omega arith; rounds = omega arith }

-- the table has the length and, in its first n entries, the positions that it had
pub record Kept (n : ℕ) (t u : List ℕ) : Type 0 where
  pub size : length u ≡ length t
  pub same : positions_in (of_table n) u ≡ positions_in (of_table n) t

pub kept_refl : (n : ℕ) (t : List ℕ) → Kept n t t
kept_refl n t = record { size = refl; same = refl }

pub kept_trans : {n : ℕ} {t u v : List ℕ} → Kept n t u → Kept n u v → Kept n t v
kept_trans a b = record { size = b.size ∙ a.size; same = b.same ∙ a.same }

pub fitting-kept : {n : ℕ} {t u : List ℕ} → Fitting (of_table n) t → Kept n t u → Fitting (of_table n) u
fitting-kept f k = fitting (omega (arith, f.room, k.size))

pub searchable-kept : {n : ℕ} {t u : List ℕ} → Searchable (of_table n) t → Kept n t u → Searchable (of_table n) u
searchable-kept s k = record { fitting = fitting-kept s.fitting k; rising = subst Rising (sym k.same) s.rising }

pub kept-changed_at : (f : ℕ → ℕ) (n i : ℕ) (t : List ℕ) → Kept n t (changed_at f i t)
kept-changed_at f n i t =
    record {
      size = length-sets t (i * entry_width + entry_rounds) (word (f (rounds_of t i)));
      same = positions-kept t i (f (rounds_of t i)) n;
    }

pub kept-changed : (f : ℕ → ℕ) (n i : ℕ) (t : List ℕ) → Kept n t (changed f i t)
unfolding changed
kept-changed f n zero t = kept_refl n t
kept-changed f n (suc i) t = kept_trans (kept-changed f n i t) (kept-changed_at f n i (changed f i t))

pub kept-marked : (n : ℕ) (q : Position) (t : List ℕ) → Kept n t (marked n q t)
unfolding marked
kept-marked n q t = at (place_of q (positions_in (of_table n) t))
  where
    at : (p : Option ℕ) → Kept n t (marked_at t p)
    at (Some i) = kept-changed_at with_mark n i t
    at None = kept_refl n t

pub kept-all : (n : ℕ) (qs : List Position) (t : List ℕ) → Kept n t (marked_all n qs t)
unfolding marked_all
kept-all n [] t = kept_refl n t
kept-all n (q ∷ qs) t = kept_trans (kept-marked n q t) (kept-all n qs (marked n q t))

pub kept_led : (g : Rules) (t : Task) (n k i : ℕ) (table : List ℕ) → Kept n table (led_from g t n k i table)
unfolding led_from
kept_led g t n k i table = kept-all n _ table

pub kept-passed : (g : Rules) (t : Task) (n k i : ℕ) (table : List ℕ) → Kept n table (passed g t n k i table)
unfolding passed
kept-passed g t n k zero table = kept_refl n table
kept-passed g t n k (suc i) table =
    kept_trans (kept-passed g t n k i table) (at (passed g t n k i table) (eqb (rounds_of (passed g t n k i table) i) (k * 2 + 1)))
  where
    at : (u : List ℕ) (b : Bool) → Kept n u (cond b (led_from g t n k i u) u)
    at u true = kept_led g t n k i u
    at u false = kept_refl n u

pub kept-marking : (g : Rules) (t : Task) (n k : ℕ) (table : List ℕ) → Kept n table (marking g t n k table)
unfolding marking
kept-marking g t n zero table = kept_refl n table
kept-marking g t n (suc k) table =
    kept_trans (kept-passed g t n (suc k) n table) (kept-marking g t n k (passed g t n (suc k) n table))

pub kept-prepared : (g : Rules) (t : Task) (n k : ℕ) (table : List ℕ) → Kept n table (prepared g t n k table)
unfolding prepared
kept-prepared g t n k table =
    kept_trans (kept-changed doubled n n table)
    (kept_trans (kept-marked n t.start (changed doubled n table)) (kept-marking g t n k _))
