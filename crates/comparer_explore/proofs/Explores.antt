-- What is shown of an answer of `explore`: by the invariant, when all positions are expanded, and by a position that has no room.
-- Assumes nothing.
use Prim.Native.Nat.{ℕ, ◌≤◌, ◌<◌, ◌/◌}
use mathlib.Core.Path.{◌≡◌, ◌∙◌, ap, subst}
use mathlib.Core.List.{List, map}
use native.Mathlib.Omega.{arith}
use lib.ListN.{length}
use borrow.Author.Tests.{lt-ltb, le-ltb}
use Rattle.fra.specs.Reach.{reached}
use Rattle.fra.specs.declared.Position.{Position}
use Rattle.fra.specs.Rules.{Rules}
use Rattle.fra.specs.declared.Task.{Task}
use Rattle.fra_laws.proofs.Tests.{clash}
use Rattle.std.specs.Prelude.{Result, Ok, Err}
use Rattle.outcome.specs.Compare.{capacity}
use Rattle.listing.specs.Widths.{entry_width}
use Rattle.game_index.specs.Reading.{task_in, rules_in}
use Rattle.game_index.specs.Writing.{Index}
use Rattle.table_keys.specs.Keys.{key_of, key_count, radix_of}
use Rattle.table_laws.specs.Sorted.{Permuted}
use Rattle.table_laws.specs.Table.{keys}
use Rattle.key_set_laws.specs.Stored.{Stored}
use Rattle.key_set.specs.declared.Full.{Full}
use Rattle.comparer_explore_laws.specs.Exploring.{Exploring}
use Rattle.comparer_explore_laws.proofs.Exploring.{exploring_count, exploring_keys}
use Rattle.comparer_explore.specs.ExploreAnswers.{explored_in, Explores}

full_ok : {n : ℕ} {full : Full} → ◌≡◌ {A = Result ℕ Full} (Err full) (Ok n) → ⊥
full_ok e = clash (cc)

-- all positions found are expanded
pub explores_all : {b : List ℕ} {n done : ℕ} {new : List ℕ} (old : List ℕ) → Index b
    → Exploring (rules_in b) (task_in b) (length old) n done new
    → n ≤ done
    → Explores (rules_in b) (task_in b) old (Ok n) new
unfolding explored_in capacity
explores_all {b} {n} {done} {new} old index e l =
    record {
      answer =
          rw (le-ltb (capacity old) (length all) (omega (arith, e.stored.room, e.long, count)), explored_in) (ap Ok count);
      long = e.long;
      found = λ k d.
          let same : n ≡ k = cc in
          subst (λ x. Permuted (keys x new) (map (key_of (radix_of (task_in b))) all)) same (exploring_keys index ended);
      stored = λ k d. let same : n ≡ k = cc in subst (λ x. Stored (key_count (radix_of (task_in b))) x new) same e.stored;
    }
  where
    all : List Position
    all = reached (rules_in b) (task_in b)

    ended : Exploring (rules_in b) (task_in b) (length old) n n new
    ended = let d : done ≡ n = omega (arith, e.ahead) in rw d at e

    count : n ≡ length all
    count = exploring_count index ended

-- more positions are reached than there are entries
pub explores_too_many : {g : Rules} {t : Task} {old new : List ℕ} (full : Full) → capacity old < length (reached g t)
    → length new ≡ length old
    → Explores g t old (Err full) new
unfolding explored_in
explores_too_many {g} {t} {old} full h long =
    record {
      answer = rw (lt-ltb (capacity old) (length (reached g t)) h, explored_in);
      long = long;
      found = λ n d. absurd (full_ok d);
      stored = λ n d. absurd (full_ok d);
    }

-- only the length of the table at entry counts
pub explores_from : {g : Rules} {t : Task} {old mid new : List ℕ} (r : Result ℕ Full) → length mid ≡ length old
    → Explores g t mid r new
    → Explores g t old r new
unfolding capacity
explores_from {g} {t} r same e =
    record {
      answer = e.answer ∙ ap (λ n. explored_in (n / entry_width) (length (reached g t))) same;
      long = e.long ∙ same;
      found = e.found;
      stored = e.stored;
    }
