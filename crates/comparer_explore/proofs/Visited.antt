-- What is wanted of a visit may be said in another way, and one visit may follow another. Assumes nothing.
use Prim.Native.Nat.{ℕ}
use mathlib.Core.Path.{◌≡◌, subst}
use mathlib.Core.Logic.{◌⊎◌}
use mathlib.Core.List.{List}
use Rattle.std.specs.Prelude.{Result, Ok, Err}
use Rattle.key_set.specs.declared.Full.{Full}
use Rattle.key_set_laws.specs.Growth.{Completes, Overflows}
use Rattle.key_set_laws.proofs.Growth.{completes_as, overflows_as, completes_then, overflows_then}
use Rattle.comparer_explore.specs.ExploreAnswers.{Visited}

pub visited_as : (space : ℕ) {P Q : ℕ → Type 0} (n : ℕ) (old : List ℕ) (r : Result ℕ Full) (new : List ℕ) → ((k : ℕ) → P k → Q k)
    → ((k : ℕ) → Q k → P k)
    → Visited space P n old r new
    → Visited space Q n old r new
visited_as space n old (Ok m) new p q = completes_as p q
visited_as space n old (Err full) new p q = overflows_as p

-- what is wanted at first, and then
pub visited_then : (space : ℕ) {P Q R : ℕ → Type 0} {n m : ℕ} {a b : List ℕ} (r : Result ℕ Full) (c : List ℕ) → ((k : ℕ) → P k → R k)
    → ((k : ℕ) → Q k → R k)
    → ((k : ℕ) → R k → P k ⊎ Q k)
    → Completes space P n a m b
    → Visited space Q m b r c
    → Visited space R n a r c
visited_then space (Ok l) c p q either f = completes_then p q either f
visited_then space (Err full) c p q either f = overflows_then p q f

-- what a visit has done, by its answer
module _ (space : ℕ) (P : ℕ → Type 0) (n : ℕ) (old : List ℕ) (r : Result ℕ Full) (new : List ℕ) (v : Visited space P n old r new) where
  pub visited-all : (m : ℕ) → r ≡ Ok m → Completes space P n old m new
  visited-all m e = subst (λ x. Visited space P n old x new) e v

  pub visited_full : (full : Full) → r ≡ Err full → Overflows space P n old new
  visited_full full e = subst (λ x. Visited space P n old x new) e v
