-- What an insertion into the set of keys answers.
use Rattle.std.specs.Prelude.{ℕ, suc, ◌≡◌, Bool, true, false, List, Result, Ok, Err}
use Rattle.key_set_laws.specs.Growth.{Completes, Overflows}
use Rattle.key_set.specs.declared.Full.{Full}

-- the key is one of the first n already; or it is key n now; or there is no entry n
abbrev pub Inserts : ℕ → ℕ → ℕ → List ℕ → Result Bool Full → List ℕ → Type 0
Inserts space n k old (Ok false) new = Completes space (λ x. x ≡ k) n old n new
Inserts space n k old (Ok true) new = Completes space (λ x. x ≡ k) n old (suc n) new
Inserts space n k old (Err full) new = Overflows space (λ x. x ≡ k) n old new
