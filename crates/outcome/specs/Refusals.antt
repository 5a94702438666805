-- 01, "Turned back, in checking order", 11 to 14: for each refusal the case that 01 names for it. Nothing here goes by way of
-- an outcome.
use Rattle.std.specs.Prelude.{ℕ, ◌*◌, ◌<◌, ◌≡◌, ◌⊎◌, ◌≢◌, false, length}
use mathlib.Core.List.{List, [], ◌∷◌, ◌++◌, flat_map}
use Rattle.fra.specs.Lists.{◌∈◌, Unique}
use Rattle.fra.specs.Position.{legal, before}
use Rattle.fra.specs.Rules.{Rules}
use Rattle.fra.specs.Game.{NeverLost, EverLost}
use Rattle.fra.specs.Reach.{Reached}
use Rattle.fra.specs.declared.Position.{Position}
use Rattle.fra.specs.declared.Task.{Task}
use Rattle.task.specs.TaskFile.{max_registers, task_of, IsRead}
use Rattle.task.specs.Records.{TurnedBack}
use Rattle.outcome.specs.Verdicts.{Contest, kind_of, width_of}
use Rattle.outcome.specs.Compare.{capacity}
use Rattle.outcome.specs.Conditions.{Accepts}
use Rattle.outcome.specs.Listed.{Led}
use Rattle.outcome.specs.Check.{position_of, kept_length, loss_length}
use Rattle.outcome.specs.declared.Standing.TheVariants.{Kept, Lost}
use Rattle.outcome.specs.declared.Verdict.{Verdict}

-- 11: "The positions reached outnumber the table's entries."
pub record TableTooSmall (g : Rules) (t : Task) (table : List ℕ) : Type 0 where
  pub positions : List Position
  pub unique : Unique positions
  pub all-reached : (p : Position) → p ∈ positions → Reached g t p
  pub more : capacity table < length positions

-- 12: "The certificate is longer than its buffer." It has a record "for every reached position never lost" where the start is
-- never lost, and otherwise for "the start and all positions that its attacks lead to".
pub data CertificateTooLong (g : Rules) (t : Task) (buffer : List ℕ) : Type 0 where
  kept-too_long : NeverLost g t t.start
      → (positions : List Position) → Unique positions
      → ((p : Position) → p ∈ positions → Reached g t p × NeverLost g t p)
      → length buffer < length positions * width_of Kept
      → CertificateTooLong g t buffer
  lost-too_long : EverLost g t t.start
      → (positions : List Position) → Unique positions
      → ((p : Position) → p ∈ positions → Led g t p)
      → length buffer < length positions * width_of Lost
      → CertificateTooLong g t buffer

-- ── 13: "A proposed certificate has an unknown kind, two kinds, a cut body, an illegal position, or does not rise strictly by
-- position." ──

-- the kinds of a contest's certificates and the bytes of their bodies, for r registers
pub data Kind (r : ℕ) (c : Contest) : ℕ → ℕ → Type 0 where
  of-kept : Kind r c (kind_of c.kept) (kept_length r)
  of-lost : Kind r c (kind_of c.lost) (loss_length r)

-- whole records of one kind, given by their bodies
unfoldable pub records : ℕ → List (List ℕ) → List ℕ
records kind = flat_map (λ body. kind ∷ body)

-- a certificate that begins with whole records of one kind, none or more
pub record Begins (r : ℕ) (c : Contest) (certificate : List ℕ) (rest : List ℕ) : Type 0 where
  pub kind : ℕ
  pub size : ℕ
  pub known : Kind r c kind size
  pub bodies : List (List ℕ)
  pub whole : (body : List ℕ) → body ∈ bodies → length body ≡ size
  pub begins : certificate ≡ records kind bodies ++ rest

pub data Malformed (r : ℕ) (c : Contest) (t : Task) (certificate : List ℕ) : Type 0 where
  unknown-kind : {b : ℕ} {rest : List ℕ} → Begins r c certificate (b ∷ rest) → ((size : ℕ) → Kind r c b size → ⊥)
      → Malformed r c t certificate
  two_kinds : {b : ℕ} {rest : List ℕ} (s : Begins r c certificate (b ∷ rest)) → s.bodies ≢ [] → b ≢ s.kind
      → Malformed r c t certificate
  cut-body : {b size : ℕ} {rest : List ℕ} → Begins r c certificate (b ∷ rest) → Kind r c b size → length rest < size
      → Malformed r c t certificate
  illegal : {rest : List ℕ} (s : Begins r c certificate rest) (body : List ℕ) → body ∈ s.bodies
      → legal r t (position_of r body) ≡ false
      → Malformed r c t certificate
  not_rising : {rest : List ℕ} (s : Begins r c certificate rest) (earlier later : List (List ℕ)) (b₁ b₂ : List ℕ)
      → s.bodies ≡ earlier ++ b₁ ∷ b₂ ∷ later
      → before (position_of r b₁) (position_of r b₂) ≡ false
      → Malformed r c t certificate

-- ── 14: "The proposed certificate is well formed and not accepted." ──

pub record NotAccepted (r : ℕ) (c : Contest) (t : Task) (certificate : List ℕ) : Type 0 where
  pub well_formed : Malformed r c t certificate → ⊥
  pub unmet : (v : Verdict) (n : ℕ) → Accepts r c t certificate v n → ⊥

-- ── "The checker gives 1 to 10, 13, 14; the comparer 1 to 12." 02, ticket 2: both give 15 too ──

-- the case that is named for refusal n of the comparer; of 11 and 12 the lower one counts
unfoldable pub ComparerRefuses : Contest → List ℕ → List ℕ → List ℕ → ℕ → Type 0
ComparerRefuses c file table buffer n =
    TurnedBack n file
    ⊎ IsRead file
    × (((n ≡ 11) × TableTooSmall c.rules (task_of file) table)
    ⊎ (n ≡ 12) × (TableTooSmall c.rules (task_of file) table → ⊥) × CertificateTooLong c.rules (task_of file) buffer)

-- the case that is named for refusal n of the checker
unfoldable pub CheckerRefuses : Contest → List ℕ → List ℕ → ℕ → Type 0
CheckerRefuses c file certificate n =
    TurnedBack n file
    ⊎ IsRead file
    × (((n ≡ 13) × Malformed max_registers c (task_of file) certificate)
    ⊎ (n ≡ 14) × NotAccepted max_registers c (task_of file) certificate)
