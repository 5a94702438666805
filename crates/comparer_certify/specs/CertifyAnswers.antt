-- What a call answers, and what it leaves in the table and in the buffer.
use Rattle.std.specs.Prelude.{ℕ, ◌≡◌, true, false, List, ◌++◌, length, ltb, Result, Ok, Err}
use Rattle.fra.specs.Reach.{reached, rounds}
use Rattle.outcome.specs.Bytes.{then_rest}
use Rattle.outcome.specs.Certificate.{entries, certificate_by}
use Rattle.game_index.specs.Reading.{task_in, rules_in}
use Rattle.comparer_certify.specs.RecordFields.{contest_in}
use Rattle.comparer_certify.specs.declared.TooLong.{TooLong}

-- the table begins with the entries of the n positions reached
pub record Ranked (b : List ℕ) (n : ℕ) (table : List ℕ) : Type 0 where
  pub counted : n ≡ length (reached (rules_in b) (task_in b))
  pub rest : List ℕ
  pub begins : table ≡ entries (rules_in b) (task_in b) ++ rest

abbrev pub certificate_in : List ℕ → List ℕ
certificate_in b = certificate_by (contest_in b) (task_in b) (rounds (rules_in b) (task_in b) (task_in b).start)

-- 12: "The certificate is longer than its buffer."
unfoldable pub answer_of : List ℕ → List ℕ → Result ℕ TooLong
answer_of certificate buffer =
    elim (ltb (length buffer) (length certificate)) [ true ↦ Err (record {}) | false ↦ Ok (length certificate) ]

-- it "fills the buffer from its start; the rest is unchanged"
unfoldable pub buffer_after : List ℕ → List ℕ → List ℕ
buffer_after certificate buffer =
    elim (ltb (length buffer) (length certificate)) [ true ↦ buffer | false ↦ then_rest certificate buffer ]

-- the table is as it was, and the certificate is written if it fits
pub record Certifies (certificate table buffer : List ℕ) (r : Result ℕ TooLong) (table' buffer' : List ℕ) : Type 0 where
  pub answers : r ≡ answer_of certificate buffer
  pub restored : table' ≡ table
  pub written : buffer' ≡ buffer_after certificate buffer
