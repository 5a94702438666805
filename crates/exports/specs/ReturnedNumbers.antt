-- What a caller from C is given, in terms of the numbers that a call returns.
use Rattle.std.specs.Prelude.{ℕ, ◌≡◌, List}
use Rattle.outcome.specs.Verdicts.{Values, values_of}
use Rattle.outcome.specs.Compare.{Outcome}
use Rattle.exports.specs.declared.Answer.{Answer}

-- the numbers in an answer
abbrev pub numbers_in : Answer → Values
numbers_in a =
    record {
      refusal = a.refusal;
      verdict = a.verdict;
      positions = a.positions;
      rounds = a.rounds;
      length = a.length;
    }

-- the answer's numbers, the table and the certificate buffer at exit are an outcome's
pub record Returns (o : Outcome) (answer : Answer) (table certificate : List ℕ) : Type 0 where
  pub numbers : numbers_in answer ≡ values_of o.answer
  pub tables : table ≡ o.table
  pub certificates : certificate ≡ o.certificate
