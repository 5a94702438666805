-- Verdicts and answers, with 01's numbers for each of their cases.
use Rattle.std.specs.Prelude.{ℕ, List, Result, Ok, Err, codes}
use Rattle.fra.specs.Rules.{Rules, rules_of}
use Rattle.fra.specs.declared.Game.{Game}
use Rattle.fra.specs.declared.Game.TheVariants.{BothAttack, LeftAttacks}
use Rattle.task.specs.Refusals.{number_of}
use Rattle.task.specs.declared.Refusal.{Refusal}
use Rattle.outcome.specs.declared.Standing.{Standing}
use Rattle.outcome.specs.declared.Standing.TheVariants.{Kept, Lost}
use Rattle.outcome.specs.declared.Verdict.{Verdict}
use Rattle.outcome.specs.declared.Verdict.TheVariants.{Equal, Differ, Follows, FallsShort}
use Rattle.outcome.specs.declared.Comparison.{Comparison}
use Rattle.outcome.specs.declared.Acceptance.{Acceptance}

-- A game with its two verdicts: the start is never lost, or it is lost.
pub record Contest : Type 0 where
  pub rules : Rules
  pub kept : Verdict
  pub lost : Verdict

-- the verdict of a game by how the start stands: "EQUAL", "DIFFER"; 02, ticket 1: "The verdicts are FOLLOWS and FALLS SHORT"
abbrev pub verdict_of : Game → Standing → Verdict
verdict_of BothAttack Kept = Equal
verdict_of BothAttack Lost = Differ
verdict_of LeftAttacks Kept = Follows
verdict_of LeftAttacks Lost = FallsShort

abbrev pub contest_of : Game → Contest
contest_of g = record { rules = rules_of g; kept = verdict_of g Kept; lost = verdict_of g Lost }

-- the comparison of 01, and "a one-way comparison where only the left side attacks"
abbrev pub equality : Contest
equality = contest_of BothAttack

abbrev pub one_way : Contest
one_way = contest_of LeftAttacks

-- how the start stands by a verdict
abbrev pub standing_of : Verdict → Standing
standing_of Equal = Kept
standing_of Differ = Lost
standing_of Follows = Kept
standing_of FallsShort = Lost

-- the kind byte of a verdict's certificate records: "EQUAL: kind 16", "DIFFER: kind 17"; "certificates of kinds 18 and 19"
abbrev pub kind_of : Verdict → ℕ
kind_of Equal = 16
kind_of Differ = 17
kind_of Follows = 18
kind_of FallsShort = 19

-- the word that is printed for a verdict
abbrev pub verdict_word : Verdict → List ℕ
verdict_word Equal = codes "EQUAL"
verdict_word Differ = codes "DIFFER"
verdict_word Follows = codes "FOLLOWS"
verdict_word FallsShort = codes "FALLS SHORT"

-- the bytes of such a record; 02, ticket 2: "certificate records 10 and 17"; 18 and 19 are "laid out as 16 and 17"
abbrev pub width_of : Standing → ℕ
width_of Kept = 10
width_of Lost = 17

-- The numbers that a call returns. A verdict's number is its certificate's kind.
pub record Values : Type 0 where
  pub refusal : ℕ
  pub verdict : ℕ
  pub positions : ℕ
  pub rounds : ℕ
  pub length : ℕ

-- "its number and zeros"
abbrev pub number_and_zeros : ℕ → Values
number_and_zeros n = record { refusal = n; verdict = 0; positions = 0; rounds = 0; length = 0 }

-- "A verdict returns positions reached, rounds (0 for EQUAL) and certificate length." "A refusal returns its number and zeros."
abbrev pub values_of : Result Comparison Refusal → Values
values_of (Ok c) =
    record { refusal = 0; verdict = kind_of c.verdict; positions = c.positions; rounds = c.rounds; length = c.length }
values_of (Err e) = number_and_zeros (number_of e)

-- "Acceptance returns the verdict that the kind stands for and the start's listed rounds, 0 for kind 16."
abbrev pub checked_values_of : Result Acceptance Refusal → Values
checked_values_of (Ok a) =
    record { refusal = 0; verdict = kind_of a.verdict; positions = 0; rounds = a.rounds; length = 0 }
checked_values_of (Err e) = number_and_zeros (number_of e)
