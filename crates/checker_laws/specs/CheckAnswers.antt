-- The checker's answers, from the records of a certificate by their places.
use Rattle.std.specs.Prelude.{ℕ, Bool, ◌&&◌, List, length, eqb, Result}
use Rattle.fra.specs.Rules.{Rules, rules_of}
use Rattle.fra.specs.Game.{lost_at_once}
use Rattle.fra.specs.declared.Task.{Task}
use Rattle.fra.specs.declared.Game.{Game}
use Rattle.outcome.specs.Certificate.{Loss}
use Rattle.outcome.specs.Verdicts.{verdict_of, kind_of}
use Rattle.outcome.specs.Check.{holds, kept_accepted, loss_holds, losses_accepted, start_rounds, judge_list}
use Rattle.task.specs.declared.Refusal.{Refusal}
use Rattle.outcome.specs.declared.Acceptance.{Acceptance}
use Rattle.outcome.specs.declared.Standing.{Standing}
use Rattle.outcome.specs.declared.Standing.TheVariants.{Kept, Lost}
use Rattle.listing.specs.Listing.{position_at}
use Rattle.checker_laws.specs.CertificateRecords.{records_of, kept_in, loss_at, losses_in, formed}

-- "rounds 0 has differing end marks and zero fields"
abbrev pub lost_already : Rules → Task → Loss → Bool
lost_already g t x = lost_at_once g t x.position && eqb x.side 0 && eqb x.edge 0 && eqb x.case 0

-- record i holds
abbrev pub record_holds : Rules → Task → Standing → List ℕ → ℕ → Bool
record_holds g t Kept l i = holds g t (kept_in l) (position_at (records_of Kept (length l)) l i)
record_holds g t Lost l i = loss_holds g t (losses_in l) (loss_at l i)

-- the list is accepted
abbrev pub accepted_by : Rules → Task → Standing → List ℕ → Bool
accepted_by g t Kept l = kept_accepted g t (kept_in l)
accepted_by g t Lost l = losses_accepted g t (losses_in l)

-- "the start's listed rounds, 0 for kind 16"
abbrev pub rounds_by : Task → Standing → List ℕ → ℕ
rounds_by t Kept l = 0
rounds_by t Lost l = start_rounds t (losses_in l)

-- to a certificate whose first record is of this kind: well formed or 13, and then accepted or 14
abbrev pub list_answer : Game → Task → Standing → List ℕ → Result Acceptance Refusal
list_answer g t s l =
    judge_list (formed t (kind_of (verdict_of g s)) (records_of s (length l)) l) (accepted_by (rules_of g) t s l)
    (record { verdict = verdict_of g s; rounds = rounds_by t s l })
