-- What the records of a certificate judge lost: positions that are not listed as kept, or that are listed as lost with fewer
-- rounds. So judged, a kept position holds unless an attack wins, and a loss is forced by an attack that wins. Assumes
-- nothing.
use mathlib.Core.Path.{◌≡◌, refl, sym, ◌∙◌, ap}
use mathlib.Core.Bool.{Bool, false, not, ◌&&◌}
use mathlib.Core.List.{List}
use Rattle.std.specs.Prelude.{ℕ, Option, None, Some, is_some, is_none}
use lib.ListN.{length}
use lib.Dec.{ltb}
use Rattle.fra.specs.Lists.{any}
use Rattle.fra.specs.Game.{is_attack, lost_at_once}
use Rattle.fra.specs.declared.Position.{Position}
use Rattle.fra.specs.declared.Attack.{Attack}
use Rattle.outcome.specs.Certificate.{Loss}
use Rattle.outcome.specs.Check.{same, holds, forces}
use Rattle.outcome.specs.declared.Standing.{Standing}
use Rattle.outcome.specs.declared.Standing.TheVariants.{Kept, Lost}
use Rattle.listing.specs.Lookup.{place_of}
use Rattle.game_index.specs.Reading.{task_in, rules_in}
use Rattle.game_replies.specs.Winner.{wins_by, winner}
use Rattle.game_wins.specs.Judgement.{lost_at, judged, judged_among}
use Rattle.game_wins.specs.declared.Judge.{Judge}
use Rattle.game_wins.specs.declared.Test.{Test}
use Rattle.game_wins.specs.declared.Test.TheVariants.{Sooner, Unlisted}
use Rattle.game_wins.proofs.AllPairs.{among-all}
use Rattle.checker_laws.specs.CertificateRecords.{records_of, kept_in, losses_in}
use Rattle.checker_laws.proofs.LookedUp.{sooner_found, lost_in, position-listed, loss_sooner}
use Rattle.checker_acceptance.specs.RecordTests.{Testable}
use Rattle.checker_acceptance.proofs.HoldsUnlessWon.{holds_unless_won, forces_if_won}

-- the judge by a certificate's records
abbrev pub judge_of : Standing → List ℕ → Test → Judge
judge_of v l test = record { records = records_of v (length l); test = test }

-- what it judges lost
abbrev pub lost_by : List ℕ → Standing → List ℕ → Test → Position → Bool
lost_by pairs v l test = judged_among pairs l (judge_of v l test)

module _ {b l pairs : List ℕ} where
  -- ── Kept positions ──

  module _ (h : Testable Kept b l pairs) where
    unlisted_lost : (q : Position) → lost_by pairs Kept l Unlisted q ≡ not (any (same q) (kept_in l))
    unfolding judged
    unlisted_lost q =
        rw h.every
        (among-all l (judge_of Kept l Unlisted) q ∙ at (place_of q (kept_in l)) ∙ ap not (sym (position-listed q (kept_in l))))
      where
        at : (o : Option ℕ) → lost_at l (records_of Kept (length l)) Unlisted o ≡ not (is_some o)
        at (Some i) = refl
        at None = refl

    pub kept_by-winner : (p : Position) → lost_at_once (rules_in b) (task_in b) p ≡ false
        → holds (rules_in b) (task_in b) (kept_in l) p
        ≡ is_none (winner (rules_in b) (task_in b) (lost_by pairs Kept l Unlisted) p)
    kept_by-winner p e =
        holds_unless_won (rules_in b) (task_in b) (lost_by pairs Kept l Unlisted) (kept_in l) unlisted_lost p ∙ rw e

  -- ── Losses ──

  module _ (h : Testable Lost b l pairs) where
    sooner_lost : (n : ℕ) (q : Position)
        → lost_by pairs Lost l (Sooner n) q ≡ any (λ x. same q x.position && ltb x.rounds n) (losses_in l)
    unfolding judged
    sooner_lost n q =
        rw h.every
        (among-all l (judge_of Lost l (Sooner n)) q ∙ at (place_of q (lost_in l)) ∙ sym (loss_sooner l h.searchable q n))
      where
        at : (o : Option ℕ) → lost_at l (records_of Lost (length l)) (Sooner n) o ≡ sooner_found l n o
        at (Some i) = refl
        at None = refl

    pub loss_won : (x : Loss) (a : Attack)
        → forces (rules_in b) (task_in b) (losses_in l) x (Some a)
        ≡ (is_attack (rules_in b) (task_in b) x.position a
        && wins_by (task_in b) (lost_by pairs Lost l (Sooner x.rounds)) x.position a)
    loss_won x a =
        forces_if_won (rules_in b) (task_in b) (lost_by pairs Lost l (Sooner x.rounds)) (losses_in l) x (sooner_lost x.rounds) a
