-- a place that is found is that of one of the records
use Rattle.std.proofs.Common.{◌≡◌, refl, sym, ◌∙◌, ℕ, Bool, true, false, not, Option, Some, None, List, arith}
use Rattle.std.specs.Prelude.{is_some}
use Rattle.fra_laws.proofs.Tests.{clash}
use Rattle.listing.specs.Listing.{positions_in}
use Rattle.listing.proofs.Placing.{place-within}
use Rattle.listing.proofs.PositionNumbers.{positions-length}
use Rattle.listing.specs.declared.Listing.{Listing}
use Rattle.game_wins.specs.Judgement.{lost_at, judged}
use Rattle.game_wins.specs.declared.Test.TheVariants.{Unlisted}
use Rattle.game_wins.proofs.is_lost.Goals as goal

-- a position that is nowhere counts as lost, and no other
unlisted : (l : List ℕ) (y : Listing) (o : Option ℕ) (none : Bool) → is_some o ≡ not none → none ≡ lost_at l y Unlisted o
unlisted l y None true e = refl
unlisted l y None false e = clash (cc)
unlisted l y (Some i) true e = clash (cc)
unlisted l y (Some i) false e = refl

pub rounds_at-requires : goal.rounds_at-requires
rounds_at-requires c =
    let l = c.args.list.now in
    let records = c.args.judge.records in
    let within = place-within _ (positions_in records l) _ (sym c.find-place.ensures ∙ c.in-Some.is) in
    (c.requires.fitting, omega (arith, positions-length records l))

pub returns-in-Some : goal.returns-in-Some
unfolding judged
returns-in-Some c = rw (c.rounds_at.ensures, c.in-Sooner.is, ← c.find-place.ensures, c.in-Some.is)

pub returns-in-None : goal.returns-in-None
unfolding judged
returns-in-None c = rw (c.in-Sooner.is, ← c.find-place.ensures, c.in-None.is)

pub returns-in-Unlisted : goal.returns-in-Unlisted
unfolding judged
returns-in-Unlisted c = rw (c.in-Unlisted.is, ← c.find-place.ensures) (unlisted c.args.list.now c.args.judge.records _ _ c.is_none.ensures)
