-- Every case of a table comes out as stated, evaluated on the definitions from the task's bytes on. Assumes nothing.
use mathlib.Core.Path.{◌≡◌, refl}
use mathlib.Core.Bool.{true}
use mathlib.Core.List.{List}
use Rattle.fra.specs.Lists.{all}
use Rattle.outcome_marked.specs.MarkedCases.{Case, marked_cases, further_cases, one_way_cases, history_cases, met}

abbrev pub AllMet : List Case → Type 0
AllMet l = all met l ≡ true

-- the eleven marked cases of 01
pub marked-cases : AllMet marked_cases
unfolding all met marked_cases
marked-cases = refl

-- the mistakes of 01 that no marked case shows
pub further_cases_lem : AllMet further_cases
unfolding all met further_cases
further_cases_lem = refl

-- those of the one-way comparison
pub one_way-cases : AllMet one_way_cases
unfolding all met one_way_cases
one_way-cases = refl

-- those of history sizes
pub history-cases : AllMet history_cases
unfolding all met history_cases
history-cases = refl
