-- What 01 shows of `compare`'s text, evaluated on the definitions from the task's bytes on. Assumes nothing.
use mathlib.Core.Path.{◌≡◌, refl}
use mathlib.Core.List.{[], ◌++◌}
use lib.ListN.{replicate}
use Rattle.outcome_marked.specs.MarkedCases.{P, G, end, sized, outcome}
use Rattle.fra.specs.declared.Game.TheVariants.{BothAttack, LeftAttacks}
use Rattle.std.specs.Prelude.{codes}
use Rattle.text.specs.Text.{digits_within, decimal, prints}

-- "On case 2 it prints"; 02, ticket 2: "printed lines show the size after the partners"
pub case_2_prints : prints BothAttack (P ++ G ++ end) ≡ codes "DIFFER 2 1\nLOST 0 0 0 0 0 0 0 0 13 1 0 7 1\n"
unfolding prints outcome
case_2_prints = refl

-- case 1: "EQUAL lines are `KEPT`" and the numbers of a position
pub case_1_prints : prints BothAttack (P ++ P ++ end)
    ≡ codes "EQUAL 2 0\nKEPT 0 0 0 0 0 0 0 0 13\nKEPT 1 1 1 0 0 0 0 0 13\n"
unfolding prints outcome
case_1_prints = refl

-- case 2 with size 0
pub case_2_size_0_prints : prints BothAttack (P ++ G ++ sized 0)
    ≡ codes "EQUAL 2 0\nKEPT 0 0 0 0 0 0 0 0 0\nKEPT 1 1 1 0 0 0 0 0 1\n"
unfolding prints outcome
case_2_size_0_prints = refl

-- 02, ticket 1: case 2 one way, and with the sides exchanged
pub case_2_one_way-prints : prints LeftAttacks (P ++ G ++ end) ≡ codes "FALLS SHORT 2 1\nLOST 0 0 0 0 0 0 0 0 13 1 0 7 1\n"
unfolding prints outcome
case_2_one_way-prints = refl

pub case_2_exchanged-prints : prints LeftAttacks (G ++ P ++ end)
    ≡ codes "FOLLOWS 2 0\nKEPT 0 0 0 0 0 0 0 0 13\nKEPT 1 1 1 0 0 0 0 0 13\n"
unfolding prints outcome
case_2_exchanged-prints = refl

-- case 7: "a refusal `REFUSED` and its number"
pub case_7_prints : prints BothAttack [] ≡ codes "REFUSED 2\n"
unfolding prints outcome
case_7_prints = refl

-- "Longer input prints `TOO LONG`"
pub longer_prints : prints BothAttack (replicate 4097 0) ≡ codes "TOO LONG\n"
unfolding prints
longer_prints = refl

-- the largest number of four bytes
pub largest_number : decimal 4294967295 ≡ codes "4294967295"
unfolding digits_within decimal
largest_number = refl
