-- The records that are written by a ranked table are the certificate, and the table is restored. Assumes nothing.
use Prim.Native.Nat.{ℕ, ◌^◌, ◌<◌}
use mathlib.Core.Path.{◌≡◌, refl, sym, ◌∙◌, ap}
use mathlib.Core.List.{List}
use Rattle.std.specs.Prelude.{Option, None, Some}
use native.Mathlib.Omega.{arith}
use lib.ListN.{length}
use Rattle.fra.specs.Rules.{Rules}
use Rattle.fra.specs.Reach.{reached, rounds}
use Rattle.fra.specs.Valid.{Valid}
use Rattle.fra.specs.declared.Task.{Task}
use Rattle.outcome.specs.Bytes.{all_ones}
use Rattle.outcome.specs.Certificate.{rounds_or_never, certificate_by}
use Rattle.outcome.specs.declared.Standing.TheVariants.{Kept, Lost}
use Rattle.outcome_laws.proofs.WrittenLists.{rounds-least}
use Rattle.listing.specs.Listing.{of_table, Searchable}
use Rattle.game_index.specs.Reading.{task_in, rules_in}
use Rattle.game_index.specs.Writing.{Index}
use Rattle.comparer_rank_laws.proofs.FewPositions.{few_positions}
use Rattle.comparer_certify_laws.specs.MarkedRounds.{rounds_limit, halved}
use Rattle.comparer_certify_laws.specs.Marking.{changed, rounds_for, prepared}
use Rattle.comparer_certify_laws.proofs.RankedTables.{ranked-searchable, start-rounds, kept-records, lost-certificate, table-restored}
use Rattle.comparer_certify.specs.RecordFields.{records_in}
use Rattle.comparer_certify.specs.CertifyAnswers.{Ranked, certificate_in}

module _ {b : List ℕ} (index : Index b) where
  abbrev g : Rules
  g = rules_in b

  abbrev t : Task
  t = task_in b

  abbrev valid : Valid 6 t
  valid = index.indexable.valid

  few : length (reached g t) < 2 ^ 30
  few = omega (arith, few_positions index g)

  module _ {n : ℕ} {table : List ℕ} (ranked : Ranked b n table) where
    pub searchable : Searchable (of_table n) table
    searchable = rw (ranked.counted, ranked.begins) (ranked-searchable valid g few ranked.rest)

    start_by : rounds_for n t.start table ≡ rounds_or_never (rounds g t t.start)
    start_by = rw (ranked.counted, ranked.begins) (start-rounds valid g few ranked.rest)

    -- a start that is never lost
    pub never_lost : rounds_for n t.start table ≡ all_ones → records_in b Kept n table ≡ certificate_in b
    unfolding certificate_by
    never_lost e = by (rounds g t t.start) refl
      where
        by : (o : Option ℕ) → rounds g t t.start ≡ o → records_in b Kept n table ≡ certificate_in b
        by None d = rw (d, ranked.counted, ranked.begins) (kept-records valid g few ranked.rest _)
        by (Some k) d =
            let s : k ≡ all_ones = ap rounds_or_never (sym d) ∙ sym start_by ∙ e in
            absurd (omega (arith, few, (rounds-least valid g k d).1))

    -- a start that is lost in k rounds
    pub record LostStart (k : ℕ) : Type 0 where
      pub small : k < rounds_limit
      pub certificate : records_in b Lost n (prepared g t n k table) ≡ certificate_in b
      pub restored : changed halved n (prepared g t n k table) ≡ table

    pub lost : (k : ℕ) → rounds_for n t.start table ≡ k → (k ≡ all_ones → ⊥) → LostStart k
    unfolding certificate_by
    lost k e d = by (rounds g t t.start) refl
      where
        by : (o : Option ℕ) → rounds g t t.start ≡ o → LostStart k
        by None f = absurd (d (sym e ∙ start_by ∙ ap rounds_or_never f))
        by (Some j) f =
            let s : k ≡ j = sym e ∙ start_by ∙ ap rounds_or_never f in
            rw s
            (record {
              small = omega (arith, few, (rounds-least valid g j f).1);
              certificate = rw (f, ranked.counted, ranked.begins) (lost-certificate valid g few ranked.rest j f _);
              restored = rw (ranked.counted, ranked.begins) (table-restored valid g few ranked.rest j f);
            })
