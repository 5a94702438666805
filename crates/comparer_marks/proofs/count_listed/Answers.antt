-- An entry is counted exactly if it is listed, and there are no more than the entries.
use Rattle.std.proofs.Common.{ℕ, ◌≡◌, ◌+◌, refl, sym, ◌∙◌, ap, arith}
use Rattle.fra.specs.Lists.{keep, count}
use Rattle.comparer_certify_laws.specs.EntryRecords.{listed_places}
use Rattle.comparer_certify_laws.proofs.RecordFilling.{listed_at, listed_more, listed_same, listed_few}
use Rattle.comparer_marks.proofs.count_listed.Goals as goal
use Rattle.comparer_marks.proofs.count_listed.Goals.{then-is_listed, else-is_listed}

pub loop-i-init : goal.loop-i-init
unfolding listed_places keep count
loop-i-init c = refl

pub overflow_add-found : goal.overflow_add-found
overflow_add-found c = omega (arith, listed_few c.args.standing c.args.table.now c.loop-i.i)

pub loop-i-preserved : goal.loop-i-preserved
loop-i-preserved c =
    let listed : listed_at c.args.standing c.args.table.now c.loop-i.i ≡ c.is_listed.result =
    sym (c.is_listed.ensures ∙ rw (c.rounds_at.ensures, c.of_table-entries.ensures)) in
    elim c.if-is_listed.branch [
      | then-is_listed w ↦
          w.found-is
          ∙ ap (λ (k : ℕ). k + 1) c.loop-i.invariant
          ∙ sym (listed_more c.args.standing c.args.table.now c.loop-i.i (listed ∙ w.if-is_listed.true))
      | else-is_listed w ↦
          w.found-is
          ∙ c.loop-i.invariant
          ∙ sym (listed_same c.args.standing c.args.table.now c.loop-i.i (listed ∙ w.if-is_listed.false))
    ]
