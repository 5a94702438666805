use Rattle.std.proofs.Common.{◌≡◌, ℕ, ◌%◌, List, length, false, sym, ◌∙◌}
use native.Mathlib.Nat.{sub-zero}
use borrow.Author.Tests.{eq-eqb, ne_eqb}
use Rattle.fra.specs.Lists.{all, count}
use Rattle.fra.specs.declared.Task.{Task}
use Rattle.fra_laws.proofs.ByPlace.{all_stop, all_on, all_end}
use Rattle.game_index.specs.Reading.{task_in}
use Rattle.listing.specs.declared.Listing.{Listing}
use Rattle.checker_laws.specs.CertificateRecords.{formed_at, formed}
use Rattle.checker_form.proofs.formed.Goals as goal

-- what is left of a record at the end decides, and else the records
module _ (t : Task) (kind : ℕ) (y : Listing) (l : List ℕ) where
  cut : (length l % y.width ≡ 0 → ⊥) → false ≡ formed t kind y l
  unfolding formed
  cut n = rw (ne_eqb (length l % y.width) 0 n)

  whole : length l % y.width ≡ 0 → formed t kind y l ≡ all (formed_at t kind y l) (count 0 y.count)
  unfolding formed
  whole e = rw (eq-eqb (length l % y.width) 0 e)

pub returns-then-cut : goal.returns-then-cut
returns-then-cut c =
    let a = c.args in cut (task_in a.index.now) a.kind a.records a.certificate.now c.if-cut.true

pub loop-i-init : goal.loop-i-init
loop-i-init c = rw (sub-zero _)

pub returns-then-not-record_formed : goal.returns-then-not-record_formed
returns-then-not-record_formed c =
    let a = c.args in
    rw (
      whole (task_in a.index.now) a.kind a.records a.certificate.now c.if-cut.false,
      c.loop-i.invariant,
      all_stop _ _ _ c.loop-i-test.true (sym c.record_formed.ensures ∙ c.if-not-record_formed.true),
    )

pub loop-i-preserved : goal.loop-i-preserved
loop-i-preserved c =
    c.loop-i.invariant
    ∙ all_on _ _ _ c.loop-i-test.true (sym c.record_formed.ensures ∙ c.if-not-record_formed.false)

pub returns : goal.returns
returns c =
    let a = c.args in
    rw (
      whole (task_in a.index.now) a.kind a.records a.certificate.now c.if-cut.false,
      c.loop-i.invariant,
      all_end _ _ _ c.loop-i-test.false,
    )
