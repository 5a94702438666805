-- The walk along the chain of the key's bucket says whether the key is held, and a key that is not held is added while an entry is left.
use Rattle.std.proofs.Common.{◌≡◌, suc, sym, subst, arith}
use Rattle.outcome.specs.Compare.{capacity}
use Rattle.key_set_laws.specs.Growth.{Completes}
use Rattle.key_set_laws.specs.Stored.{Holds}
use Rattle.key_set_laws.proofs.Stored.{completes_held, overflows_full}
use Rattle.key_set_laws.proofs.Chains.{chain_walkable, walk_meets, walk_misses, completes_chained}
use Rattle.key_set.proofs.chains.insert.Goals as goal
use Rattle.key_set.proofs.chains.insert.Goals.{Else-walk}

pub returns-then-entries-eq0 : goal.returns-then-entries-eq0
unfolding capacity
returns-then-entries-eq0 c = λ space s none small. overflows_full s (omega arith) (λ h. omega (arith, h.1, s.room))

pub walk-requires : goal.walk-requires
unfolding capacity
walk-requires c =
    let first = rw c.head_place.ensures at c.word_at-head.ensures in
    chain_walkable c.args.table.now c.requires.n_bound.0 c.requires.chained c.bucket-b.ensures.1 first

pub returns-then-walk : goal.returns-then-walk
unfolding capacity
returns-then-walk c =
    let first = rw c.head_place.ensures at c.word_at-head.ensures in
    λ space s none small.
    completes_held s
    (walk_meets c.args.table.now c.requires.n_bound.0 c.requires.chained c.bucket-b.ensures.1 first c.walk.result c.walk.ensures c.if-walk.true)

-- the walk has not met the key
missing : (c : Else-walk) → Holds c.args.n c.args.table.now c.args.key → ⊥
unfolding capacity
missing c =
    let first = rw c.head_place.ensures at c.word_at-head.ensures in
    walk_misses c.args.table.now c.requires.n_bound.0 c.requires.chained c.bucket-b.ensures.1 first
    c.walk.result c.bucket-b.ensures.0 c.walk.ensures c.if-walk.false

pub returns-then-n-entries : goal.returns-then-n-entries
unfolding capacity
returns-then-n-entries c =
    let a = c.args in
    λ space s none small.
    subst (Completes space (λ x. x ≡ a.key) a.n a.table.now (suc a.n)) (sym c.put_entry.ensures)
    (completes_chained s none small (missing (goal.at.returns-then-n-entries c).Else-walk) c.if-n-entries.true c.bucket-b.ensures.0 (omega arith)
    (omega (arith, c.requires.n_bound.1)))

pub returns : goal.returns
unfolding capacity
returns c = λ space s none small. overflows_full s c.if-n-entries.false (missing (goal.at.returns c).Else-walk)
