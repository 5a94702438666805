-- The keys of the positions that the pair leads to, or no key, are wanted.
use mathlib.Core.Logic.{inl, inr, ⊎_elim}
use Rattle.std.proofs.Common.{ℕ, ◌≡◌, Bool, true, not, ◌&&◌, eqb, List, sym, ◌∙◌, ap}
use Rattle.std.specs.Prelude.{Result, Ok, Err}
use Rattle.std.proofs.lemmas.Result.{err_from_is_err_and}
use Rattle.fra.specs.Lists.{◌∈◌}
use Rattle.fra.specs.declared.Side.TheVariants.{Left}
use Rattle.fra_laws.specs.Joint.{compatible, sizes_after}
use Rattle.game_index.specs.declared.Transition.{Transition}
use Rattle.game_moves.specs.AfterRound.{moved_to}
use Rattle.game_moves.specs.HistorySizes.{first_size}
use Rattle.table_keys.specs.Keys.{key_of, Fits}
use Rattle.key_set.specs.declared.Full.{Full}
use Rattle.key_set_laws.proofs.Growth.{completes_as, overflows_as}
use Rattle.comparer_explore_laws.specs.EdgeKeys.{PairFits}
use Rattle.comparer_explore_laws.proofs.PairKeys.{key_after, seen_too, first-size, seen_size, first_key, seen_key}
use Rattle.comparer_explore_laws.proofs.PairKeys.{either_key, first-key_alone}
use Rattle.comparer_explore.specs.ExploreAnswers.{Visited}
use Rattle.comparer_explore.specs.HalfRounds.{Halves, joined_to}
use Rattle.comparer_explore.specs.declared.expand.Half.{Half}
use Rattle.comparer_explore.specs.declared.expand.Source.{Source}
use Rattle.comparer_explore.proofs.HalfRounds.{both_halves}
use Rattle.comparer_explore.proofs.Sources.{keyed_few, keyed_below}
use Rattle.comparer_explore.proofs.Visited.{visited_as, visited_then}
use Rattle.comparer_explore.proofs.expand.visit_pair.Goals as goal
use Rattle.comparer_explore.proofs.expand.visit_pair.Goals.{After-also_seen}

-- the positions after the round, as the two halves make them
module _ (s : Source) (half : Half) (right : Transition) (h : Halves s.position half)
    (joint : compatible s.position Left half.edge.kind right.kind ≡ true) (fits : PairFits s.radix s.room s.position half.edge right)
  where
    moves : (size : ℕ) → joined_to half size right.target ≡ moved_to s.position size half.edge.target right.target
    moves size = both_halves s.position half size right.target h

    half_fits : (size : ℕ) → size ∈ sizes_after 6 s.room s.position.history half.edge.kind right.kind
        → Fits s.radix (joined_to half size right.target)
    half_fits size m = rw (moves size) (fits joint size m)

    abbrev first : ℕ
    first = first_size 6 s.position.history half.edge.kind right.kind

    first_fits : (size : ℕ) → size ≡ first → Fits s.radix (joined_to half size right.target)
    first_fits size e = half_fits size (rw e (first-size s.radix s.room s.position half.edge right))

    -- the first visit is of the key of the first size
    first_visit : (size key : ℕ) → size ≡ first → key ≡ key_of s.radix (joined_to half size right.target)
        → (n : ℕ) (old : List ℕ) (r : Result ℕ Full) (new : List ℕ)
        → Visited s.keys (λ k. k ≡ key) n old r new
        → Visited s.keys (λ k. k ≡ key_after s.radix s.room s.position half.edge right first) n old r new
    first_visit size key e k n old r new v =
        let same = k ∙ ap (key_of s.radix) (moves size) ∙ ap (key_after s.radix s.room s.position half.edge right) e in
        visited_as s.keys n old r new (λ x d. d ∙ same) (λ x d. d ∙ sym same) v

-- whether a number seen before is tried
tried : (c : After-also_seen)
    → let s = c.args.source in
    (s.room && not (eqb c.size_after-size.result s.position.history) && c.also_seen.result)
    ≡ seen_too s.radix s.room s.position c.args.half.edge c.args.right
tried c =
    let s = c.args.source in
    let size = first_size 6 s.position.history c.args.half.edge.kind c.args.right.kind in
    ap (λ (n : ℕ). s.room && not (eqb n s.position.history) && c.also_seen.result) c.size_after-size.ensures
    ∙ ap (λ (b : Bool). s.room && not (eqb size s.position.history) && b) c.also_seen.ensures

pub key_after-key-requires-clause-sized : goal.key_after-key-requires-clause-sized
key_after-key-requires-clause-sized c =
    let a = c.args in
    let (h, joint) = c.requires.halves in
    (c.requires.stored.1.sized, first_fits a.source a.half a.right h joint c.requires.pair_fits c.size_after-size.result c.size_after-size.ensures)

pub visit-requires : goal.visit-requires
visit-requires c =
    let a = c.args in
    let (h, joint) = c.requires.halves in
    let (stored, keyed) = c.requires.stored in
    let fits = first_fits a.source a.half a.right h joint c.requires.pair_fits c.size_after-size.result c.size_after-size.ensures in
    (stored, keyed_below keyed fits c.key_after-key.ensures, keyed_few keyed)

pub returns-in_err-m : goal.returns-in_err-m
returns-in_err-m c =
    let a = c.args in
    let s = a.source in
    let (h, joint) = c.requires.halves in
    let p = err_from_is_err_and c.from_residual.result c.from_residual.ensures.1 in
    rw p.1
    (overflows_as (first_key s.radix s.room s.position a.half.edge a.right joint)
    (first_visit s a.half a.right h joint c.requires.pair_fits c.size_after-size.result c.key_after-key.result c.size_after-size.ensures
    c.key_after-key.ensures a.n a.table.now (Err (record {})) c.visit.new.table c.in_err-m.ensures))

pub key_after-seen-requires-clause-sized : goal.key_after-seen-requires-clause-sized
key_after-seen-requires-clause-sized c =
    let a = c.args in
    let s = a.source in
    let (h, joint) = c.requires.halves in
    let seen = sym (tried (goal.at.key_after-seen-requires-clause-sized c).After-also_seen) ∙ c.if-source-size.true in (
      c.requires.stored.1.sized,
      half_fits s a.half a.right h joint c.requires.pair_fits s.position.history (seen_size s.radix s.room s.position a.half.edge a.right seen),
    )

pub visit-requires-then-source-size : goal.visit-requires-then-source-size
visit-requires-then-source-size c =
    let a = c.args in
    let s = a.source in
    let (h, joint) = c.requires.halves in
    let keyed = c.requires.stored.1 in
    let seen = sym (tried (goal.at.visit-requires-then-source-size c).After-also_seen) ∙ c.if-source-size.true in
    let fits =
    half_fits s a.half a.right h joint c.requires.pair_fits s.position.history (seen_size s.radix s.room s.position a.half.edge a.right seen) in
    (c.in_ok-m.ensures.grows.stored, keyed_below keyed fits c.key_after-seen.ensures, keyed_few keyed)

pub returns-then-source-size : goal.returns-then-source-size
returns-then-source-size c =
    let a = c.args in
    let s = a.source in
    let (h, joint) = c.requires.halves in
    let e = c.key_after-seen.ensures ∙ ap (key_of s.radix) (moves s a.half a.right h joint c.requires.pair_fits s.position.history) in
    let seen = sym (tried (goal.at.returns-then-source-size c).After-also_seen) ∙ c.if-source-size.true in
    let done =
    first_visit s a.half a.right h joint c.requires.pair_fits c.size_after-size.result c.key_after-key.result c.size_after-size.ensures
    c.key_after-key.ensures a.n a.table.now (Ok c.in_ok-m.m) c.visit.new.table c.in_ok-m.ensures in
    visited_then s.keys c.visit-then-source-size.result c.visit-then-source-size.new.table
    (first_key s.radix s.room s.position a.half.edge a.right joint)
    (λ k d. seen_key s.radix s.room s.position a.half.edge a.right joint seen k (d ∙ e))
    (λ k w. ⊎_elim inl (λ d. inr (d ∙ sym e)) (either_key s.radix s.room s.position a.half.edge a.right k w))
    done c.visit-then-source-size.ensures

pub returns : goal.returns
returns c =
    let a = c.args in
    let s = a.source in
    let (h, joint) = c.requires.halves in
    let alone = sym (tried (goal.at.returns c).After-also_seen) ∙ c.if-source-size.false in
    completes_as (first_key s.radix s.room s.position a.half.edge a.right joint)
    (first-key_alone s.radix s.room s.position a.half.edge a.right alone)
    (first_visit s a.half a.right h joint c.requires.pair_fits c.size_after-size.result c.key_after-key.result c.size_after-size.ensures
    c.key_after-key.ensures a.n a.table.now (Ok c.in_ok-m.m) c.visit.new.table c.in_ok-m.ensures)
