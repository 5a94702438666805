-- Whatever certificate a comparison writes, the checker accepts it, with the same verdict and rounds; and so it does with any other
-- bytes of which the same holds. Assumes nothing.
use Prim.Native.Nat.{ℕ, ◌<◌, ◌^◌}
use Rattle.std.specs.Prelude.{Ok, None, Some}
use mathlib.Core.Path.{◌≡◌, subst}
use mathlib.Core.Logic.{◌≢◌}
use mathlib.Core.Bool.{true}
use mathlib.Core.List.Memᴰ
use mathlib.Core.List.{List}
use native.Mathlib.Omega.{arith}
use lib.ListN.{length}
use Rattle.fra.specs.Lists.{◌∈◌}
use Rattle.fra.specs.Rules.{Rules}
use Rattle.fra.specs.Position.{legal}
use Rattle.fra.specs.Game.{NeverLost, HasRank}
use Rattle.fra.specs.Reach.{reached, rounds}
use Rattle.fra.specs.Valid.{Valid}
use Rattle.fra.specs.declared.Task.{Task}
use Rattle.fra_laws.proofs.Reached.{reached-legal}
use Rattle.fra_laws.proofs.Ranks.{rank-at-most-length, same_rank}
use Rattle.outcome.specs.Verdicts.{Contest, kind_of}
use Rattle.outcome.specs.Certificate.{Loss, place_of, certificate_by}
use Rattle.outcome.specs.Conditions.{accepts-kept, accepts-lost}
use Rattle.outcome.specs.Check.{check_task}
use Rattle.outcome.specs.Listed.{KeptWritten, at-start, LossesWritten}
use Rattle.outcome_laws.proofs.WrittenLists.{reached-closed, rounds_never, rounds-least, led_reached}
use Rattle.outcome_laws.proofs.LeftBehind.{kept-left, losses-left}
use Rattle.outcome_laws.proofs.MetConditions.{kept_condition, lost_condition}
use Rattle.outcome_laws.proofs.Check.{check-accepts}

module _ {r : ℕ} {t : Task} (valid : Valid r t) (c : Contest) (differ : kind_of c.kept ≢ kind_of c.lost) where
  abbrev g : Rules
  g = c.rules

  kept_accepted_lem : NeverLost g t t.start → {written : List ℕ} → KeptWritten c t written
      → check_task r c t written ≡ Ok (record { verdict = c.kept; rounds = 0 })
  kept_accepted_lem h w =
      check-accepts r c t differ
      (accepts-kept w.positions w.encoded w.rising (kept_condition valid g w.positions w.exactly h))

  pub own-kept : rounds g t t.start ≡ None → check_task r c t (certificate_by c t None) ≡ Ok (record { verdict = c.kept; rounds = 0 })
  own-kept e = kept_accepted_lem ((rounds_never valid g).0 e) (kept-left valid c)

  -- rounds fit four bytes wherever the count of positions does
  module _ (few : length (reached g t) < 2 ^ 32) where
    lost_accepted : (n : ℕ) → HasRank g t t.start n → {written : List ℕ} → LossesWritten c t written
        → check_task r c t written ≡ Ok (record { verdict = c.lost; rounds = n })
    lost_accepted n h {written} w =
        let (x, m, e) = Memᴰ.of_map place_of w.losses ((w.exactly t.start).1 at-start) in
        subst (λ (k : ℕ). check_task r c t written ≡ Ok (record { verdict = c.lost; rounds = k })) (same_rank g t (rw e at (w.each x m).has-rank) h)
        (check-accepts r c t differ
        (accepts-lost w.losses w.encoded are_legal are_words w.rising
        (lost_condition w.losses w.exactly w.each)
        x m e))
      where
        is_reached : (x : Loss) → x ∈ w.losses → x.position ∈ reached g t
        is_reached x m = led_reached valid g ((w.exactly x.position).0 (Memᴰ.map place_of m))

        are_legal : (x : Loss) → x ∈ w.losses → legal r t x.position ≡ true
        are_legal x m = reached-legal valid g x.position (is_reached x m)

        are_words : (x : Loss) → x ∈ w.losses → x.rounds < 2 ^ 32
        are_words x m =
            let bound =
            rank-at-most-length g t (reached g t) (reached-closed valid g) x.position (is_reached x m) x.rounds
            (w.each x m).has-rank in
            omega arith

    pub own-lost : (n : ℕ) → rounds g t t.start ≡ Some n → check_task r c t (certificate_by c t (Some n)) ≡ Ok (record { verdict = c.lost; rounds = n })
    own-lost n e = let h = (rounds-least valid g n e).0 in lost_accepted n h (losses-left valid c n h)
