-- The first attack with an edge that wins, case by case. A number seen before has no reply that a new one has not, and at the
-- greatest size of the history both lead to the same positions: where the one does not win, the other does not. For any task,
-- judgement and register count. Assumes nothing.
use Prim.Native.Nat.{ℕ, suc, ◌+◌, ◌-◌, ◌≤◌}
use mathlib.Core.Path.{◌≡◌, refl, sym, ◌∙◌, ap}
use mathlib.Core.Bool.{Bool, true, false, ◌&&◌}
use mathlib.Core.List.{List, [], ◌∷◌, map}
use Rattle.std.specs.Prelude.{Option, None, Some}
use native.Mathlib.Omega.{arith}
use lib.ListN.{length, drop, drop_of_length-le}
use lib.Seq.{drop-cons}
use lib.Dec.{ltb, leb, eqb}
use borrow.Author.Tests.{le-ltb, leb-true, eqb-true}
use Rattle.fra.specs.Lists.{keep, first}
use Rattle.fra.specs.Model.{edge_of, is_locally_fresh, is_fresh}
use Rattle.fra.specs.Rules.{other, model_of}
use Rattle.fra.specs.Position.{state_of, filled, most_seen, has_room}
use Rattle.fra.specs.Game.{cases, answers, is_reply, replies, after}
use Rattle.fra.specs.declared.EdgeKind.{EdgeKind}
use Rattle.fra.specs.declared.EdgeKind.TheVariants.{Known, LocallyFresh, GloballyFresh}
use Rattle.fra.specs.declared.Model.{Model}
use Rattle.fra.specs.declared.Position.{Position}
use Rattle.fra.specs.declared.Task.{Task}
use Rattle.fra.specs.declared.Side.{Side}
use Rattle.fra.specs.declared.IdCase.{IdCase}
use Rattle.fra.specs.declared.IdCase.TheVariants.{Held, Seen, New}
use Rattle.fra.specs.declared.Attack.{Attack}
use Rattle.fra_laws.proofs.Tests.{and_left, and_right, not_both, fails_unless}
use Rattle.fra_laws.proofs.Lists.{all-at, all_intro, keep_intro, keep_elim, first_passes, first_fails}
use Rattle.game_moves.specs.IdCases.{case_at, case_from, cases_from, has_case_in}
use Rattle.game_moves.proofs.IdCases.{NextCase, case-found, no_case, cases-length, case-seen, case_new, all-cases}
use Rattle.game_replies.specs.Challenges.{challenge_of, attack_of, in_case}
use Rattle.game_replies.specs.Winner.{wins_by}
use Rattle.game_replies.specs.declared.Challenge.{Challenge}
use Rattle.game_wins.specs.Wins.{edge_win}

-- the last case is that of a new number
last_case : (r : ℕ) → drop (r + 2) (cases r) ≡ New ∷ []
unfolding case_at
last_case r =
    drop-cons (cases r) (r + 2) New (omega (arith, cases-length r))
    ∙ rw (case_new r (r + 2) (omega arith), drop_of_length-le (cases r) {i = suc (r + 2)} (omega (arith, cases-length r)))

-- the attack with edge k of side s in an id case
abbrev pub attack_in : Side → ℕ → IdCase → Attack
attack_in s k x = record { side = s; edge = k; case = x }

module _ (t : Task) (p : Position) (s : Side) (k : ℕ) where
  abbrev r : ℕ
  r = length p.partners

  abbrev kind : EdgeKind
  kind = (edge_of (model_of t s) k).kind

  -- its cases from number n on
  abbrev pub edge_cases : ℕ → List IdCase
  edge_cases n = cases_from (filled t p (other s)) (has_room t p) p s kind n

  -- case x is the first of them from number n on, and those that follow are from number j on
  abbrev pub NextEdgeCase : ℕ → IdCase → ℕ → Type 0
  NextEdgeCase = NextCase (filled t p (other s)) (has_room t p) p s kind

  module _ (lost : Position → Bool) where
    -- the first attack with the edge that wins, from case number n on
    unfoldable pub edge_winner : ℕ → Option Attack
    edge_winner n = first (wins_by t lost p) (map (attack_in s k) (edge_cases n))

    pub edge_by_case : edge_win lost t p s k ≡ edge_winner 0
    unfolding edge_winner
    edge_by_case = rw (all-cases t p s kind)

    pub no_case-wins : (n : ℕ) → edge_cases n ≡ [] → edge_winner n ≡ None
    unfolding edge_winner first
    no_case-wins n e = rw e

    -- replies to a number seen before are replies to a new one, and lead to the same positions if the size cannot rise
    seen-wins : most_seen r ≤ p.history → wins_by t lost p (attack_in s k New) ≡ true
        → wins_by t lost p (attack_in s k Seen) ≡ true
    unfolding wins_by after replies is_reply answers
    seen-wins most e =
        all_intro _ _
        (λ j m.
        let (i, r) = keep_elim (is_reply t p (attack_in s k Seen)) j _ m in
        ap lost (same j)
        ∙ all-at _ e (keep_intro (is_reply t p (attack_in s k New)) i (fresh (tagged j) (edge_of others j).kind r)))
      where
        same : (j : ℕ) → after t p (attack_in s k Seen) j ≡ after t p (attack_in s k New) j
        same j = rw (le-ltb p.history (most_seen r) most)

        others : Model
        others = model_of t (other s)

        -- edge number j starts in the other side's state and has the attack's tag
        tagged : ℕ → Bool
        tagged j =
            ltb j others.edge_count
            && eqb (edge_of others j).from (state_of p (other s))
            && eqb (edge_of others j).tag (edge_of (model_of t s) k).tag

        fresh : (b : Bool) (kind : EdgeKind) → (b && is_locally_fresh kind) ≡ true → (b && is_fresh kind) ≡ true
        fresh b (Known i) h = h
        fresh b (LocallyFresh i) h = h
        fresh true (GloballyFresh i) h = refl
        fresh false (GloballyFresh i) h = h

    module _ {n j : ℕ} {x : IdCase} (h : NextEdgeCase n x j) where
      pub case-wins : wins_by t lost p (attack_in s k x) ≡ true → edge_winner n ≡ Some (attack_in s k x)
      unfolding edge_winner
      case-wins e = rw h.first (first_passes (wins_by t lost p) (attack_in s k x) _ e)

      pub case_fails : wins_by t lost p (attack_in s k x) ≡ false → edge_winner n ≡ edge_winner j
      unfolding edge_winner
      case_fails e = rw h.first (first_fails (wins_by t lost p) (attack_in s k x) _ e)

      -- only the case of a new number follows that of a number seen before; at the greatest history size it is not tried
      pub seen_last : (eqb j (r + 2) && leb (most_seen r) p.history) ≡ true → wins_by t lost p (attack_in s k x) ≡ false
          → edge_winner j ≡ None
      unfolding edge_winner first keep
      seen_last e f = rw (last, last_case r) (step (in_case_lem New) refl)
        where
          last : j ≡ r + 2
          last = eqb-true j (r + 2) (and_left (eqb j (r + 2)) (leb (most_seen r) p.history) e)

          most : most_seen r ≤ p.history
          most = leb-true (most_seen r) p.history (and_right (eqb j (r + 2)) (leb (most_seen r) p.history) e)

          in_case_lem : IdCase → Bool
          in_case_lem = has_case_in (filled t p (other s)) (has_room t p) p s kind

          seen : x ≡ Seen
          seen = h.numbered ∙ case-seen r (j - 1) (omega (arith, last))

          fails : wins_by t lost p (attack_in s k New) ≡ false
          fails = fails_unless _ (λ w. not_both _ (seen-wins most w) (rw seen at f))

          step : (b : Bool) → in_case_lem New ≡ b
              → first (wins_by t lost p) (map (attack_in s k) (keep in_case_lem (New ∷ []))) ≡ None
          step true d = rw (d, keep) (first_fails (wins_by t lost p) (attack_in s k New) [] fails)
          step false d = rw (d, keep)

-- ── The search for the first case that wins ──

module _ (t : Task) (p : Position) (s : Side) (k : ℕ) (lost : Position → Bool) where
  -- at case number n: what is asked with is the edge's, and the first attack that wins is the first from this case on
  pub record Searching (others : ℕ) (room : Bool) (takes : EdgeKind) (held : Challenge) (n : ℕ) : Type 0 where
    pub others_are : others ≡ filled t p (other s)
    pub room_is : room ≡ has_room t p
    pub takes_is : takes ≡ (edge_of (model_of t s) k).kind
    pub asked : held ≡ challenge_of t p (attack_in s k Held)
    pub winner : edge_win lost t p s k ≡ edge_winner t p s k lost n

  module _ {others : ℕ} {room : Bool} {takes : EdgeKind} {held : Challenge} {n : ℕ} (h : Searching others room takes held n) where
    -- the same edge in another case asks what the attack in that case does
    pub asked-in : {c : Challenge} (x : IdCase) → c ≡ in_case held x → c ≡ challenge_of t p (attack_of c)
    asked-in x e = rw (e, h.asked)

    module _ {o : Option (IdCase × ℕ)} (answer : o ≡ case_from others room p s takes n) where
      next_is : o ≡ case_from (filled t p (other s)) (has_room t p) p s (edge_of (model_of t s) k).kind n
      next_is = answer ∙ rw (h.others_are, h.room_is, h.takes_is)

      pub none_wins : o ≡ None → edge_win lost t p s k ≡ None
      none_wins e = h.winner ∙ no_case-wins t p s k lost n (no_case _ _ _ _ _ n (sym next_is ∙ e))

      module _ {x : IdCase} {j : ℕ} (found : o ≡ Some (x, j)) where
        pub next_case : NextEdgeCase t p s k n x j
        next_case = case-found _ _ _ _ _ n x j (sym next_is ∙ found)

        module _ {c : Challenge} (e : c ≡ in_case held x) {wins : Bool} (told : wins ≡ wins_by t lost p (attack_of c)) where
          told_of : wins ≡ wins_by t lost p (attack_in s k x)
          told_of = told ∙ rw (e, h.asked)

          pub wins-in : wins ≡ true → edge_win lost t p s k ≡ Some (attack_in s k x)
          wins-in w = h.winner ∙ case-wins t p s k lost next_case (sym told_of ∙ w)

          pub fails-in : wins ≡ false → Searching others room takes held j
          fails-in w =
              record {
                others_are = h.others_are;
                room_is = h.room_is;
                takes_is = h.takes_is;
                asked = h.asked;
                winner = h.winner ∙ case_fails t p s k lost next_case (sym told_of ∙ w);
              }

          pub fails-at_last : wins ≡ false → (eqb j (length p.partners + 2) && leb (most_seen (length p.partners)) p.history) ≡ true
              → edge_win lost t p s k ≡ None
          fails-at_last w l = (fails-in w).winner ∙ seen_last t p s k lost next_case l (sym told_of ∙ w)
