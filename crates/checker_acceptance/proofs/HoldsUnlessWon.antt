-- A kept position holds unless some attack wins, where the positions that are not listed are judged lost; and an attack forces a
-- loss if it wins, where those that are listed with fewer rounds are. Assumes nothing.
use mathlib.Core.Path.{◌≡◌, refl, sym, ap}
use mathlib.Core.Bool.{Bool, true, false, not, ◌&&◌, ◌||◌}
use mathlib.Core.List.{List, [], ◌∷◌}
use Rattle.std.specs.Prelude.{Some, is_some}
use lib.Dec.{ltb}
use Rattle.fra.specs.Lists.{any, all, first}
use Rattle.fra.specs.Rules.{Rules}
use Rattle.fra.specs.Game.{is_attack, attacks, replies, after, lost_at_once}
use Rattle.fra.specs.declared.Position.{Position}
use Rattle.fra.specs.declared.Task.{Task}
use Rattle.fra.specs.declared.Attack.{Attack}
use Rattle.fra_laws.proofs.Lists.{all_same}
use Rattle.outcome.specs.Certificate.{Loss}
use Rattle.outcome.specs.Check.{same, holds, forces}
use Rattle.game_replies.specs.Winner.{wins_by, winner}

-- where one test passes exactly if another fails: some element passes the one exactly if not all pass the other
any_unless_all : {A : Type 0} (f g : A → Bool) (l : List A) → ((x : A) → g x ≡ not (f x)) → any f l ≡ not (all g l)
unfolding any all
any_unless_all f g [] h = refl
any_unless_all f g (x ∷ l) h = rw (h x, any_unless_all f g l h) (step (f x) (all g l))
  where
    step : (a b : Bool) → (a || not b) ≡ not (not a && b)
    step true b = refl
    step false b = refl

-- and all pass the one exactly if no first element is found that passes the other
all_unless_found : (f g : Attack → Bool) (l : List Attack) → ((a : Attack) → f a ≡ not (g a))
    → all f l ≡ not (is_some (first g l))
unfolding all first
all_unless_found f g [] h = refl
all_unless_found f g (a ∷ l) h = step (g a) refl (all_unless_found f g l h)
  where
    step : (b : Bool) → g a ≡ b → all f l ≡ not (is_some (first g l)) → all f (a ∷ l) ≡ not (is_some (first g (a ∷ l)))
    step true e rest = rw (h a, e, first)
    step false e rest = rw (h a, e, first) rest

module _ (g : Rules) (t : Task) (lost : Position → Bool) where
  pub holds_unless_won : (l : List Position) → ((q : Position) → lost q ≡ not (any (same q) l)) → (p : Position)
      → holds g t l p ≡ (not (lost_at_once g t p) && not (is_some (winner g t lost p)))
  unfolding holds winner wins_by
  holds_unless_won l unlisted p =
      ap (λ (b : Bool). not (lost_at_once g t p) && b)
      (all_unless_found _ (wins_by t lost p) (attacks g t p)
      (λ a. any_unless_all _ (λ k. lost (after t p a k)) (replies t p a) (λ k. unlisted (after t p a k))))

  pub forces_if_won : (l : List Loss) (x : Loss)
      → ((q : Position) → lost q ≡ any (λ y. same q y.position && ltb y.rounds x.rounds) l)
      → (a : Attack)
      → forces g t l x (Some a) ≡ (is_attack g t x.position a && wins_by t lost x.position a)
  unfolding forces wins_by
  forces_if_won l x sooner a =
      ap (λ (b : Bool). is_attack g t x.position a && b)
      (all_same _ _ (replies t x.position a) (λ k m. sym (sooner (after t x.position a k))))
