-- The digits of a key after a round, and what the digits from some register on continue. Assumes nothing.
use Rattle.std.proofs.Common.{ℕ, ◌+◌, ◌*◌, ◌-◌, ◌≤◌, ◌<◌, ◌≡◌, List, length, get_or, take, drop, refl, ◌∙◌, arith}
use Rattle.std.proofs.Math.Nat.{add_comm}
use Rattle.std.proofs.Math.Seq.{get_or-take}
use Rattle.fra.specs.Game.{rejoined}
use Rattle.game_moves.specs.declared.rounds.Target.{Target}
use Rattle.table_keys.specs.Keys.{partner_base, sizes_of, key_of, key_limit, Sized, Fits}
use Rattle.table_keys.specs.declared.Radix.{Radix}
use Rattle.table_keys.proofs.Keys.{used-length, key-small, key_part_small}
use Rattle.comparer_explore_laws.specs.HalfRounds.{in_set, joined_by}
use Rattle.comparer_explore_laws.proofs.HalfRounds.{joined_at}
use Rattle.comparer_explore_laws.proofs.RoundKeys.{Continues, continues_more, continues_end}
use Rattle.comparer_explore.specs.HalfRounds.{joined_to}
use Rattle.comparer_explore.specs.declared.expand.Half.{Half}

-- the partners after the round that a key has digits for, and the states in one number
abbrev pub digits : Radix → Half → Target → List ℕ
digits x half right = take x.registers (joined_by right.set half.register right.register 1 half.partners)

abbrev pub states : Radix → Half → Target → ℕ
states x half right = half.edge.target.state * x.right + right.state

module _ (x : Radix) (half : Half) (size : ℕ) (right : Target) (s : Sized x) (f : Fits x (joined_to half size right)) where
  as_many : length (digits x half right) ≡ x.registers
  unfolding joined_to
  as_many = used-length s f

  -- each part of the key is small
  small : (front i : ℕ) → Continues (states x half right) (digits x half right) front i → front < key_limit
  unfolding joined_to
  small front i e = key_part_small s f front (drop i (digits x half right)) e

  pub states_small : states x half right < key_limit
  states_small = small (states x half right) 0 refl

  module _ (six : length half.partners ≡ 6) (front i : ℕ) (so_far : Continues (states x half right) (digits x half right) front i) where
    -- the key with one digit more
    abbrev digit : ℕ
    digit = in_set right.set (rejoined half.register right.register (i + 1) (get_or half.partners i 0))

    pub next : i < x.registers → Continues (states x half right) (digits x half right) (front * partner_base + digit) (i + 1)
    next used =
        let here : i < length half.partners = omega (arith, s.registers) in
        let all = joined_by right.set half.register right.register 1 half.partners in
        let own =
        get_or-take x.registers all i 0 used ∙ joined_at right.set half.register right.register 1 half.partners i here in
        rw (own, add_comm 1 i) at (continues_more (states x half right) (digits x half right) front i so_far (omega (arith, as_many)))

    pub next_small : i < x.registers → front * partner_base + digit < key_limit
    next_small used = small (front * partner_base + digit) (i + 1) (next used)

    -- after the last register, with how far the history's size is above the least
    pub whole : x.registers ≤ i → (sizes : ℕ) → sizes ≡ sizes_of x → front * sizes + (size - x.least) ≡ key_of x (joined_to half size right)
    unfolding key_of joined_to
    whole past sizes e =
        rw (e, continues_end (states x half right) (digits x half right) front i so_far (omega (arith, as_many)))

    pub whole_small : x.registers ≤ i → (sizes : ℕ) → sizes ≡ sizes_of x → front * sizes + (size - x.least) < key_limit
    whole_small past sizes e = rw (whole past sizes e) (key-small s f)
