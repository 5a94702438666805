-- Rounds lead from legal positions to legal ones, for any rules and register count. Assumes nothing.
use Prim.Native.Nat.{ℕ, suc, ◌*◌, ◌≤◌}
use mathlib.Core.Path.{◌≡◌, refl, sym, ◌∙◌, ap}
use mathlib.Core.Logic.{◌⊎◌, inl, inr}
use mathlib.Core.Bool.{Bool, true, false, cond}
use mathlib.Core.List.Memᴰ
use mathlib.Core.List.{[], ◌∷◌, map}
use native.Mathlib.Omega.{arith}
use lib.ListN.{length}
use lib.Dec.{ltb}
use borrow.Author.Tests.{ltb-true, ltb-false}
use Rattle.fra.specs.Lists.{◌∈◌}
use Rattle.fra.specs.Registers.{has}
use Rattle.fra.specs.Model.{edge_of, register_of}
use Rattle.fra.specs.Rules.{Rules}
use Rattle.fra.specs.Position.{filled, right_partner, left_partner, partner, most_seen, held_in, held, has_room, legal}
use Rattle.fra.specs.Game.{attacks, replies, size_after, matched, moved, after}
use Rattle.fra.specs.Reach.{successors}
use Rattle.fra.specs.Valid.{RegisterRule, Valid}
use Rattle.fra.specs.declared.EdgeKind.{EdgeKind}
use Rattle.fra.specs.declared.EdgeKind.TheVariants.{Known, LocallyFresh, GloballyFresh}
use Rattle.fra.specs.declared.Position.{Position}
use Rattle.fra.specs.declared.Task.{Task}
use Rattle.fra.specs.declared.Side.{Side}
use Rattle.fra.specs.declared.Side.TheVariants.{Left, Right}
use Rattle.fra.specs.declared.IdCase.TheVariants.{New}
use Rattle.fra.specs.declared.Attack.{Attack}
use Rattle.fra_laws.specs.Joint.{compatible, sizes_after}
use Rattle.fra_laws.proofs.Tests.{clash}
use Rattle.fra_laws.proofs.Lists.{flat_map_elim}
use Rattle.fra_laws.proofs.Registers.{has_positive, matched-length}
use Rattle.fra_laws.proofs.HeldNumbers.{held-most, standing_intro}
use Rattle.fra_laws.proofs.HeldAfterRounds.{stand_in, stand_in_apart, stand_in-shared, held_no_more, held_one_more}
use Rattle.fra_laws.proofs.Legal.{held-before, Legal, joined, legal_facts, legal_intro, moved-joined}
use Rattle.fra_laws.proofs.Pairs.{known-answers, fresh_answers, none_answers, Pair, moved_by, reply_pair, other-pair}

-- ── The size that a new number raises the history to ──

-- it has room for one number more, if there is one
raised-room : (r size n m : ℕ) → n ≤ size → m ≤ suc n → m ≤ 2 * r → m ≤ size_after r New size
raised-room r size n m a b c = step (ltb size (most_seen r)) refl
  where
    step : (d : Bool) → ltb size (most_seen r) ≡ d → m ≤ cond d (suc size) size
    step true e = omega arith
    step false e = omega (arith, ltb-false size (most_seen r) e)

raised-most : (r size : ℕ) → size ≤ most_seen r → size_after r New size ≤ most_seen r
raised-most r size h = step (ltb size (most_seen r)) refl
  where
    step : (d : Bool) → ltb size (most_seen r) ≡ d → cond d (suc size) size ≤ most_seen r
    step true e = omega (arith, ltb-true size (most_seen r) e)
    step false e = h

module _ {r : ℕ} {t : Task} {p : Position} (l : Legal r t p) where
  abbrev left : ℕ
  left = filled t p Left

  abbrev right : ℕ
  right = filled t p Right

  -- ── The numbers held after a round of edges of these kinds ──

  module _ (to-left to-right : ℕ) where
    abbrev held_after : ℕ → ℕ → ℕ
    held_after a b = held_in to-left to-right (matched to-left to-right a b 1 p.partners)

    -- the left reader held the number, in register a, and the right one in b or not at all
    held-left : (a b : ℕ) → ((i : ℕ) → has to-left i ≡ true → (i ≡ a → ⊥) → has left i ≡ true)
        → ((j : ℕ) → has to-right j ≡ true → (j ≡ b → ⊥) → has right j ≡ true)
        → has left a ≡ true
        → a ≤ length p.partners
        → ((j : ℕ) → 1 ≤ j → right_partner p.partners a ≡ j → j ≡ b)
        → held_after a b ≤ held t p
    held-left a b from-left from-right h bound alone =
        held_no_more l.matches to-left to-right a b from-left from-right (Left, a)
        (record {
          no_left = λ i k d e. d (ap (λ (x : Side × ℕ). x.1) e);
          no_right =
              λ j k d e.
              d (alone j (has_positive right j k) (stand_in-shared l.matches a j (has_positive right j k) (sym e)));
        })
        (standing_intro left right p.partners Left a (h, bound))

    -- the right reader alone held it, in register b
    held-right : (a b : ℕ) → ((i : ℕ) → has to-left i ≡ true → (i ≡ a → ⊥) → has left i ≡ true)
        → ((j : ℕ) → has to-right j ≡ true → (j ≡ b → ⊥) → has right j ≡ true)
        → has right b ≡ true
        → b ≤ length p.partners
        → left_partner 1 p.partners b ≡ 0
        → held_after a b ≤ held t p
    held-right a b from-left from-right h bound alone =
        held_no_more l.matches to-left to-right a b from-left from-right (Right, b)
        (record {
          no_left = λ i k d e. let z : Left ≡ Right = ap (λ (x : Side × ℕ). x.0) e in clash (cc);
          no_right = λ j k d e. d (stand_in_apart l.matches j b (e ∙ sym itself));
        })
        (standing_intro left right p.partners Right b (h, alone, bound))
      where
        itself : stand_in p.partners Right b ≡ (Right, b)
        itself = rw alone

    -- no reader held it
    held_new : (a b size : ℕ) → ((i : ℕ) → has to-left i ≡ true → (i ≡ a → ⊥) → has left i ≡ true)
        → ((j : ℕ) → has to-right j ≡ true → (j ≡ b → ⊥) → has right j ≡ true)
        → size ≡ size_after r New p.history
        → held_after a b ≤ size
    held_new a b size from-left from-right e =
        let more = held_one_more l.matches to-left to-right a b from-left from-right in
        let most = held-most to-left to-right (matched to-left to-right a b 1 p.partners) in
        let long = matched-length to-left to-right a b 1 p.partners in
        rw e (raised-room r p.history (held t p) (held_after a b) l.least more (omega (arith, l.long)))

    -- two locally fresh edges take a new number, or one seen before
    held_fresh : (a b size : ℕ) → ((i : ℕ) → has to-left i ≡ true → (i ≡ a → ⊥) → has left i ≡ true)
        → ((j : ℕ) → has to-right j ≡ true → (j ≡ b → ⊥) → has right j ≡ true)
        → size ∈ size_after r New p.history ∷ cond (has_room t p) (p.history ∷ []) []
        → held_after a b ≤ size
    unfolding has_room
    held_fresh a b size from-left from-right m = step (Memᴰ.cases_cons m) (has_room t p) refl
      where
        step : (size ≡ size_after r New p.history) ⊎ (size ∈ cond (has_room t p) (p.history ∷ []) [])
            → (room : Bool) → has_room t p ≡ room
            → held_after a b ≤ size
        step (inl e) room q = held_new a b size from-left from-right e
        step (inr n) true q =
            let e : size ≡ p.history = Memᴰ.eq_of_singleton (rw q at n) in
            let room = ltb-true (held t p) p.history q in
            let more = held_one_more l.matches to-left to-right a b from-left from-right in
            omega arith
        step (inr n) false q = absurd (Memᴰ.not-nil (rw q at n))

    held_by_kinds : (own others : EdgeKind) (size : ℕ) → RegisterRule left to-left own → RegisterRule right to-right others
        → register_of own ≤ length p.partners
        → register_of others ≤ length p.partners
        → compatible p Left own others ≡ true
        → size ∈ sizes_after r (has_room t p) p.history own others
        → held_after (register_of own) (register_of others) ≤ size
    unfolding compatible sizes_after partner
    held_by_kinds (Known a) (Known b) size f g m n e s =
        let same = Memᴰ.eq_of_singleton s in
        let few =
        held-left a b (held-before left to-left (Known a) f) (held-before right to-right (Known b) g) f.0 m
        (λ j h q. sym q ∙ known-answers (right_partner p.partners a) b e) in
        omega (arith, l.least)
    held_by_kinds (Known a) (LocallyFresh b) size f g m n e s =
        let same = Memᴰ.eq_of_singleton s in
        let alone = fresh_answers (right_partner p.partners a) b e in
        let few =
        held-left a b (held-before left to-left (Known a) f) (held-before right to-right (LocallyFresh b) g) f.0 m
        (λ j h q. absurd (omega arith)) in
        omega (arith, l.least)
    held_by_kinds (Known a) (GloballyFresh b) size f g m n e s = absurd (none_answers (right_partner p.partners a) b e)
    held_by_kinds (LocallyFresh a) (Known b) size f g m n e s =
        let same = Memᴰ.eq_of_singleton s in
        let few =
        held-right a b (held-before left to-left (LocallyFresh a) f) (held-before right to-right (Known b) g) g.0 n
        (fresh_answers (left_partner 1 p.partners b) a e) in
        omega (arith, l.least)
    held_by_kinds (GloballyFresh a) (Known b) size f g m n e s = absurd (none_answers (left_partner 1 p.partners b) a e)
    held_by_kinds (LocallyFresh a) (LocallyFresh b) size f g m n e s =
        held_fresh a b size (held-before left to-left (LocallyFresh a) f) (held-before right to-right (LocallyFresh b) g) s
    held_by_kinds (LocallyFresh a) (GloballyFresh b) size f g m n e s =
        held_new a b size (held-before left to-left (LocallyFresh a) f) (held-before right to-right (GloballyFresh b) g)
        (Memᴰ.eq_of_singleton s)
    held_by_kinds (GloballyFresh a) (LocallyFresh b) size f g m n e s =
        held_new a b size (held-before left to-left (GloballyFresh a) f) (held-before right to-right (LocallyFresh b) g)
        (Memᴰ.eq_of_singleton s)
    held_by_kinds (GloballyFresh a) (GloballyFresh b) size f g m n e s =
        held_new a b size (held-before left to-left (GloballyFresh a) f) (held-before right to-right (GloballyFresh b) g)
        (Memᴰ.eq_of_singleton s)

  -- a size after a round stays within the greatest
  sizes-most : (own others : EdgeKind) (size : ℕ) → size ∈ sizes_after r (has_room t p) p.history own others
      → size ≤ most_seen r
  unfolding sizes_after
  sizes-most own others size m = step own others m
    where
      same : size ∈ p.history ∷ [] → size ≤ most_seen r
      same n = rw (Memᴰ.eq_of_singleton n) l.most

      raised : size ≡ size_after r New p.history → size ≤ most_seen r
      raised e = rw e (raised-most r p.history l.most)

      either : (room : Bool) → (size ≡ size_after r New p.history) ⊎ (size ∈ cond room (p.history ∷ []) []) → size ≤ most_seen r
      either room (inl e) = raised e
      either true (inr n) = same n
      either false (inr n) = absurd (Memᴰ.not-nil n)

      step : (own others : EdgeKind) → size ∈ sizes_after r (has_room t p) p.history own others → size ≤ most_seen r
      step (LocallyFresh i) (LocallyFresh j) n = either (has_room t p) (Memᴰ.cases_cons n)
      step (LocallyFresh i) (GloballyFresh j) n = raised (Memᴰ.eq_of_singleton n)
      step (GloballyFresh i) (LocallyFresh j) n = raised (Memᴰ.eq_of_singleton n)
      step (GloballyFresh i) (GloballyFresh j) n = raised (Memᴰ.eq_of_singleton n)
      step (Known i) (Known j) n = same n
      step (Known i) (LocallyFresh j) n = same n
      step (Known i) (GloballyFresh j) n = same n
      step (LocallyFresh i) (Known j) n = same n
      step (GloballyFresh i) (Known j) n = same n

-- ── Rounds keep positions legal ──

module _ {r : ℕ} {t : Task} (valid : Valid r t) where
  -- a left and a right edge that can take one number lead from a legal position to a legal one
  pair-legal : {p : Position} (k j size : ℕ) → Legal r t p → Pair t p Left k j size → Legal r t (moved_by t p Left k j size)
  unfolding moved
  pair-legal {p} k j size l x =
      let v = valid.left.edges k x.exists in
      let w = valid.right.edges j x.other-exists in
      let states = moved-joined (joined l) size (edge_of t.left k) (edge_of t.right j) v.to w.to in
      let sized = rw l.long at x.sized in
      record {
        exists = states.exists;
        long = states.long;
        matches = states.matches;
        least =
            held_by_kinds l _ _ _ _ size (rw (← x.starts) v.rule) (rw (← x.other-starts) w.rule)
            (omega (arith, v.greatest, valid.left.registers, l.long))
            (omega (arith, w.greatest, valid.right.registers, l.long)) x.joint sized;
        most = sizes-most l _ _ size sized;
      }

  -- an attack and a reply lead from a legal position to a legal one
  pub after-legal : (g : Rules) (p : Position) (a : Attack) (k : ℕ) → legal r t p ≡ true → a ∈ attacks g t p
      → k ∈ replies t p a → legal r t (after t p a k) ≡ true
  unfolding after
  after-legal g p a k h m n = legal_intro r t (after t p a k) (by a.side a.edge k _ (reply_pair g t p a k m n))
    where
      l : Legal r t p
      l = legal_facts r t p h

      by : (s : Side) (i j size : ℕ) → Pair t p s i j size → Legal r t (moved_by t p s i j size)
      by Left i j size x = pair-legal i j size l x
      by Right i j size x = pair-legal j i size l (other-pair valid l Right i j size x)

  pub successors-legal : (g : Rules) (p q : Position) → legal r t p ≡ true → q ∈ successors g t p → legal r t q ≡ true
  unfolding successors
  successors-legal g p q h m =
      let v = flat_map_elim (λ a. map (after t p a) (replies t p a)) (attacks g t p) m in
      let w = Memᴰ.of_map (after t p v.0) (replies t p v.0) v.2 in
      rw w.2 at (after-legal g p v.0 w.0 h v.1 w.1)
