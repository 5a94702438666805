-- A matching turned round, as lists of partners: what it is, that it is the only one, and that rounds keep it, for any
-- register count. Assumes nothing.
use Prim.Native.Nat.{ℕ, zero, suc, ◌+◌, ◌≤◌}
use mathlib.Core.Path.{◌≡◌, refl, sym, ◌∙◌}
use mathlib.Core.Logic.{inl, inr}
use mathlib.Core.List.{List}
use native.Mathlib.Omega.{arith}
use lib.ListN.{length, get_or, length-map}
use lib.Seq.{ext_get_or}
use Rattle.fra.specs.Lists.{count}
use Rattle.fra.specs.Position.{right_partner, left_partner}
use Rattle.fra.specs.Game.{matched}
use Rattle.fra.specs.Exchange.{turned_partners}
use Rattle.fra_laws.proofs.Lengths.{count-length}
use Rattle.fra_laws.proofs.ByPlace.{places-from}
use Rattle.fra_laws.proofs.Registers.{has_positive, Matching, left_partner-sound, left_of-right, partner-place}
use Rattle.fra_laws.proofs.Registers.{Rejoined, matched-length, matched_elim, matched_intro}

-- ── Pairs turned round ──

-- each pair of m is a pair of l turned round: if j has partner i in m, then i has partner j in l
abbrev pub From : List ℕ → List ℕ → Type 0
From l m = (i j : ℕ) → 1 ≤ i → right_partner m j ≡ i → right_partner l i ≡ j

-- the pairs of m are those of l turned round
abbrev pub Turned : List ℕ → List ℕ → Type 0
Turned l m = From l m × From m l

-- two numbers are equal if each is the other one where it is not 0
same_unless_zero : (a b : ℕ) → (1 ≤ a → b ≡ a) → (1 ≤ b → a ≡ b) → a ≡ b
same_unless_zero zero zero f h = refl
same_unless_zero zero (suc b) f h = h (omega arith)
same_unless_zero (suc a) b f h = sym (f (omega arith))

-- partners are turned round in one way only
pub turned-one_way : (l m n : List ℕ) → length m ≡ length n → Turned l m → Turned l n → m ≡ n
unfolding right_partner
turned-one_way l m n long (from-m, into-m) (from-n, into-n) =
    ext_get_or 0 m n long
    (λ k b.
    same_unless_zero (get_or m k 0) (get_or n k 0)
    (λ h. into-n (suc k) (get_or m k 0) (omega arith) (from-m (get_or m k 0) (suc k) h refl))
    (λ h. into-m (suc k) (get_or n k 0) (omega arith) (from-n (get_or n k 0) (suc k) h refl)))

-- what is turned round from a matching of the left with the right set is one of the right with the left set
pub turned-matching : {left right : ℕ} {l : List ℕ} (m : List ℕ) → Matching left right l → From l m → Matching right left m
turned-matching {left} {right} {l} m matches from =
    record {
      left-has = λ j h. rw (pair j h) at (matches.right-has (right_partner m j) (joined j h));
      right-has = λ j h. matches.left-has (right_partner m j) (joined j h);
      injective = λ j k h e. sym (pair j h) ∙ from (right_partner m j) k h (sym e);
    }
  where
    pair : (j : ℕ) → 1 ≤ right_partner m j → right_partner l (right_partner m j) ≡ j
    pair j h = from (right_partner m j) j h refl

    joined : (j : ℕ) → 1 ≤ right_partner m j → 1 ≤ right_partner l (right_partner m j)
    joined j h = rw (pair j h) (partner-place m j h).0

-- the left partners of a matching are the partners of the one turned round
pub turned-partner : {left right : ℕ} {l : List ℕ} (m : List ℕ) → Matching left right l → Turned l m
    → (j : ℕ) → 1 ≤ j → right_partner m j ≡ left_partner 1 l j
turned-partner {l = l} m matches (from, into) j h =
    same_unless_zero (right_partner m j) (left_partner 1 l j) left-found
    (λ b. into j (left_partner 1 l j) h (left_partner-sound l (left_partner 1 l j) j b refl))
  where
    left-found : 1 ≤ right_partner m j → left_partner 1 l j ≡ right_partner m j
    left-found b =
        let e = from (right_partner m j) j b refl in
        rw e at (left_of-right matches (right_partner m j) (rw e h))

-- ── The definition turns a matching round ──

pub turned-length : (l : List ℕ) → length (turned_partners l) ≡ length l
unfolding turned_partners
turned-length l = length-map (count 1 (length l)) (left_partner 1 l) ∙ count-length 1 (length l)

turned-at : (l : List ℕ) (j : ℕ) → 1 ≤ j → j ≤ length l → right_partner (turned_partners l) j ≡ left_partner 1 l j
unfolding right_partner turned_partners
turned-at l zero h b = absurd (omega arith)
turned-at l (suc k) h b =
    let e : 1 + k ≡ suc k = omega arith in
    rw e at (places-from (left_partner 1 l) 1 (length l) k 0 b)

pub turned-from : (l : List ℕ) → From l (turned_partners l)
turned-from l i j h e =
    let (a, b) = partner-place (turned_partners l) j (rw e h) in
    left_partner-sound l i j h (sym (turned-at l j a (rw turned-length at b)) ∙ e)

-- no pair is lost if all right registers are 1 to r
pub turned_round_lem : {left right : ℕ} (l : List ℕ) → Matching left right l → ((i : ℕ) → right_partner l i ≤ length l)
    → Turned l (turned_partners l)
turned_round_lem l matches bounded = (
  turned-from l,
  λ j i h e.
      turned-at l j h (rw e at (bounded i)) ∙ rw e at (left_of-right matches i (rw e h)),
)

-- ── Rounds ──

-- a round on the one, and the same round on the one turned round
matched-from : (left right a b : ℕ) (l m : List ℕ) → a ≤ length l → From l m
    → From (matched left right a b 1 l) (matched right left b a 1 m)
matched-from left right a b l m bound from i j h e =
    let (in_right, in_left, join) = matched_elim right left b a m j i h e in
    let (place, join-turned) = step (has_positive right j in_right) join in
    matched_intro left right a b l i j place in_left in_right join-turned
  where
    step : 1 ≤ j → Rejoined b a j (right_partner m j) i → (i ≤ length l) × Rejoined a b i (right_partner l i) j
    step k (inl (y, x)) = (rw x bound, inl (x, y))
    step k (inr (y, x, z)) = let q = from i j h z in ((partner-place l i (rw q k)).1, inr (x, y, q))

-- turned round before the round or after it
pub matched-turned : (left right a b : ℕ) (l : List ℕ) → a ≤ length l → b ≤ length l → Turned l (turned_partners l)
    → Turned (matched left right a b 1 l) (turned_partners (matched left right a b 1 l))
    → matched right left b a 1 (turned_partners l) ≡ turned_partners (matched left right a b 1 l)
matched-turned left right a b l p q (from, into) later =
    turned-one_way (matched left right a b 1 l) (matched right left b a 1 m) (turned_partners (matched left right a b 1 l))
    (matched-length right left b a 1 m ∙ turned-length l ∙ sym (turned-length _ ∙ matched-length left right a b 1 l))
    (matched-from left right a b l m p from, matched-from right left b a m l (rw (turned-length l) q) into)
    later
  where
    m : List ℕ
    m = turned_partners l
