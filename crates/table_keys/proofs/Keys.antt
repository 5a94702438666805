-- The key of a position that fits a radix is below the count of keys, is its own, gives the position back and rises as
-- positions do; the count of keys is below the limit. A task's radix is within 01's limits, and its legal positions fit it.
-- How a key is made digit by digit. Assumes nothing.
use Prim.Native.Nat.{ℕ, zero, suc, ◌+◌, ◌*◌, ◌-◌, ◌/◌, ◌%◌, ◌^◌, ◌≤◌, ◌<◌}
use mathlib.Core.Path.{◌≡◌, refl, sym, ◌∙◌, ap, ap₂}
use mathlib.Core.Logic.{◌⊎◌, inl, inr, ⊎_elim}
use mathlib.Core.Bool.{true, false, false≢true}
use mathlib.Core.List.{List, [], ◌∷◌, ◌++◌}
use native.Mathlib.Nat.{le_trans, mul-le-mul, mul-le-mul_left, pow-le-pow_right}
use native.Mathlib.Numerals.{add-one}
use native.Mathlib.Decide.{dec_le}
use native.Mathlib.Omega.{arith}
use lib.Arith.{digits_lt, digits_div, digits_mod}
use lib.ListN.{length, get_or, take, drop, replicate, length-append, length-drop, length-replicate, get_or-replicate}
use lib.ListN.{take-append-drop, drop_of_length-le}
use lib.Seq.{length-take-le, drop-cons, get_or-take, get_or-drop, ext_get_or}
use lib.Dec.{ltb, eqb}
use borrow.Author.Tests.{ltb-true, eqb-true, eq-eqb}
use Rattle.fra.specs.Lists.{below}
use Rattle.fra.specs.Position.{right_partner, legal, bytes, before}
use Rattle.fra.specs.Valid.{Valid}
use Rattle.fra.specs.declared.Position.{Position}
use Rattle.fra.specs.declared.Task.{Task}
use Rattle.fra.specs.declared.Side.TheVariants.{Left, Right}
use Rattle.fra_laws.proofs.Tests.{and_left, and_right, and_intro, or_cases, or_left, or_right, not_both}
use Rattle.fra_laws.proofs.Order.{below_irreflexive, before_total}
use Rattle.fra_laws.proofs.Legal.{registers_exist, Legal, legal_facts}
use Rattle.listing.specs.Digits.{value, digits}
use Rattle.listing.proofs.Digits.{rising_decides, value_bound, value-rises, value-below, value_div, digits_value}
use Rattle.listing.proofs.PositionNumbers.{below-from}
use Rattle.game_index.specs.Reading.{task_in}
use Rattle.game_index.specs.Writing.{Index}
use Rattle.game_index.proofs.Reading.{sized_in}
use Rattle.table_keys.specs.Keys.{partner_base, sizes_of, front_of, key_of, key_count, key_limit, position_from}
use Rattle.table_keys.specs.Keys.{radix_of, Sized, Fits}
use Rattle.table_keys.specs.declared.Radix.{Radix}

-- ── The keys of a radix ──

-- the states, and the partners of some registers: 16 * 16 * 8 ^ 6 at most
pub fronts_small : {x : Radix} → Sized x → (i : ℕ) → i ≤ x.registers → x.left * x.right * partner_base ^ i ≤ 67108864
fronts_small s i h =
    let powers : partner_base ^ i ≤ partner_base ^ 6 =
    pow-le-pow_right {n = partner_base} (omega arith) {i = i} {j = 6} (omega (arith, s.registers)) in
    mul-le-mul (mul-le-mul s.left s.right) powers

pub key_count-small : {x : Radix} → Sized x → key_count x ≤ key_limit
unfolding key_count
key_count-small {x} s =
    let sizes : sizes_of x ≤ 14 = omega arith in
    omega (arith, mul-le-mul (fronts_small s x.registers (omega arith)) sizes)

digits-length : (n k : ℕ) → length (digits partner_base n k) ≡ n
unfolding digits
digits-length zero k = refl
digits-length (suc n) k = ap suc (digits-length n k)

-- the position that a key packs has as many partners as any
pub position_from-registers : {x : Radix} → Sized x → (k : ℕ) → length (position_from x k).partners ≡ 6
unfolding position_from
position_from-registers {x} s k =
    rw (length-append, digits-length x.registers (k / sizes_of x), length-replicate) (omega (arith, s.registers))

-- ── The key of a position that fits ──

module _ {x : Radix} {p : Position} (s : Sized x) (f : Fits x p) where
  -- the states in one number, and the partners of the registers that the left model has
  abbrev states_of : ℕ
  states_of = p.left * x.right + p.right

  abbrev used : List ℕ
  used = take x.registers p.partners

  pub used-length : length (take x.registers p.partners) ≡ x.registers
  used-length = length-take-le x.registers p.partners (omega (arith, s.registers, f.long))

  used-unused : used ++ replicate (6 - x.registers) 0 ≡ p.partners
  used-unused = rw (← f.unused) (take-append-drop x.registers p.partners)

  size_bound : p.history - x.least < sizes_of x
  size_bound = omega (arith, f.least, f.most)

  pub key_bound : key_of x p < key_count x
  unfolding key_of key_count
  key_bound =
      let front = value_bound partner_base (x.left * x.right) states_of used (digits_lt f.left f.right) f.partners in
      digits_lt (rw used-length at front) size_bound

  pub position_of-key : position_from x (key_of x p) ≡ p
  unfolding key_of position_from
  position_of-key = λ i. record { left = left i; right = right i; partners = partners i; history = size i }
    where
      front : key_of x p / sizes_of x ≡ front_of x p
      front = digits_div (front_of x p) size_bound

      states : key_of x p / sizes_of x / partner_base ^ x.registers ≡ states_of
      states = rw front (rw used-length at (value_div partner_base states_of used f.partners))

      left : key_of x p / sizes_of x / partner_base ^ x.registers / x.right ≡ p.left
      left = rw states (digits_div p.left f.right)

      right : key_of x p / sizes_of x / partner_base ^ x.registers % x.right ≡ p.right
      right = rw states (digits_mod p.left f.right)

      partners : digits partner_base x.registers (key_of x p / sizes_of x) ++ replicate (6 - x.registers) 0 ≡ p.partners
      partners =
          let same : digits partner_base x.registers (front_of x p) ≡ used =
          rw used-length at (digits_value partner_base states_of used f.partners) in
          rw (front, same) used-unused

      size : x.least + key_of x p % sizes_of x ≡ p.history
      size = rw (digits_mod (front_of x p) size_bound) (omega (arith, f.least))

-- ── The order of keys ──

-- strings of one length with one number more each
below_ends : (l m : List ℕ) (x y : ℕ) → length l ≡ length m → below (l ++ (x ∷ [])) (m ++ (y ∷ [])) ≡ true
    → (below l m ≡ true) ⊎ ((l ≡ m) × (x < y))
unfolding below
below_ends [] [] x y n h =
    ⊎_elim (λ a. inr (refl, ltb-true x y a)) (λ a. absurd (false≢true (and_right (eqb x y) false a))) (or_cases (ltb x y) _ h)
below_ends [] (b ∷ m) x y n h = absurd (omega arith)
below_ends (a ∷ l) [] x y n h = absurd (omega arith)
below_ends (a ∷ l) (b ∷ m) x y n h =
    ⊎_elim (λ c. inl (or_left (ltb a b) _ c))
    (λ c.
    let e = eqb-true a b (and_left (eqb a b) _ c) in
    ⊎_elim (λ d. inl (or_right (ltb a b) _ (and_intro (eqb a b) (below l m) (eq-eqb a b e) d)))
    (λ (d, k). inr (ap₂ (λ (z : ℕ) (r : List ℕ). z ∷ r) e d, k))
    (below_ends l m x y (omega arith) (and_right (eqb a b) _ c)))
    (or_cases (ltb a b) _ h)

-- strings of one length with the same end
below_fronts : (l m end : List ℕ) → length l ≡ length m → below (l ++ end) (m ++ end) ≡ true → below l m ≡ true
unfolding below
below_fronts [] [] end n h = absurd (not_both (below end end) h (below_irreflexive end))
below_fronts [] (b ∷ m) end n h = absurd (omega arith)
below_fronts (a ∷ l) [] end n h = absurd (omega arith)
below_fronts (a ∷ l) (b ∷ m) end n h =
    ⊎_elim (λ c. or_left (ltb a b) _ c)
    (λ c.
    let rest = below_fronts l m end (omega arith) (and_right (eqb a b) _ c) in
    or_right (ltb a b) _ (and_intro (eqb a b) (below l m) (and_left (eqb a b) _ c) rest))
    (or_cases (ltb a b) _ h)

-- of positions that fit, the earlier one has the smaller key
pub key-rises : {x : Radix} {p q : Position} → Sized x → Fits x p → Fits x q → before p q ≡ true → key_of x p < key_of x q
unfolding key_of before bytes below
key-rises {x} {p} {q} s f g h =
    ⊎_elim (λ l. earlier (omega (arith, digits_lt (ltb-true p.left q.left l) f.right)))
    (λ r.
    let d = eqb-true p.left q.left (and_left (eqb p.left q.left) _ r) in
    ⊎_elim (λ l. let e = ltb-true p.right q.right l in earlier (rw d (omega arith)))
    (λ r'.
    let e = eqb-true p.right q.right (and_left (eqb p.right q.right) _ r') in
    same (ap₂ (λ (a b : ℕ). a * x.right + b) d e)
    (below_ends p.partners q.partners p.history q.history (f.long ∙ sym g.long)
    (and_right (eqb p.right q.right) _ r')))
    (or_cases (ltb p.right q.right) _ (and_right (eqb p.left q.left) _ r)))
    (or_cases (ltb p.left q.left) _ h)
  where
    long : length (used s f) ≡ length (used s g)
    long = used-length s f ∙ sym (used-length s g)

    further : front_of x p < front_of x q → key_of x p < key_of x q
    further l = omega (arith, digits_lt l (size_bound s f))

    earlier : states_of s f < states_of s g → key_of x p < key_of x q
    earlier l =
        further
        (value-rises partner_base (states_of s f) (states_of s g) (used s f) (used s g) long f.partners g.partners l)

    same : states_of s f ≡ states_of s g
        → (below p.partners q.partners ≡ true) ⊎ ((p.partners ≡ q.partners) × (p.history < q.history))
        → key_of x p < key_of x q
    same e (inl b) =
        let fronts =
        below_fronts (used s f) (used s g) (replicate (6 - x.registers) 0) long (rw (used-unused s f, used-unused s g) b) in
        further
        (rw e (value-below partner_base (states_of s g) (used s f) (used s g) long f.partners g.partners fronts))
    same e (inr (d, l)) = rw (e, d) (omega (arith, f.least, g.least))

-- the order of keys is the order of positions, and a key is its position's own
pub key-order : {x : Radix} {p q : Position} → Sized x → Fits x p → Fits x q
    → (key_of x p < key_of x q → before p q ≡ true) × (key_of x p ≡ key_of x q → p ≡ q)
key-order {x} {p} {q} s f g =
    rising_decides before (key_of x) p q (before_total p q) (key-rises s f g) (key-rises s g f)

-- ── Keys digit by digit ──

module _ (base x : ℕ) (ds : List ℕ) (i : ℕ) where
  -- a number that the digits from place i on continue, with one digit more
  pub value-digit : i < length ds → value base x (drop i ds) ≡ value base (x * base + get_or ds i 0) (drop (i + 1) ds)
  unfolding value
  value-digit h = rw (add-one i, drop-cons ds i 0 h)

  -- the number that no digit continues
  pub value-end : length ds ≤ i → value base x (drop i ds) ≡ x
  unfolding value
  value-end h = rw (drop_of_length-le ds {i = i} h)

-- what stands before the digits of a key is no more than the key
pub value-least : (x : ℕ) (ds : List ℕ) → x ≤ value partner_base x ds
unfolding value
value-least x [] = omega arith
value-least x (d ∷ ds) = le_trans (omega arith) (value-least (x * partner_base + d) ds)

-- the key of a position that fits is below the limit, and so is each part of it
pub key-small : {x : Radix} {p : Position} → Sized x → Fits x p → key_of x p < key_limit
key-small s f = omega (arith, key_bound s f, key_count-small s)

pub key_part_small : {x : Radix} {p : Position} → Sized x → Fits x p → (y : ℕ) (ds : List ℕ)
    → value partner_base y ds ≡ front_of x p
    → y < key_limit
unfolding key_of
key_part_small {x} {p} s f y ds e =
    let once : front_of x p * 1 ≤ front_of x p * sizes_of x = mul-le-mul_left (front_of x p) (omega (arith, s.least)) in
    omega (arith, value-least y ds, key-small s f, once)

-- ── Legal positions fit the radix of their task ──

-- the task in an index has a radix within the limits
pub radix_sized : {b : List ℕ} → Index b → Sized (radix_of (task_in b))
unfolding task_in
radix_sized {b} index =
    record {
      left = omega (arith, valid.left.states_placed, (sized_in b Left).states);
      some = omega (arith, start.exists Right);
      right = omega (arith, valid.right.states_placed, (sized_in b Right).states);
      registers = valid.left.registers;
      least = omega (arith, start.most);
    }
  where
    valid : Valid 6 (task_in b)
    valid = index.indexable.valid

    start : Legal 6 (task_in b) (task_in b).start
    start = legal_facts 6 (task_in b) (task_in b).start valid.start-legal

zeros : (l : List ℕ) (n : ℕ) → length l ≡ n → ((i : ℕ) → i < n → get_or l i 0 ≡ 0) → l ≡ replicate n 0
zeros l n e h =
    ext_get_or 0 l (replicate n 0) (e ∙ sym (length-replicate n 0))
    (λ i b. let c : i < n = omega arith in h i c ∙ sym (get_or-replicate n i 0 0 c))

-- a legal position with a history no smaller than the start's: a register that has a partner is in its state's set, so the left
-- model has it, and the partner is a register of the right one
pub legal-fits : (t : Task) (p : Position) → Valid 6 t → legal 6 t p ≡ true → t.start.history ≤ p.history
    → Fits (radix_of t) p
unfolding right_partner
legal-fits t p v h size =
    record {
      left = l.exists Left;
      right = l.exists Right;
      long = l.long;
      partners =
          below-from partner_base (take n p.partners)
          (λ i b.
          let few : i < n = omega (arith, length-take-le n p.partners (omega (arith, l.long, v.left.registers))) in
          rw (get_or-take n p.partners i 0 few) (partner i (dec_le 1 (get_or p.partners i 0))));
      unused =
          zeros (drop n p.partners) (6 - n) (rw (length-drop n p.partners, l.long))
          (λ i b. rw (get_or-drop n p.partners i 0) (none i (dec_le 1 (get_or p.partners (n + i) 0))));
      least = size;
      most = l.most;
    }
  where
    l : Legal 6 t p
    l = legal_facts 6 t p h

    n : ℕ
    n = t.left.registers

    partner : (i : ℕ) → Dec (1 ≤ get_or p.partners i 0) → get_or p.partners i 0 < partner_base
    partner i (yes e) =
        omega (arith, registers_exist v.right p.right _ (l.exists Right) (l.matches.right-has (suc i) e))
    partner i (no e) = omega arith

    none : (i : ℕ) → Dec (1 ≤ get_or p.partners (n + i) 0) → get_or p.partners (n + i) 0 ≡ 0
    none i (yes e) =
        let held = l.matches.left-has (suc (n + i)) e in
        absurd (omega (arith, (v.left.states p.left (l.exists Left)).existing (suc (n + i)) held))
    none i (no e) = omega arith
