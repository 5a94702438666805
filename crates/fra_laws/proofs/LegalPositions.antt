-- How many legal positions a task has: for each history size at most as many as pairs of states and matchings of r left with r
-- right registers. Assumes nothing.
use Prim.Native.Nat.{ℕ, zero, suc, pred, ◌+◌, ◌*◌, ◌-◌, ◌^◌, ◌≤◌, ◌<◌}
use mathlib.Core.Path.{◌≡◌, refl, ◌∙◌, subst}
use mathlib.Core.Bool.{true}
use mathlib.Core.List.Memᴰ
use mathlib.Core.List.{List, [], ◌∷◌, map, flat_map}
use native.Mathlib.Nat.{mul-le-mul, mul-le-mul_left, pow-le-pow_left, pow-zero, pow-succ', suc_inj, suc-ne-zero, le_refl, le_trans}
use native.Mathlib.Omega.{arith}
use lib.ListN.{length, get_or, length-append, length-map}
use Rattle.fra.specs.Lists.{◌∈◌, Unique, count}
use Rattle.fra.specs.Position.{right_partner, most_seen, legal}
use Rattle.fra.specs.Valid.{Valid}
use Rattle.fra.specs.declared.Position.{Position}
use Rattle.fra.specs.declared.Task.{Task}
use Rattle.fra.specs.declared.Side.TheVariants.{Left, Right}
use Rattle.fra_laws.proofs.Lists.{flat_map_intro, count_intro}
use Rattle.fra_laws.proofs.Lengths.{count-length, flat_map-length, picks, picks-length, picks-rest, picks_intro, unique-length}
use Rattle.fra_laws.proofs.Legal.{registers_exist, Legal, legal_facts}

-- the number of ways to give each of n left registers a right one among u, or none, and no right register twice
unfoldable pub injections : ℕ → ℕ → ℕ
injections zero u = 1
injections (suc n) u = injections n u + u * injections n (pred u)

-- ── All matchings ──

-- a first partner, and then the partners of the others from what is left
abbrev behind : (List ℕ → List (List ℕ)) → ℕ × List ℕ → List (List ℕ)
behind others w = map (λ l. w.0 ∷ l) (others w.1)

-- the partners that n left registers can have, if the right registers in us are free
matchings : ℕ → List ℕ → List (List ℕ)
matchings zero us = [] ∷ []
matchings (suc n) us = flat_map (behind (matchings n)) ((0, us) ∷ picks us)

matchings_length : (n : ℕ) (us : List ℕ) → length (matchings n us) ≡ injections n (length us)
unfolding matchings injections flat_map
matchings_length zero us = refl
matchings_length (suc n) us =
    let e = flat_map-length (behind (matchings n)) (picks us) (injections n (pred (length us))) (each (matchings_length n)) in
    rw (length-append, length-map, matchings_length n us, e, picks-length us)
  where
    each : ((vs : List ℕ) → length (matchings n vs) ≡ injections n (length vs)) → (w : ℕ × List ℕ) → w ∈ picks us
        → length (behind (matchings n) w) ≡ injections n (pred (length us))
    each rest w m =
        let e : length w.1 ≡ pred (length us) = omega (arith, picks-rest us w m) in
        rw (length-map, rest w.1, e)

-- partners in us none of which is used twice
matchings_intro : (l us : List ℕ) → ((k : ℕ) → 1 ≤ get_or l k 0 → get_or l k 0 ∈ us)
    → ((k j : ℕ) → 1 ≤ get_or l k 0 → get_or l k 0 ≡ get_or l j 0 → k ≡ j)
    → l ∈ matchings (length l) us
unfolding matchings
matchings_intro [] us a b = Memᴰ.head refl
matchings_intro (zero ∷ l) us a b =
    flat_map_intro (behind (matchings (length l))) (Memᴰ.head refl)
    (Memᴰ.map (λ l. 0 ∷ l) (matchings_intro l us (λ k. a (suc k)) (λ k j h e. suc_inj (b (suc k) (suc j) h e))))
matchings_intro (suc x ∷ l) us a b =
    let p = picks_intro (a 0 (omega arith)) in
    flat_map_intro (behind (matchings (length l))) (Memᴰ.tail p.1)
    (Memᴰ.map (λ l. suc x ∷ l)
    (matchings_intro l p.0 (λ k h. p.2 (get_or l k 0) (a (suc k) h) (λ e. suc-ne-zero k (b (suc k) 0 h e)))
    (λ k j h e. suc_inj (b (suc k) (suc j) h e))))

-- ── All positions ──

-- the positions of one history size, with r registers, in a left and a right state, in a left state, and in any states of a task
abbrev in_states : ℕ → ℕ → ℕ → ℕ → List Position
in_states r size left right =
    map (λ l. record { left = left; right = right; partners = l; history = size }) (matchings r (count 1 r))

abbrev in_left_state : ℕ → Task → ℕ → ℕ → List Position
in_left_state r t size left = flat_map (in_states r size left) (count 0 t.right.state_count)

abbrev positions : ℕ → Task → ℕ → List Position
positions r t size = flat_map (in_left_state r t size) (count 0 t.left.state_count)

positions-length : (r : ℕ) (t : Task) (size : ℕ)
    → length (positions r t size) ≡ t.left.state_count * t.right.state_count * injections r r
positions-length r t size =
    flat_map-length (in_left_state r t size) (count 0 t.left.state_count) (t.right.state_count * injections r r)
    (λ q m.
    flat_map-length (in_states r size q) (count 0 t.right.state_count) (injections r r)
    (λ e n. rw (length-map, matchings_length r (count 1 r), count-length)) ∙ rw count-length)
    ∙ rw count-length (omega arith)

positions_intro : {r : ℕ} {t : Task} → Valid r t → {p : Position} → Legal r t p → p ∈ positions r t p.history
unfolding right_partner
positions_intro {r} {t} valid {p} l =
    flat_map_intro (in_left_state r t p.history) (state t.left.state_count (l.exists Left))
    (flat_map_intro (in_states r p.history p.left) (state t.right.state_count (l.exists Right))
    (Memᴰ.map (λ l. record { left = p.left; right = p.right; partners = l; history = p.history })
    (rw l.long at (matchings_intro p.partners (count 1 r) free once))))
  where
    state : {q : ℕ} (n : ℕ) → q < n → q ∈ count 0 n
    state {q} n h = count_intro 0 n q (omega arith) (omega arith)

    free : (k : ℕ) → 1 ≤ get_or p.partners k 0 → get_or p.partners k 0 ∈ count 1 r
    free k h =
        let (a, b) = registers_exist valid.right p.right _ (l.exists Right) (l.matches.right-has (suc k) h) in
        count_intro 1 r (get_or p.partners k 0) a (omega arith)

    once : (k j : ℕ) → 1 ≤ get_or p.partners k 0 → get_or p.partners k 0 ≡ get_or p.partners j 0 → k ≡ j
    once k j h e = suc_inj (l.matches.injective (suc k) (suc j) h e)

-- ── The count ──

pub injections_power : (n u : ℕ) → injections n u ≤ suc u ^ n
unfolding injections
injections_power zero u = rw pow-zero (le_refl 1)
injections_power (suc n) u =
    let a = injections_power n u in
    let b = le_trans (injections_power n (pred u)) (pow-le-pow_left {m = suc u} (omega arith) n) in
    rw pow-succ' (omega (arith, mul-le-mul_left u b))

-- no list of legal positions without duplicates is longer, of one history size
pub legal-count : {r : ℕ} {t : Task} → Valid r t
    → (size : ℕ) (l : List Position) → Unique l
    → ((p : Position) → p ∈ l → (legal r t p ≡ true) × (p.history ≡ size))
    → length l ≤ t.left.state_count * t.right.state_count * injections r r
legal-count {r} {t} valid size l u h =
    rw (← (positions-length r t size))
    (unique-length l (positions r t size) u
    (λ p m. let (a, e) = h p m in subst (λ k. p ∈ positions r t k) e (positions_intro valid (legal_facts r t p a))))

-- nor of all sizes from a least one on
pub legal-count-from : {r : ℕ} {t : Task} → Valid r t
    → (least : ℕ) (l : List Position) → Unique l
    → ((p : Position) → p ∈ l → (legal r t p ≡ true) × (least ≤ p.history))
    → length l ≤ (suc (most_seen r) - least) * (t.left.state_count * t.right.state_count * injections r r)
legal-count-from {r} {t} valid least l u h = rw all-length at (unique-length l (flat_map (positions r t) sizes) u member)
  where
    sizes : List ℕ
    sizes = count least (suc (most_seen r) - least)

    all-length : length (flat_map (positions r t) sizes)
        ≡ (suc (most_seen r) - least) * (t.left.state_count * t.right.state_count * injections r r)
    all-length =
        flat_map-length (positions r t) sizes (t.left.state_count * t.right.state_count * injections r r)
        (λ size m. positions-length r t size)
        ∙ rw count-length

    member : (p : Position) → p ∈ l → p ∈ flat_map (positions r t) sizes
    member p m =
        let (a, b) = h p m in
        let legal-p = legal_facts r t p a in
        flat_map_intro (positions r t)
        (count_intro least (suc (most_seen r) - least) p.history b (omega (arith, legal-p.most)))
        (positions_intro valid legal-p)

-- 14 sizes with 3,411,712 positions each
abbrev pub most_positions : ℕ
most_positions = 47763968

pub injections_six : injections 6 6 ≡ 13327
unfolding injections
injections_six = refl

module _ {t : Task} (valid : Valid 6 t) (left : t.left.state_count ≤ 16) (right : t.right.state_count ≤ 16) where
  most-in_states : t.left.state_count * t.right.state_count * injections 6 6 ≤ 3411712
  most-in_states = rw injections_six (mul-le-mul (mul-le-mul left right) (le_refl 13327))

  -- "With 6 registers and 16 states a side there are at most 3,411,712 positions"; 02, ticket 2: it "now holds for each history
  -- size"
  pub most-positions : (size : ℕ) (l : List Position) → Unique l
      → ((p : Position) → p ∈ l → (legal 6 t p ≡ true) × (p.history ≡ size))
      → length l ≤ 3411712
  most-positions size l u h = le_trans (legal-count valid size l u h) most-in_states

  -- so many for each size from a least one to 13
  pub most_positions-from : (least : ℕ) (l : List Position) → Unique l
      → ((p : Position) → p ∈ l → (legal 6 t p ≡ true) × (least ≤ p.history))
      → length l ≤ (14 - least) * 3411712
  most_positions-from least l u h =
      le_trans (legal-count-from valid least l u h) (mul-le-mul_left (14 - least) most-in_states)

  pub most_positions-all : (l : List Position) → Unique l → ((p : Position) → p ∈ l → legal 6 t p ≡ true)
      → length l ≤ most_positions
  most_positions-all l u h = most_positions-from 0 l u (λ p m. (h p m, omega arith))
