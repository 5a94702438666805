-- Positions by the numbers of their nine bytes: records whose positions rise have rising numbers, and a number that is met is its
-- position's. Assumes nothing.
use Prim.Native.Nat.{ℕ, zero, suc, ◌+◌, ◌*◌, ◌≤◌, ◌<◌}
use mathlib.Core.Path.{◌≡◌, sym, ◌∙◌, ap}
use mathlib.Core.Bool.{true}
use mathlib.Core.List.{List, [], ◌∷◌, ◌++◌}
use native.Mathlib.Omega.{arith}
use native.Mathlib.Nat.{suc-mul, mul-le-mul_right}
use lib.ListN.{length, get_or, take, drop, length-append, length-drop, get_or-append}
use lib.Seq.{length-take-le, get_or-take, get_or-drop, take_at, drop-drop}
use mir.Syntax.{w8}
use mir.Val.{Fits}
use Rattle.fra.specs.Position.{bytes, before, Rising}
use Rattle.fra.specs.declared.Position.{Position}
use Rattle.fra_laws.proofs.Order.{bytes_injective}
use Rattle.fra_laws.proofs.FixedWidth.{at_member}
use Rattle.fra_laws.proofs.ByPlace.{places-length, places-at}
use Rattle.outcome.specs.Check.{position_of}
use Rattle.outcome_laws.proofs.Encoding.{position-length, position-bytes}
use Rattle.listing.specs.Widths.{position_width}
use Rattle.listing.specs.Digits.{value, Below}
use Rattle.listing.specs.Listing.{position_at, positions_in, number_at, Fitting, Searchable}
use Rattle.listing.specs.declared.Listing.{Listing}
use Rattle.listing.proofs.Digits.{value-below, value-order}
use Rattle.listing.proofs.WordLaws.{Bytes}

-- ── A position's bytes ──

append-bytes : (l m : List ℕ) → Bytes l → Bytes m → Bytes (l ++ m)
append-bytes [] m a b i = b i
append-bytes (x ∷ l) m a b zero = a 0
append-bytes (x ∷ l) m a b (suc i) = append-bytes l m (λ k. a (suc k)) b i

pub below-from : (base : ℕ) (l : List ℕ) → ((i : ℕ) → i < length l → get_or l i 0 < base) → Below base l
below-from base [] h = tt
below-from base (x ∷ l) h = (h 0 (omega arith), below-from base l (λ i k. h (suc i) (omega arith)))

-- a position's numbers are bytes
pub position-numbers : (p : Position) → Fits w8 p.left → Fits w8 p.right → ((i : ℕ) → Fits w8 (get_or p.partners i 0))
    → Fits w8 p.history
    → Bytes (bytes p)
unfolding bytes
position-numbers p l r b h zero = l.fits
position-numbers p l r b h (suc zero) = r.fits
position-numbers p l r b h (suc (suc i)) = append-bytes p.partners (p.history ∷ []) (λ k. (b k).fits) size i
  where
    size : Bytes (p.history ∷ [])
    size zero = h.fits
    size (suc k) = omega arith

pub position-below : (p : Position) → Fits w8 p.left → Fits w8 p.right → ((i : ℕ) → Fits w8 (get_or p.partners i 0))
    → Fits w8 p.history
    → Below 256 (bytes p)
position-below p l r b h = below-from 256 (bytes p) (λ i _. position-numbers p l r b h i)

pub bytes-length : (p : Position) → length p.partners ≡ 6 → length (bytes p) ≡ position_width
bytes-length p e = position-length 6 p e

-- the place of each part
pub partner-byte : (p : Position) (k : ℕ) → length p.partners ≡ 6 → k < 6
    → get_or (bytes p) (suc (suc k)) 0 ≡ get_or p.partners k 0
unfolding bytes
partner-byte p k e h = get_or-append p.partners (p.history ∷ []) 0 k (omega arith)

-- they are read back, whatever follows
pub position-read : (p : Position) (rest : List ℕ) → length p.partners ≡ 6 → position_of 6 (bytes p ++ rest) ≡ p
position-read p rest six =
    let long = bytes-length p six in
    bytes_injective (position_of 6 (bytes p ++ rest)) p
    (position-bytes 6 (bytes p ++ rest) (rw length-append (omega arith)) ∙ take_at (bytes p) rest position_width long)

-- ── Positions by their places ──

pub rising-at : (l : List Position) (i j : ℕ) (z : Position) → Rising l → i < j → j < length l
    → before (get_or l i z) (get_or l j z) ≡ true
rising-at [] i j z r h k = absurd (omega arith)
rising-at (p ∷ l) i zero z r h k = absurd (omega arith)
rising-at (p ∷ l) zero (suc j) z r h k = r.0 (get_or l j z) (at_member l j z (omega arith))
rising-at (p ∷ l) (suc i) (suc j) z r h k = rising-at l i j z r.1 (omega arith) (omega arith)

module _ (y : Listing) (l : List ℕ) where
  pub positions-length : length (positions_in y l) ≡ y.count
  unfolding positions_in
  positions-length = places-length (position_at y l) y.count

  pub positions-at : (i : ℕ) (z : Position) → i < y.count → get_or (positions_in y l) i z ≡ position_at y l i
  unfolding positions_in
  positions-at i z = places-at (position_at y l) y.count i z

  -- a record ends within the bytes
  pub record_room : Fitting y l → (i : ℕ) → i < y.count → i * y.width + y.width ≤ length l
  record_room f i h =
      let m : suc i * y.width ≤ y.count * y.width = mul-le-mul_right y.width h in
      omega (arith, rw suc-mul at m, f.room)

  -- ── Numbers of records ──

  module _ (b : Bytes l) (f : Fitting y l) (i : ℕ) (h : i < y.count) where
    room : i * y.width + y.position + position_width ≤ length l
    room = omega (arith, record_room f i h, f.position)

    abbrev body : List ℕ
    body = drop (i * y.width + y.position) l

    position_from_lem : drop y.position (drop (i * y.width) l) ≡ body
    position_from_lem = drop-drop y.position (i * y.width) l

    entry-bytes : bytes (position_at y l i) ≡ take position_width body
    entry-bytes = rw position_from_lem (position-bytes 6 body (rw length-drop (omega (arith, room))))

    entry_length : length (bytes (position_at y l i)) ≡ position_width
    entry_length = ap length entry-bytes ∙ length-take-le position_width body (rw length-drop (omega (arith, room)))

    entry-below : Below 256 (bytes (position_at y l i))
    entry-below =
        rw entry-bytes
        (below-from 256 (take position_width body)
        (λ k c.
        let d : k < position_width = omega (arith, entry_length, ap length entry-bytes) in
        rw (get_or-take position_width body k 0 d, get_or-drop) (b (i * y.width + y.position + k))))

    pub number-bytes : number_at y l i ≡ value 256 0 (bytes (position_at y l i))
    number-bytes = ap (value 256 0) (sym entry-bytes)

    -- a record with the number of a position's bytes has that position
    pub number-found : (p : Position) → length (bytes p) ≡ position_width → Below 256 (bytes p)
        → number_at y l i ≡ value 256 0 (bytes p)
        → position_at y l i ≡ p
    number-found p long small e =
        bytes_injective (position_at y l i) p
        ((value-order 256 0 (bytes (position_at y l i)) (bytes p) (entry_length ∙ sym long) entry-below small).1
        (sym number-bytes ∙ e))

  -- earlier records have smaller numbers
  pub numbers_rise : Bytes l → Searchable y l → (i j : ℕ) → i < j → j < y.count → number_at y l i < number_at y l j
  unfolding before
  numbers_rise b s i j h k =
      let f = s.fitting in
      let p = position_at y l i in
      let q = position_at y l j in
      let m : i < y.count = omega arith in
      let e = rising-at (positions_in y l) i j p s.rising h (omega (arith, positions-length)) in
      rw (number-bytes b f i m, number-bytes b f j k)
      (value-below 256 0 (bytes p) (bytes q) (entry_length b f i m ∙ sym (entry_length b f j k)) (entry-below b f i m)
      (entry-below b f j k)
      (rw (positions-at i p m, positions-at j p k) at e))
