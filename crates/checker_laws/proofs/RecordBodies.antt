-- What is read at the places of whole records is what their bodies decide. Assumes nothing.
use Prim.Native.Nat.{ℕ, suc, ◌+◌, ◌*◌, ◌/◌, ◌≤◌, ◌<◌}
use mathlib.Core.Path.{◌≡◌, refl, sym, ◌∙◌, ap, ap₂}
use mathlib.Core.List.{List, [], ◌∷◌, ◌++◌, map, flat_map, append-nil}
use native.Mathlib.Nat.{zero-add, add-zero, mul-div_cancel}
use native.Mathlib.Omega.{arith}
use lib.ListN.{length, get_or, take, drop, length-drop, get_or-append}
use lib.Seq.{drop-cons, get_or-drop, take-append-le, drop-append-le}
use Rattle.fra.specs.Lists.{count}
use Rattle.fra_laws.proofs.FixedWidth.{Wide, at_member, records-length, records-from}
use Rattle.outcome.specs.Bytes.{word_at}
use Rattle.outcome.specs.Check.{position_of, loss_from, kept_length, loss_length}
use Rattle.outcome.specs.Refusals.{records}
use Rattle.outcome_laws.proofs.Bodies.{Whole}
use Rattle.listing.specs.Widths.{position_width, history_place, lost_width, lost_rounds, record_position}
use Rattle.listing.specs.Listing.{position_at, positions_in}
use Rattle.listing.specs.declared.Listing.{Listing}
use Rattle.checker_laws.specs.CertificateRecords.{loss_at, losses_in}

-- the whole records of some bytes: a kind and a body of this size each, with rounds at this place
abbrev pub whole_in : ℕ → ℕ → List ℕ → Listing
whole_in size rounds l =
    record { count = length l / suc size; width = suc size; position = record_position; rounds = rounds }

-- what stands from the body of record i on, with records of w bytes
abbrev body_from : ℕ → List ℕ → ℕ → List ℕ
body_from w l i = drop record_position (drop (i * w) l)

-- ── A body decides what is read from it, whatever follows ──

module _ (body rest : List ℕ) where
  at : (k : ℕ) → k < length body → get_or (body ++ rest) k 0 ≡ get_or body k 0
  at = get_or-append body rest 0

  position-ahead : kept_length 6 ≤ length body → position_of 6 (body ++ rest) ≡ position_of 6 body
  unfolding position_of
  position-ahead h =
      let left = at 0 (omega arith) in
      let right = at 1 (omega arith) in
      let partners : take 6 (drop 2 (body ++ rest)) ≡ take 6 (drop 2 body) =
      rw (drop-append-le 2 body rest (omega arith), take-append-le 6 (drop 2 body) rest (rw length-drop (omega arith))) in
      let size = at history_place (omega arith) in
      λ i. record { left = left i; right = right i; partners = partners i; history = size i }

  loss_ahead : loss_length 6 ≤ length body → loss_from 6 (body ++ rest) ≡ loss_from 6 body
  unfolding loss_from word_at
  loss_ahead h =
      cc (
        position-ahead (omega arith),
        past 0 (omega arith),
        past 1 (omega arith),
        past 2 (omega arith),
        past 3 (omega arith),
        past 4 (omega arith),
        past 5 (omega arith),
        past 6 (omega arith),
      )
    where
      -- what follows the position
      past : (k : ℕ) → position_width + k < length body
          → get_or (body ++ rest) (position_width + k) 0 ≡ get_or body (position_width + k) 0
      past k = at (position_width + k)

-- a record of a loss says what its body does
loss_body_lem : (l : List ℕ) (i : ℕ) → loss_at l i ≡ loss_from 6 (body_from lost_width l i)
unfolding loss_at loss_from word_at
loss_body_lem l i = cc (byte 0, byte 1, byte 2, byte 3, word 1, word 2, word 3)
  where
    byte : (n : ℕ)
        → get_or (body_from lost_width l i) (position_width + n) 0 ≡ get_or l (i * lost_width + (record_position + (position_width + n))) 0
    byte n =
        get_or-drop record_position (drop (i * lost_width) l) (position_width + n) 0
        ∙ get_or-drop (i * lost_width) l (record_position + (position_width + n)) 0

    word : (n : ℕ) → get_or (body_from lost_width l i) (position_width + (3 + n)) 0 ≡ get_or l (i * lost_width + lost_rounds + n) 0
    word n = byte (3 + n) ∙ ap (λ k. get_or l k 0) (omega arith)

-- ── Whole records of one kind ──

-- a function of the place that gives what another one makes of each element gives the list of that
by_places : {A B : Type 0} (f : B → A) (z : B) (g : ℕ → A) (k : ℕ) (l : List B)
    → ((i : ℕ) → i < length l → g (k + i) ≡ f (get_or l i z))
    → map g (count k (length l)) ≡ map f l
unfolding count
by_places f z g k [] h = refl
by_places {A} f z g k (b ∷ l) h =
    ap₂ {C = List A} (λ a m. a ∷ m) (rw add-zero at (h 0 (omega arith)))
    (by_places f z g (suc k) l (λ i p. let e : suc k + i ≡ k + suc i = omega arith in rw e (h (suc i) (omega arith))))

module _ (kind size : ℕ) (bs : List (List ℕ)) (w : Whole size bs) where
  wide : Wide (λ body. kind ∷ body) (suc size) bs
  wide b m = ap suc (w b m)

  pub length-of-records : length (records kind bs) ≡ length bs * suc size
  unfolding records
  length-of-records = records-length (λ body. kind ∷ body) (suc size) bs wide

  pub counted : length (records kind bs) / suc size ≡ length bs
  counted = rw length-of-records (mul-div_cancel (length bs) (omega arith))

  module _ (i : ℕ) (h : i < length bs) where
    record_from : drop (i * suc size) (records kind bs) ≡ kind ∷ get_or bs i [] ++ records kind (drop (suc i) bs)
    unfolding records flat_map
    record_from =
        simp append-nil at (records-from (λ body. kind ∷ body) (suc size) bs [] i wide (omega arith))
        ∙ ap (records kind) (drop-cons bs i [] h)

    pub kind_at : get_or (records kind bs) (i * suc size) 0 ≡ kind
    kind_at =
        rw (add-zero (i * suc size)) at (sym (get_or-drop (i * suc size) (records kind bs) 0 0) ∙ ap (λ l. get_or l 0 0) record_from)

  -- what a body decides is read from each body
  read-each : {A : Type 0} (read : List ℕ → A)
      → ((body rest : List ℕ) → length body ≡ size → read (body ++ rest) ≡ read body)
      → (g : ℕ → A)
      → ((i : ℕ) → g i ≡ read (body_from (suc size) (records kind bs) i))
      → map g (count 0 (length (records kind bs) / suc size)) ≡ map read bs
  read-each read ahead g each =
      rw counted
      (by_places read [] g 0 bs
      (λ i h.
      rw (zero-add i)
      (each i
      ∙ ap (λ l. read (drop 1 l)) (record_from i h)
      ∙ ahead (get_or bs i []) (records kind (drop (suc i) bs)) (w (get_or bs i []) (at_member bs i [] h)))))

  pub positions-read : (rounds : ℕ) → kept_length 6 ≤ size
      → positions_in (whole_in size rounds (records kind bs)) (records kind bs) ≡ map (position_of 6) bs
  unfolding positions_in
  positions-read rounds fits =
      read-each (position_of 6) (λ body rest e. position-ahead body rest (omega arith))
      (position_at (whole_in size rounds (records kind bs)) (records kind bs)) (λ i. refl)

pub losses-read : (kind : ℕ) (bs : List (List ℕ)) → Whole (loss_length 6) bs → losses_in (records kind bs) ≡ map (loss_from 6) bs
unfolding losses_in
losses-read kind bs w =
    read-each kind (loss_length 6) bs w (loss_from 6) (λ body rest e. loss_ahead body rest (omega arith)) (loss_at (records kind bs))
    (loss_body_lem (records kind bs))
