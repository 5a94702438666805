-- A position and a loss are what is decoded from their bytes, and bytes are those of what is decoded from them.
-- Assumes nothing.
use Prim.Native.Nat.{ℕ, zero, suc, ◌+◌, ◌^◌, ◌≤◌, ◌<◌}
use mathlib.Core.Path.{◌≡◌, refl, ◌∙◌}
use mathlib.Core.List.Memᴰ
use mathlib.Core.List.{List, [], ◌∷◌, ◌++◌, append-nil}
use native.Mathlib.Omega.{arith}
use lib.ListN.{length, get_or, take, drop, length-append, take-append-drop, drop_of_length-le}
use lib.Seq.{take_at, take_all, take-suc, drop-cons, append_snoc, get_or_at, get_or-append-add}
use Rattle.fra.specs.Lists.{◌∈◌}
use Rattle.fra.specs.Position.{bytes}
use Rattle.fra.specs.declared.Position.{Position}
use Rattle.outcome.specs.Bytes.{Byte, values, word, word_at}
use Rattle.outcome.specs.Certificate.{Loss}
use Rattle.outcome.specs.Check.{position_of, loss_from, kept_length, loss_length}
use Rattle.outcome_laws.proofs.WordBytes.{word_value, word_bound, word_bytes}

-- numbers that are bytes
abbrev pub Bytes : List ℕ → Type 0
Bytes l = (b : ℕ) → b ∈ l → b < 256

pub values-bytes : (l : List Byte) → Bytes (values l)
unfolding values
values-bytes l b m = let (c, n, e) = Memᴰ.of_map (λ (c : Byte). c.value) l m in rw (← e) c.small

byte_at : (l : List ℕ) → Bytes l → (i : ℕ) → get_or l i 0 < 256
byte_at [] h i = omega arith
byte_at (b ∷ l) h zero = h b (Memᴰ.head refl)
byte_at (b ∷ l) h (suc i) = byte_at l (λ c m. h c (Memᴰ.tail m)) i

word_decoded : (n : ℕ) → n < 2 ^ 32 → word_at (word n) 0 ≡ n
unfolding word word_at
word_decoded n h = word_value n h

-- ── Bodies ──

-- the body of a loss
abbrev pub loss_body : Loss → List ℕ
loss_body x = bytes x.position ++ (x.side ∷ x.edge ∷ x.case ∷ word x.rounds)

module _ (r : ℕ) where
  position_front : (p : Position) (rest : List ℕ) → length p.partners ≡ r → position_of r (bytes p ++ rest) ≡ p
  unfolding position_of bytes
  position_front p rest e =
      let whole = append_snoc p.partners p.history rest in
      let matching : take r (p.partners ++ (p.history ∷ []) ++ rest) ≡ p.partners =
      rw whole (take_at p.partners (p.history ∷ rest) r e) in
      let two : r + 2 ≡ suc (suc r) = omega arith in
      let size : get_or (p.left ∷ p.right ∷ p.partners ++ (p.history ∷ []) ++ rest) (r + 2) 0 ≡ p.history =
      rw (two, whole) (get_or_at p.partners p.history rest 0 r e) in
      λ i. record { left = p.left; right = p.right; partners = matching i; history = size i }

  loss_fields : (p : Position) (s e c : ℕ) (w : List ℕ) → length p.partners ≡ r
      → loss_from r (bytes p ++ s ∷ e ∷ c ∷ w)
      ≡ record { position = p; side = s; edge = e; case = c; rounds = word_at w 0 }
  unfolding loss_from word_at bytes
  loss_fields p s e c w h =
      let rounds : word_at (bytes p ++ s ∷ e ∷ c ∷ w) (r + 6) ≡ word_at w 0 =
      cc (
        at 3 (r + 6) (omega arith),
        at 4 (r + 6 + 1) (omega arith),
        at 5 (r + 6 + 2) (omega arith),
        at 6 (r + 6 + 3) (omega arith),
      ) in
      λ i. record {
        position = position_front p (s ∷ e ∷ c ∷ w) h i;
        side = at 0 (r + 3) (omega arith) i;
        edge = at 1 (r + 4) (omega arith) i;
        case = at 2 (r + 5) (omega arith) i;
        rounds = rounds i;
      }
    where
      at : (n k : ℕ) → k ≡ r + 3 + n → get_or (bytes p ++ s ∷ e ∷ c ∷ w) k 0 ≡ get_or (s ∷ e ∷ c ∷ w) n 0
      at n k i =
          let j : k ≡ length (bytes p) + n = simp length-append (omega arith) in
          rw j (get_or-append-add (bytes p) (s ∷ e ∷ c ∷ w) n 0)

  pub position-bytes : (body : List ℕ) → kept_length r ≤ length body → bytes (position_of r body) ≡ take (kept_length r) body
  unfolding position_of bytes
  position-bytes [] h = absurd (omega arith)
  position-bytes (a ∷ []) h = absurd (omega arith)
  position-bytes (a ∷ b ∷ l) h =
      let two : r + 2 ≡ suc (suc r) = omega arith in
      let three : r + 3 ≡ suc (suc (suc r)) = omega arith in
      rw (two, three, take-suc l r 0 (omega arith))

  -- ── Lengths ──

  pub position-length : (p : Position) → length p.partners ≡ r → length (bytes p) ≡ kept_length r
  unfolding bytes
  position-length p e = simp length-append (omega arith)

  pub loss_length_lem : (x : Loss) → length x.position.partners ≡ r → length (loss_body x) ≡ loss_length r
  unfolding bytes word
  loss_length_lem x e = simp length-append (omega arith)

  -- ── Decoding undoes encoding ──

  pub position_decoded : (p : Position) → length p.partners ≡ r → position_of r (bytes p) ≡ p
  position_decoded p e = rw append-nil at (position_front p [] e)

  pub loss_decoded : (x : Loss) → length x.position.partners ≡ r → x.rounds < 2 ^ 32 → loss_from r (loss_body x) ≡ x
  loss_decoded x e h =
      rw (word_decoded x.rounds h) at (loss_fields x.position x.side x.edge x.case (word x.rounds) e)

  -- ── Encoding undoes decoding ──

  pub position-encoded : (body : List ℕ) → length body ≡ kept_length r → bytes (position_of r body) ≡ body
  position-encoded body e = position-bytes body (omega arith) ∙ take_all (kept_length r) body (omega arith)

  module _ (body : List ℕ) (e : length body ≡ loss_length r) (h : Bytes body) where
    pub loss_encoded : loss_body (loss_from r body) ≡ body
    unfolding loss_from word_at
    loss_encoded =
        cc (
          position-bytes body (omega arith),
          take-append-drop (r + 3) body,
          next (r + 3) (r + 4) (omega arith) (omega arith),
          next (r + 4) (r + 5) (omega arith) (omega arith),
          next (r + 5) (r + 6) (omega arith) (omega arith),
          word_bytes body (r + 6) (byte_at body h),
          next (r + 6) (r + 6 + 1) (omega arith) (omega arith),
          next (r + 6 + 1) (r + 6 + 2) (omega arith) (omega arith),
          next (r + 6 + 2) (r + 6 + 3) (omega arith) (omega arith),
          next (r + 6 + 3) (r + 10) (omega arith) (omega arith),
          drop_of_length-le body {i = r + 10} (omega arith),
        )
      where
        next : (k m : ℕ) → m ≡ suc k → k < length body → drop k body ≡ get_or body k 0 ∷ drop m body
        next k m i b = rw i (drop-cons body k 0 b)

    pub decoded_rounds : (loss_from r body).rounds < 2 ^ 32
    unfolding loss_from word_at
    decoded_rounds = word_bound body (r + 6) (byte_at body h)
