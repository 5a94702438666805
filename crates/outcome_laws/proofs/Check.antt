-- What the checker answers on a task, number by number, for any register count and any contest whose two certificates have
-- different kinds. Refusal 13 is at the end of `Malformed`. Assumes nothing.
use Prim.Native.Nat.{ℕ, ◌<◌, ◌^◌}
use Rattle.std.specs.Prelude.{Ok, Err}
use mathlib.Core.Path.{◌≡◌, refl, sym, ◌∙◌, ap}
use mathlib.Core.Logic.{◌⊎◌, inl, inr, ◌≢◌, ◌↔◌}
use mathlib.Core.Bool.{true, false}
use mathlib.Core.List.Memᴰ
use mathlib.Core.List.{List, [], ◌∷◌, ◌++◌, map, flat_map, map-map}
use lib.ListN.{length}
use Rattle.fra.specs.Lists.{◌∈◌}
use Rattle.fra.specs.Position.{legal, before, bytes, Rising}
use Rattle.fra.specs.declared.Position.{Position}
use Rattle.fra.specs.declared.Task.{Task}
use Rattle.fra_laws.proofs.Tests.{clash, not_both, fails_unless}
use Rattle.fra_laws.proofs.Lists.{map_undone, flat_map_intro}
use Rattle.fra_laws.proofs.Order.{before_irreflexive}
use Rattle.outcome.specs.Verdicts.{Contest, kind_of}
use Rattle.outcome.specs.Certificate.{Loss, place_of, kept_record, loss_record}
use Rattle.outcome.specs.Conditions.{Accepts, accepts-kept, accepts-lost}
use Rattle.outcome.specs.Check.{check_task, judge_list, orderly, position_of, kept_accepted, loss_from, losses_accepted, start_rounds, same}
use Rattle.outcome.specs.Refusals.{Kind, of-kept, of-lost, records, Malformed, NotAccepted}
use Rattle.outcome.specs.declared.Verdict.{Verdict}
use Rattle.outcome.specs.declared.Acceptance.{Acceptance}
use Rattle.task.specs.declared.Refusal.{Refusal}
use Rattle.fra_laws.proofs.Legal.{legal_facts}
use Rattle.outcome_laws.proofs.Bodies.{Whole}
use Rattle.outcome_laws.proofs.Orderly.{orderly_passes}
use Rattle.outcome_laws.proofs.Accepted.{same_passes, kept_accepted_lem, losses_accepted_lem}
use Rattle.outcome_laws.proofs.Encoding.{Bytes, loss_body, position-length, loss_length_lem, position_decoded, position-encoded, loss_decoded, loss_encoded, decoded_rounds}
use Rattle.outcome_laws.proofs.Malformed.{accepts, verdict, rounds, judged, check-whole, Answer, malformed, rejected, accepted, answer, check-refused_13}

-- ── Lists that are encoded and decoded ──

-- the bytes of a list are the records of its bodies
records-of : {A : Type 0} (kind : ℕ) (body : A → List ℕ) (l : List A)
    → flat_map (λ a. kind ∷ body a) l ≡ records kind (map body l)
unfolding records flat_map
records-of kind body [] = refl
records-of kind body (a ∷ l) = ap (λ rest. kind ∷ body a ++ rest) (records-of kind body l)

-- the bytes of a list that is decoded from bodies
decoded_bytes : {A : Type 0} (kind : ℕ) (decode : List ℕ → A) (encode : A → List ℕ) (bs : List (List ℕ))
    → ((b : List ℕ) → b ∈ bs → encode (decode b) ≡ b)
    → records kind bs ≡ flat_map (λ a. kind ∷ encode a) (map decode bs)
decoded_bytes kind decode encode bs each = rw (records-of kind encode (map decode bs), map_undone decode encode bs each)

-- a certificate of bytes has bodies of bytes
body_bytes : (kind : ℕ) (bs : List (List ℕ)) → Bytes (records kind bs) → (body : List ℕ) → body ∈ bs → Bytes body
unfolding records
body_bytes kind bs h body m b n = h b (flat_map_intro (λ body. kind ∷ body) m (Memᴰ.tail n))

-- the positions in bodies of losses are where other bodies have theirs
places : (r : ℕ) (bs : List (List ℕ)) → map place_of (map (loss_from r) bs) ≡ map (position_of r) bs
unfolding loss_from
places r bs = map-map place_of (loss_from r) bs

-- the start's record in a rising list is the one whose rounds are returned
start-rounds : (t : Task) (l : List Loss) → Rising (map place_of l) → (x : Loss) → x ∈ l → x.position ≡ t.start
    → start_rounds t l ≡ x.rounds
unfolding start_rounds
start-rounds t [] h x m e = absurd (Memᴰ.not-nil m)
start-rounds t (y ∷ l) (above, rest) x m e = step (Memᴰ.cases_cons m) (λ (n : x ∈ l). start-rounds t l rest x n e)
  where
    step : (x ≡ y) ⊎ (x ∈ l) → (x ∈ l → start_rounds t l ≡ x.rounds) → start_rounds t (y ∷ l) ≡ x.rounds
    step (inl d) later =
        let f : same t.start y.position ≡ true = (same_passes t.start y.position).1 (cc) in
        rw (f, start_rounds) (cc)
    step (inr n) later =
        let f : same t.start y.position ≡ false =
        fails_unless (same t.start y.position)
        (λ h.
        let d : x.position ≡ y.position = e ∙ sym ((same_passes t.start y.position).0 h) in
        not_both (before y.position y.position) (rw d at (above x.position (Memᴰ.map place_of n)))
        (before_irreflexive y.position)) in
        rw (f, start_rounds) (later n)

module _ (r : ℕ) (c : Contest) (t : Task) (differ : kind_of c.kept ≢ kind_of c.lost) where
  -- ── The answer to the bytes of a list ──

  -- the bytes of a list whose elements are decoded from their bodies
  encoded-answer : {A : Type 0} {kind size : ℕ} (k : Kind r c kind size) (encode : A → List ℕ) (decode : List ℕ → A)
      → (l : List A) → ((a : A) → a ∈ l → (length (encode a) ≡ size) × (decode (encode a) ≡ a))
      → (check_task r c t (flat_map (λ a. kind ∷ encode a) l) ≡ judged r c t k (map encode l))
      × (map decode (map encode l) ≡ l)
  encoded-answer {kind} k encode decode l each = (
    rw (records-of kind encode l)
        (check-whole r c t differ k (map encode l)
        (λ b m. let (a, n, e) = Memᴰ.of_map encode l m in rw (← e) (each a n).0)),
    map_undone encode decode l (λ a m. (each a m).1),
  )

  kept-answer : (l : List Position) → ((p : Position) → p ∈ l → legal r t p ≡ true)
      → check_task r c t (flat_map (kept_record (kind_of c.kept)) l)
      ≡ judge_list (orderly r t l) (kept_accepted c.rules t l) (record { verdict = c.kept; rounds = 0 })
  unfolding kept_record
  kept-answer l are_legal =
      let (e, f) =
      encoded-answer of-kept bytes (position_of r) l
      (λ p m. let n = (legal_facts r t p (are_legal p m)).long in (position-length r p n, position_decoded r p n)) in
      e ∙ rw f

  lost-answer : (l : List Loss) → ((x : Loss) → x ∈ l → legal r t x.position ≡ true)
      → ((x : Loss) → x ∈ l → x.rounds < 2 ^ 32)
      → check_task r c t (flat_map (loss_record (kind_of c.lost)) l)
      ≡ judge_list (orderly r t (map place_of l)) (losses_accepted c.rules t l) (record { verdict = c.lost; rounds = start_rounds t l })
  unfolding loss_record
  lost-answer l are_legal are_words =
      let (e, f) =
      encoded-answer of-lost loss_body (loss_from r) l
      (λ x m.
      let n = (legal_facts r t x.position (are_legal x m)).long in
      (loss_length_lem r x n, loss_decoded r x n (are_words x m))) in
      e ∙ rw (← places r (map loss_body l), f)

  -- ── What an accepted certificate is ──

  accepted_list : {kind size : ℕ} (k : Kind r c kind size) (bs : List (List ℕ)) → Whole size bs → Bytes (records kind bs)
      → orderly r t (map (position_of r) bs) ≡ true → accepts r c t k bs ≡ true
      → Accepts r c t (records kind bs) (verdict r c t k) (rounds r c t k bs)
  unfolding kept_record loss_record
  accepted_list of-kept bs w h o a =
      let (are_legal, rises) = (orderly_passes r t (map (position_of r) bs)).0 o in
      accepts-kept (map (position_of r) bs)
      (decoded_bytes (kind_of c.kept) (position_of r) bytes bs (λ b m. position-encoded r b (w b m)))
      rises
      ((kept_accepted_lem c.rules t r (map (position_of r) bs) are_legal).0 a)
  accepted_list of-lost bs w h o a =
      let (are_legal, rises) = (orderly_passes r t (map place_of (map (loss_from r) bs))).0 (rw places o) in
      let condition = (losses_accepted_lem c.rules t (map (loss_from r) bs)).0 a in
      let (x, m, e) = condition.start in
      rw (start-rounds t (map (loss_from r) bs) rises x m e)
      (accepts-lost (map (loss_from r) bs)
      (decoded_bytes (kind_of c.lost) (loss_from r) loss_body bs
      (λ b m. loss_encoded r b (w b m) (body_bytes (kind_of c.lost) bs h b m)))
      (λ x m. are_legal x.position (Memᴰ.map place_of m))
      (λ x m.
      let (b, n, e) = Memᴰ.of_map (loss_from r) bs m in
      rw (← e) (decoded_rounds r b (w b n) (body_bytes (kind_of c.lost) bs h b n)))
      rises
      condition
      x
      m
      e)

  -- ── What the checker answers: acceptance, refusal 14, and besides these only refusal 13 ──

  -- whoever wrote the list
  pub check-accepts : {l : List ℕ} {v : Verdict} {n : ℕ} → Accepts r c t l v n → check_task r c t l ≡ Ok (record { verdict = v; rounds = n })
  unfolding judge_list
  check-accepts (accepts-kept l e rises condition) =
      let are_legal = condition.bisimulation.are_legal in
      rw e
      (kept-answer l are_legal
      ∙ rw ((orderly_passes r t l).1 (are_legal, rises), (kept_accepted_lem c.rules t r l are_legal).1 condition))
  check-accepts (accepts-lost l e are_legal are_words rises condition x m d) =
      let legal-places : (p : Position) → p ∈ map place_of l → legal r t p ≡ true =
      λ p n. let (y, i, f) = Memᴰ.of_map place_of l n in rw (← f) (are_legal y i) in
      rw e
      (lost-answer l are_legal are_words
      ∙ rw (
        (orderly_passes r t (map place_of l)).1 (legal-places, rises),
        (losses_accepted_lem c.rules t l).1 condition,
        start-rounds t l rises x m d,
      ))

  pub check_accepted : (l : List ℕ) → Bytes l → (v : Verdict) (n : ℕ)
      → (check_task r c t l ≡ Ok (record { verdict = v; rounds = n })) ↔ Accepts r c t l v n
  check_accepted l h v n = (to (answer r c t differ l), check-accepts)
    where
      to : Answer r c t differ l → check_task r c t l ≡ Ok (record { verdict = v; rounds = n }) → Accepts r c t l v n
      to (malformed m e) f = clash (cc)
      to (rejected b a e) f = clash (cc)
      to (accepted b a e) f =
          let same : ◌≡◌ {A = Acceptance} (record { verdict = v; rounds = n }) (record { verdict = verdict r c t b.known; rounds = rounds r c t b.known b.bodies }) = cc in
          let i = ap (λ (a : Acceptance). a.verdict) same in
          let j = ap (λ (a : Acceptance). a.rounds) same in
          rw (i, j, b.consists) (accepted_list b.known b.bodies b.whole (rw b.consists at h) b.order a)

  pub check-refused_14 : (l : List ℕ) → Bytes l → (check_task r c t l ≡ Err Refusal.NotAccepted) ↔ NotAccepted r c t l
  check-refused_14 l h = (
    λ e. record {
      well_formed = λ m.
          let f = (check-refused_13 r c t differ l).1 m in
          clash (cc);
      unmet = λ v n a. let f = check-accepts a in clash (cc);
    },
    from (answer r c t differ l),
  )
    where
      from : Answer r c t differ l → NotAccepted r c t l → check_task r c t l ≡ Err Refusal.NotAccepted
      from (malformed m e) n = absurd (n.well_formed m)
      from (rejected b a e) n = e
      from (accepted b a e) n = absurd (n.unmet _ _ ((check_accepted l h _ _).0 e))

  pub check-answers : (l : List ℕ)
      → (check_task r c t l ≡ Err Refusal.Malformed)
      ⊎ (check_task r c t l ≡ Err Refusal.NotAccepted)
      ⊎ (v : Verdict) × (n : ℕ) × (check_task r c t l ≡ Ok (record { verdict = v; rounds = n }))
  check-answers l = of (answer r c t differ l)
    where
      of : Answer r c t differ l
          → (check_task r c t l ≡ Err Refusal.Malformed)
          ⊎ (check_task r c t l ≡ Err Refusal.NotAccepted)
          ⊎ (v : Verdict) × (n : ℕ) × (check_task r c t l ≡ Ok (record { verdict = v; rounds = n }))
      of (malformed m e) = inl e
      of (rejected b a e) = inr (inl e)
      of (accepted b a e) = inr (inr (verdict r c t b.known, rounds r c t b.known b.bodies, e))

  -- each refusal in its case, and no other
  pub check-refused : (l : List ℕ) → Bytes l → (e : Refusal)
      → (check_task r c t l ≡ Err e) ↔ (((e ≡ Refusal.Malformed) × Malformed r c t l) ⊎ (e ≡ Refusal.NotAccepted) × NotAccepted r c t l)
  check-refused l h e = (to (check-answers l), from)
    where
      to : (check_task r c t l ≡ Err Refusal.Malformed)
          ⊎ (check_task r c t l ≡ Err Refusal.NotAccepted)
          ⊎ (v : Verdict) × (m : ℕ) × (check_task r c t l ≡ Ok (record { verdict = v; rounds = m }))
          → check_task r c t l ≡ Err e
          → ((e ≡ Refusal.Malformed) × Malformed r c t l) ⊎ (e ≡ Refusal.NotAccepted) × NotAccepted r c t l
      to (inl a) f = let d : e ≡ Refusal.Malformed = cc in inl (d, (check-refused_13 r c t differ l).0 a)
      to (inr (inl a)) f = let d : e ≡ Refusal.NotAccepted = cc in inr (d, (check-refused_14 l h).0 a)
      to (inr (inr (v, m, a))) f = clash (cc)

      from : ((e ≡ Refusal.Malformed) × Malformed r c t l) ⊎ (e ≡ Refusal.NotAccepted) × NotAccepted r c t l
          → check_task r c t l ≡ Err e
      from (inl (d, m)) = rw d ((check-refused_13 r c t differ l).1 m)
      from (inr (d, m)) = rw d ((check-refused_14 l h).1 m)
