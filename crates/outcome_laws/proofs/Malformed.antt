-- The checker's first answer: refusal 13 exactly at the malformed certificates. Every other certificate is whole records of
-- one kind with legal positions that rise, and the answer is 14 or acceptance. Assumes nothing.
use Prim.Native.Nat.{ℕ, suc}
use mathlib.Core.Path.{◌≡◌, refl, sym, ◌∙◌, ap, subst}
use mathlib.Core.Logic.{◌⊎◌, inl, inr, ⊎_elim, ◌≢◌, ◌↔◌}
use mathlib.Core.Bool.{Bool, true, false}
use mathlib.Core.List.Memᴰ
use mathlib.Core.List.{List, [], ◌∷◌, ◌++◌, map, flat_map, map-map, append-nil, append_assoc}
use Rattle.std.specs.Prelude.{Result, Ok, Err, Option, None, Some}
use native.Mathlib.Omega.{arith}
use native.Mathlib.Decide.{ℕ_discrete}
use lib.ListN.{length}
use borrow.Author.Tests.{eq-eqb, ne_eqb}
use Rattle.fra.specs.Lists.{any, all}
use Rattle.fra.specs.declared.Task.{Task}
use Rattle.outcome.specs.Verdicts.{Contest, kind_of}
use Rattle.outcome.specs.Certificate.{Loss}
use Rattle.outcome.specs.Check.{check_task, check_kept, check_losses, judge_list, bodies, orderly, rising, position_of, kept_accepted, loss_from, losses_accepted, start_rounds, kept_length, loss_length}
use Rattle.outcome.specs.Refusals.{Kind, of-kept, of-lost, records, Begins, Malformed, unknown-kind, two_kinds, cut-body, illegal, not_rising}
use Rattle.outcome.specs.declared.Verdict.{Verdict}
use Rattle.outcome.specs.declared.Acceptance.{Acceptance}
use Rattle.task.specs.declared.Refusal.{Refusal}
use Rattle.fra_laws.proofs.Tests.{clash, not_both}
use Rattle.outcome_laws.proofs.Bodies.{Whole, Stops, records_front, stops_here, bodies-some, bodies_none}
use Rattle.outcome_laws.proofs.Orderly.{orderly_fails}

-- ── The two kinds of records ──

kind-cases : {r : ℕ} {c : Contest} {kind size : ℕ} → Kind r c kind size
    → ((kind ≡ kind_of c.kept) × (size ≡ kept_length r)) ⊎ ((kind ≡ kind_of c.lost) × (size ≡ loss_length r))
kind-cases of-kept = inl (refl, refl)
kind-cases of-lost = inr (refl, refl)

module _ (r : ℕ) (c : Contest) (t : Task) where
  -- whether whole records are accepted, and with which verdict and rounds, by their kind
  abbrev pub accepts : {kind size : ℕ} → Kind r c kind size → List (List ℕ) → Bool
  accepts of-kept bs = kept_accepted c.rules t (map (position_of r) bs)
  accepts of-lost bs = losses_accepted c.rules t (map (loss_from r) bs)

  abbrev pub verdict : {kind size : ℕ} → Kind r c kind size → Verdict
  verdict of-kept = c.kept
  verdict of-lost = c.lost

  abbrev pub rounds : {kind size : ℕ} → Kind r c kind size → List (List ℕ) → ℕ
  rounds of-kept bs = 0
  rounds of-lost bs = start_rounds t (map (loss_from r) bs)

  abbrev pub judged : {kind size : ℕ} → Kind r c kind size → List (List ℕ) → Result Acceptance Refusal
  judged k bs = judge_list (orderly r t (map (position_of r) bs)) (accepts k bs) (record { verdict = verdict k; rounds = rounds k bs })

  abbrev check_records : {kind size : ℕ} → Kind r c kind size → Option (List (List ℕ)) → Result Acceptance Refusal
  check_records of-kept = check_kept r c t
  check_records of-lost = check_losses r c t

  records-judged : {kind size : ℕ} (k : Kind r c kind size) (bs : List (List ℕ)) → check_records k (Some bs) ≡ judged k bs
  unfolding check_kept check_losses loss_from
  records-judged of-kept bs = refl
  records-judged of-lost bs = rw (map-map (λ (x : Loss). x.position) (loss_from r) bs)

  none_checked : {kind size : ℕ} (k : Kind r c kind size) → check_records k None ≡ Err Refusal.Malformed
  unfolding check_kept check_losses
  none_checked of-kept = refl
  none_checked of-lost = refl

  none_judged : {kind size : ℕ} (k : Kind r c kind size) → check_task r c t [] ≡ judged k []
  unfolding check_task judge_list orderly all rising kept_accepted losses_accepted any
  none_judged of-kept = refl
  none_judged of-lost = refl

  abbrev begins : {kind size : ℕ} → Kind r c kind size → {l : List ℕ} (bs : List (List ℕ)) (rest : List ℕ) → Whole size bs
      → l ≡ records kind bs ++ rest → Begins r c l rest
  begins {kind} {size} k bs rest w e =
      record { kind = kind; size = size; known = k; bodies = bs; whole = w; begins = e }

  module _ (differ : kind_of c.kept ≢ kind_of c.lost) where
    kind-size : {kind s₁ s₂ : ℕ} → Kind r c kind s₁ → Kind r c kind s₂ → s₁ ≡ s₂
    kind-size j k =
        ⊎_elim
        (λ (d, e). ⊎_elim (λ (f, g). e ∙ sym g) (λ (f, g). absurd (differ (sym d ∙ f))) (kind-cases k))
        (λ (d, e). ⊎_elim (λ (f, g). absurd (differ (sym f ∙ d))) (λ (f, g). e ∙ sym g) (kind-cases k))
        (kind-cases j)

    check-first : {kind size : ℕ} (k : Kind r c kind size) (l : List ℕ)
        → check_task r c t (kind ∷ l) ≡ check_records k (bodies kind size (suc (length (kind ∷ l))) (kind ∷ l))
    unfolding check_task
    check-first of-kept l = rw (eq-eqb (kind_of c.kept) (kind_of c.kept) refl, check_task)
    check-first of-lost l =
        rw (
          ne_eqb (kind_of c.lost) (kind_of c.kept) (λ e. differ (sym e)),
          eq-eqb (kind_of c.lost) (kind_of c.lost) refl,
          check_task,
        )

    pub check-whole : {kind size : ℕ} (k : Kind r c kind size) (bs : List (List ℕ)) → Whole size bs
        → check_task r c t (records kind bs) ≡ judged k bs
    unfolding records flat_map
    check-whole k [] w = none_judged k
    check-whole {kind} {size} k (b ∷ bs) w =
        let l = records kind (b ∷ bs) in
        check-first k (b ++ records kind bs)
        ∙ ap (check_records k) ((bodies-some kind size (suc (length l)) l (omega arith) (b ∷ bs)).1 (refl, w))
        ∙ records-judged k (b ∷ bs)

    -- ── A certificate of whole records is malformed exactly if their positions are not in order ──

    -- where whole records begin a certificate of whole records, they are its first ones
    begins_front : {kind size : ℕ} (k : Kind r c kind size) (bs : List (List ℕ)) → Whole size bs
        → (rest : List ℕ) (s : Begins r c (records kind bs) rest)
        → (ds : List (List ℕ)) × Whole size ds × (bs ≡ s.bodies ++ ds) × (rest ≡ records kind ds)
        × (s.bodies ≢ [] → s.kind ≡ kind)
    unfolding records flat_map
    begins_front {kind} {size} k bs w rest s = step s.kind s.size s.known s.bodies s.whole s.begins
      where
        first : (j : ℕ) (bs : List (List ℕ)) (l : List ℕ) → records kind bs ≡ j ∷ l → j ≡ kind
        first j [] l e = clash (cc)
        first j (b ∷ bs) l e = cc

        step : (kind₁ size₁ : ℕ) → Kind r c kind₁ size₁ → (cs : List (List ℕ)) → Whole size₁ cs
            → records kind bs ≡ records kind₁ cs ++ rest
            → (ds : List (List ℕ)) × Whole size ds × (bs ≡ cs ++ ds) × (rest ≡ records kind ds)
            × (cs ≢ [] → kind₁ ≡ kind)
        step kind₁ size₁ j [] v e = (bs, w, refl, sym e, λ n. absurd (n refl))
        step kind₁ size₁ j (b ∷ cs) v e =
            let f = first kind₁ bs (b ++ records kind₁ cs ++ rest) e in
            let g = kind-size (rw f at j) k in
            let (ds, h, i) = records_front kind size (b ∷ cs) bs rest (rw g at v) w
            (subst (λ (x : ℕ). records kind bs ≡ records x (b ∷ cs) ++ rest) f e) in
            (ds, (λ d m. w d (rw h (Memᴰ.append_right (b ∷ cs) m))), h, i, λ n. f)

    whole_malformed : {kind size : ℕ} (k : Kind r c kind size) (bs : List (List ℕ)) → Whole size bs
        → Malformed r c t (records kind bs) → orderly r t (map (position_of r) bs) ≡ false
    whole_malformed {kind} {size} k bs w (unknown-kind {b} {rest} s u) =
        let (ds, v, e, f, g) = begins_front k bs w (b ∷ rest) s in
        absurd (stops_here kind size ds b rest v (inl (λ i. u size (rw i k))) f)
    whole_malformed {kind} {size} k bs w (two_kinds {b} {rest} s n d) =
        let (ds, v, e, f, g) = begins_front k bs w (b ∷ rest) s in
        absurd (stops_here kind size ds b rest v (inl (λ i. d (i ∙ sym (g n)))) f)
    whole_malformed {kind} {size} k bs w (cut-body {b} {size = size₁} {rest} s j h) =
        let (ds, v, e, f, g) = begins_front k bs w (b ∷ rest) s in
        absurd (stops_here kind size ds b rest v (cut (ℕ_discrete b kind)) f)
      where
        cut : Dec (b ≡ kind) → Stops kind size b rest
        cut (yes i) = let l = kind-size (rw i at j) k in inr (i, omega arith)
        cut (no n) = inl n
    whole_malformed {kind} {size} k bs w (illegal {rest} s body m h) =
        let (ds, v, e, f, g) = begins_front k bs w rest s in
        (orderly_fails r t (position_of r) bs).1 (inl (body, rw e (Memᴰ.append_left ds m), h))
    whole_malformed {kind} {size} k bs w (not_rising {rest} s earlier later b₁ b₂ i h) =
        let (ds, v, e, f, g) = begins_front k bs w rest s in
        (orderly_fails r t (position_of r) bs).1 (inr (record {
          earlier = earlier;
          one = b₁;
          next = b₂;
          later = later ++ ds;
          place = e ∙ ap (λ l. l ++ ds) i ∙ append_assoc earlier (b₁ ∷ b₂ ∷ later) ds;
          falls = h;
        }))

    disorder_malformed : {kind size : ℕ} (k : Kind r c kind size) (bs : List (List ℕ)) → Whole size bs
        → orderly r t (map (position_of r) bs) ≡ false → Malformed r c t (records kind bs)
    disorder_malformed {kind} {size} k bs w h =
        let s = begins k bs [] w (sym (append-nil (records kind bs))) in
        ⊎_elim (λ (body, m, e). illegal s body m e)
        (λ f. not_rising s f.earlier f.later f.one f.next f.place f.falls)
        ((orderly_fails r t (position_of r) bs).0 h)

    -- ── Every certificate is malformed, or whole records of one kind with positions in order ──

    pub record Formed (l : List ℕ) : Type 0 where
      pub kind : ℕ
      pub size : ℕ
      pub known : Kind r c kind size
      pub bodies : List (List ℕ)
      pub whole : Whole size bodies
      pub consists : l ≡ records kind bodies
      pub order : orderly r t (map (position_of r) bodies) ≡ true

    pub data Answer (l : List ℕ) : Type 0 where
      malformed : Malformed r c t l → check_task r c t l ≡ Err Refusal.Malformed → Answer l
      rejected : (f : Formed l) → accepts f.known f.bodies ≡ false → check_task r c t l ≡ Err Refusal.NotAccepted → Answer l
      accepted : (f : Formed l) → accepts f.known f.bodies ≡ true
          → check_task r c t l ≡ Ok (record { verdict = verdict f.known; rounds = rounds f.known f.bodies })
          → Answer l

    answer-whole : {kind size : ℕ} (k : Kind r c kind size) (bs : List (List ℕ)) → Whole size bs → Answer (records kind bs)
    unfolding judge_list
    answer-whole {kind} {size} k bs w = step (orderly r t (map (position_of r) bs)) (accepts k bs) refl refl
      where
        formed : orderly r t (map (position_of r) bs) ≡ true → Formed (records kind bs)
        formed o = record { kind = kind; size = size; known = k; bodies = bs; whole = w; consists = refl; order = o }

        step : (o a : Bool) → orderly r t (map (position_of r) bs) ≡ o → accepts k bs ≡ a → Answer (records kind bs)
        step false a o e = malformed (disorder_malformed k bs w o) (check-whole k bs w ∙ rw o)
        step true false o e = rejected (formed o) e (check-whole k bs w ∙ rw (o, e))
        step true true o e = accepted (formed o) e (check-whole k bs w ∙ rw (o, e))

    answer-first : {kind size : ℕ} (k : Kind r c kind size) (l : List ℕ) → Answer (kind ∷ l)
    unfolding records flat_map
    answer-first {kind} {size} k l = step (bodies kind size (suc (length (kind ∷ l))) (kind ∷ l)) refl
      where
        stops : (bs : List (List ℕ)) (b : ℕ) (rest : List ℕ) → Whole size bs → kind ∷ l ≡ records kind bs ++ b ∷ rest
            → Stops kind size b rest → Malformed r c t (kind ∷ l)
        stops bs b rest w f (inl n) = two_kinds (begins k bs (b ∷ rest) w f) (λ e. n (cc)) n
        stops bs b rest w f (inr (i, h)) = cut-body {size = size} (begins k bs (b ∷ rest) w f) (rw i k) h

        step : (o : Option (List (List ℕ))) → bodies kind size (suc (length (kind ∷ l))) (kind ∷ l) ≡ o → Answer (kind ∷ l)
        step (Some bs) e =
            let (f, w) = (bodies-some kind size (suc (length (kind ∷ l))) (kind ∷ l) (omega arith) bs).0 e in
            rw f (answer-whole k bs w)
        step None e =
            let (bs, b, rest, w, f, s) = bodies_none kind size (suc (length (kind ∷ l))) (kind ∷ l) (omega arith) e in
            malformed (stops bs b rest w f s) (check-first k l ∙ ap (check_records k) e ∙ none_checked k)

    pub answer : (l : List ℕ) → Answer l
    unfolding records flat_map check_task
    answer [] = answer-whole of-kept [] (λ b m. absurd (Memᴰ.not-nil m))
    answer (b ∷ l) = step (ℕ_discrete b (kind_of c.kept)) (ℕ_discrete b (kind_of c.lost))
      where
        step : Dec (b ≡ kind_of c.kept) → Dec (b ≡ kind_of c.lost) → Answer (b ∷ l)
        step (yes e) d = rw e (answer-first of-kept l)
        step (no n) (yes e) = rw e (answer-first of-lost l)
        step (no n) (no m) =
            malformed
            (unknown-kind (begins of-kept [] (b ∷ l) (λ b m. absurd (Memᴰ.not-nil m)) refl)
            (λ size k. ⊎_elim (λ (e, _). n e) (λ (e, _). m e) (kind-cases k)))
            (rw (ne_eqb b (kind_of c.kept) n, ne_eqb b (kind_of c.lost) m, check_task))

    formed_not_malformed : (l : List ℕ) → Formed l → Malformed r c t l → ⊥
    formed_not_malformed l f m =
        not_both (orderly r t (map (position_of r) f.bodies)) f.order
        (whole_malformed f.known f.bodies f.whole (rw f.consists at m))

    -- ── Refusal 13 ──

    pub check-refused_13 : (l : List ℕ) → (check_task r c t l ≡ Err Refusal.Malformed) ↔ Malformed r c t l
    check-refused_13 l = (to (answer l), from (answer l))
      where
        to : Answer l → check_task r c t l ≡ Err Refusal.Malformed → Malformed r c t l
        to (malformed m e) h = m
        to (rejected f a e) h = clash (cc)
        to (accepted f a e) h = clash (cc)

        from : Answer l → Malformed r c t l → check_task r c t l ≡ Err Refusal.Malformed
        from (malformed m e) n = e
        from (rejected f a e) n = absurd (formed_not_malformed l f n)
        from (accepted f a e) n = absurd (formed_not_malformed l f n)
