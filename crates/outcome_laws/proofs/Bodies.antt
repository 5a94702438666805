-- What the checker takes for records is what the bytes are: whole records of one kind, and where it takes none, whole
-- records and then a byte of another kind or a cut body. Assumes nothing.
use Prim.Native.Nat.{ℕ, zero, suc, ◌<◌}
use mathlib.Core.Path.{◌≡◌, refl, sym, ◌∙◌, ap}
use mathlib.Core.Logic.{◌⊎◌, inl, inr, ⊎_elim, ◌≢◌, ◌↔◌}
use mathlib.Core.Bool.{Bool, true, false, ◌&&◌}
use mathlib.Core.List.Memᴰ
use mathlib.Core.List.{List, [], ◌∷◌, ◌++◌, flat_map, append_assoc, append-nil}
use Rattle.std.specs.Prelude.{Option, None, Some}
use native.Mathlib.Omega.{arith}
use lib.ListN.{length, take, drop, length-drop, length-append, take-append-drop}
use lib.Seq.{take_at, drop_at, length-take-le}
use lib.Dec.{eqb, leb}
use borrow.Author.Tests.{eqb-true, eqb-false, leb-true, leb-false}
use Rattle.fra.specs.Lists.{◌∈◌}
use Rattle.outcome.specs.Check.{bodies}
use Rattle.outcome.specs.Refusals.{records}
use Rattle.fra_laws.proofs.Tests.{clash, and_left, and_right, passes_or_fails}

-- every body has this many bytes
abbrev pub Whole : ℕ → List (List ℕ) → Type 0
Whole size bs = (b : List ℕ) → b ∈ bs → length b ≡ size

module _ (kind size : ℕ) where
  -- ── Whole records at the front of whole records ──

  pub records_front : (bs cs : List (List ℕ)) (rest : List ℕ) → Whole size bs → Whole size cs
      → records kind cs ≡ records kind bs ++ rest
      → (ds : List (List ℕ)) × (cs ≡ bs ++ ds) × (rest ≡ records kind ds)
  unfolding records flat_map
  records_front [] cs rest v w e = (cs, refl, sym e)
  records_front (b ∷ bs) [] rest v w e = clash (cc)
  records_front (b ∷ bs) (c ∷ cs) rest v w e =
      let f : c ++ records kind cs ≡ b ++ (records kind bs ++ rest) = cc (append_assoc b (records kind bs) rest) in
      let x = v b (Memᴰ.head refl) in
      let y = w c (Memᴰ.head refl) in
      let p : c ≡ b = cc (ap (take size) f, take_at c (records kind cs) size y, take_at b (records kind bs ++ rest) size x) in
      let q : records kind cs ≡ records kind bs ++ rest =
      cc (ap (drop size) f, drop_at c (records kind cs) size y, drop_at b (records kind bs ++ rest) size x) in
      let (ds, g, h) = records_front bs cs rest (λ d m. v d (Memᴰ.tail m)) (λ d m. w d (Memᴰ.tail m)) q in
      (ds, (cc), h)

  -- the same bytes are the same records
  records_injective : (bs cs : List (List ℕ)) → Whole size bs → Whole size cs → records kind bs ≡ records kind cs → bs ≡ cs
  unfolding records flat_map
  records_injective bs cs v w e =
      let (ds, g, h) = records_front cs bs [] w v (e ∙ sym (append-nil (records kind cs))) in
      g ∙ none_left ds h
    where
      none_left : (ds : List (List ℕ)) → [] ≡ records kind ds → cs ++ ds ≡ cs
      none_left [] h = append-nil cs
      none_left (d ∷ ds) h = clash (cc)

  -- ── What is read ──

  -- a byte of another kind, or one of this kind with too few bytes behind it for a body
  abbrev pub Stops : ℕ → List ℕ → Type 0
  Stops b rest = (b ≢ kind) ⊎ (b ≡ kind) × (length rest < size)

  -- no whole records begin so
  pub stops_here : (bs : List (List ℕ)) (b : ℕ) (rest : List ℕ) → Whole size bs → Stops b rest → b ∷ rest ≡ records kind bs → ⊥
  unfolding records flat_map
  stops_here [] b rest w s e = clash (cc)
  stops_here (c ∷ cs) b rest w (inl d) e = d (cc)
  stops_here (c ∷ cs) b rest w (inr (_, d)) e =
      let f : rest ≡ c ++ records kind cs = cc in
      let g = w c (Memᴰ.head refl) in
      omega (arith, simp length-append at (ap length f))

  pub data Reading (l : List ℕ) : Option (List (List ℕ)) → Type 0 where
    throughout : (bs : List (List ℕ)) → Whole size bs → l ≡ records kind bs → Reading l (Some bs)
    stopped : (bs : List (List ℕ)) (b : ℕ) (rest : List ℕ) → Whole size bs → l ≡ records kind bs ++ b ∷ rest → Stops b rest
        → Reading l None

  bodies_reading : (n : ℕ) (l : List ℕ) → length l < n → Reading l (bodies kind size n l)
  unfolding bodies records flat_map
  bodies_reading zero l h = absurd (omega arith)
  bodies_reading (suc n) [] h = throughout [] (λ b m. absurd (Memᴰ.not-nil m)) refl
  bodies_reading (suc n) (b ∷ l) h =
      step (eqb b kind && leb size (length l)) refl (bodies kind size n (drop size l)) refl
      (bodies_reading n (drop size l) (simp length-drop (omega arith)))
    where
      same : (eqb b kind && leb size (length l)) ≡ true → b ≡ kind
      same e = eqb-true b kind (and_left (eqb b kind) (leb size (length l)) e)

      whole : (eqb b kind && leb size (length l)) ≡ true → (bs : List (List ℕ)) → Whole size bs → Whole size (take size l ∷ bs)
      whole e bs w c m =
          ⊎_elim
          (λ (d : c ≡ take size l).
          ap length d ∙ length-take-le size l (leb-true size (length l) (and_right (eqb b kind) (leb size (length l)) e)))
          (w c)
          (Memᴰ.cases_cons m)

      step : (t : Bool) → (eqb b kind && leb size (length l)) ≡ t
          → (o : Option (List (List ℕ))) → bodies kind size n (drop size l) ≡ o → Reading (drop size l) o
          → Reading (b ∷ l) (bodies kind size (suc n) (b ∷ l))
      step true e o f (throughout bs w g) =
          rw (e, bodies, f) (throughout (take size l ∷ bs) (whole e bs w) (cc (same e, take-append-drop size l)))
      step true e o f (stopped bs c rest w g s) =
          rw (e, bodies, f)
          (stopped (take size l ∷ bs) c rest (whole e bs w)
          (cc (same e, take-append-drop size l, append_assoc (take size l) (records kind bs) (c ∷ rest)))
          s)
      step false e o f r =
          rw (e, bodies)
          (stopped [] b l (λ b m. absurd (Memᴰ.not-nil m)) refl
          (⊎_elim (λ d. inr (eqb-true b kind d, leb-false size (length l) (rw d at e))) (λ d. inl (eqb-false b kind d))
          (passes_or_fails (eqb b kind))))

  -- ── The records that are read are those of which the bytes consist; where none are read, the bytes stop being records ──

  module _ (n : ℕ) (l : List ℕ) (enough : length l < n) where
    pub bodies-some : (bs : List (List ℕ)) → (bodies kind size n l ≡ Some bs) ↔ ((l ≡ records kind bs) × Whole size bs)
    bodies-some bs = (
      λ e. to (rw e at (bodies_reading n l enough)),
      λ (e, w). from e w (bodies kind size n l) (bodies_reading n l enough),
    )
      where
        to : Reading l (Some bs) → (l ≡ records kind bs) × Whole size bs
        to (throughout bs w e) = (e, w)

        from : l ≡ records kind bs → Whole size bs → (o : Option (List (List ℕ))) → Reading l o → o ≡ Some bs
        from e w o (throughout cs v f) = ap {B = Option (List (List ℕ))} Some (records_injective cs bs v w (sym f ∙ e))
        from e w o (stopped cs b rest v f s) =
            let (ds, i, j) = records_front cs bs (b ∷ rest) v w (sym e ∙ f) in
            absurd (stops_here ds b rest (λ d m. w d (rw i (Memᴰ.append_right cs m))) s j)

    pub bodies_none : bodies kind size n l ≡ None
        → (bs : List (List ℕ)) × (b : ℕ) × (rest : List ℕ)
        × Whole size bs × (l ≡ records kind bs ++ b ∷ rest) × Stops b rest
    bodies_none e = to (rw e at (bodies_reading n l enough))
      where
        to : Reading l None
            → (bs : List (List ℕ)) × (b : ℕ) × (rest : List ℕ)
            × Whole size bs × (l ≡ records kind bs ++ b ∷ rest) × Stops b rest
        to (stopped bs b rest w f s) = (bs, b, rest, w, f, s)
