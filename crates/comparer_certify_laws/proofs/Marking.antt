-- A table of the positions reached in which rounds are doubled and some entries marked: it judges positions as "lost within k
-- rounds" does, its marks are set as the test for marked positions is, and the passes over it mark the positions of the
-- certificate. Assumes nothing.
use Prim.Native.Nat.{ℕ, zero, suc, ◌+◌, ◌*◌, ◌-◌, ◌^◌, ◌≤◌, ◌<◌}
use mathlib.Core.Path.{◌≡◌, refl, sym, ◌∙◌, ap, subst}
use mathlib.Core.Logic.{◌↔◌}
use mathlib.Core.Bool.{Bool, true, false, or-false}
use mathlib.Core.List.Memᴰ
use mathlib.Core.List.{List, [], ◌∷◌, ◌++◌}
use Rattle.std.specs.Prelude.{Option, None, Some}
use native.Mathlib.Omega.{arith}
use native.Mathlib.Numerals.{add-one}
use lib.ListN.{length, get_or}
use lib.Dec.{ltb, eqb}
use borrow.Author.Tests.{eq-eqb, ne_eqb}
use borrow.Author.Count.{below_more}
use Rattle.fra.specs.Lists.{◌∈◌}
use Rattle.fra.specs.Rules.{Rules}
use Rattle.fra.specs.Position.{unmatched}
use Rattle.fra.specs.Game.{lost_within}
use Rattle.fra.specs.Reach.{onward, reached, rounds}
use Rattle.fra.specs.Valid.{Valid}
use Rattle.fra.specs.declared.Position.{Position}
use Rattle.fra.specs.declared.Task.{Task}
use Rattle.fra.specs.declared.Attack.{Attack}
use Rattle.fra_laws.proofs.Tests.{not_both, fails_unless}
use Rattle.fra_laws.proofs.Reached.{reached-rising, reached-after}
use Rattle.fra_laws.proofs.Ranks.{rank-some}
use Rattle.fra_laws.proofs.FixedWidth.{at_member, member_place}
use Rattle.outcome.specs.Check.{same}
use Rattle.outcome.specs.Certificate.{attack_of, attack_leads, loss_step}
use Rattle.outcome_laws.proofs.Accepted.{same_passes}
use Rattle.listing.specs.Widths.{entry_width, entry_rounds}
use Rattle.listing.specs.Words.{put_word}
use Rattle.listing.specs.Listing.{of_table, position_at, positions_in}
use Rattle.listing.specs.Lookup.{place_of}
use Rattle.game_replies.proofs.SameWinner.{winner-same}
use Rattle.game_wins.specs.Judgement.{judged, lost_at}
use Rattle.game_wins.specs.declared.Test.TheVariants.{Sooner}
use Rattle.comparer_rank_laws.specs.Levels.{level}
use Rattle.comparer_rank_laws.specs.EntryRows.{rows}
use Rattle.comparer_rank_laws.proofs.Levels.{chosen-winner, level_judges}
use Rattle.comparer_rank_laws.proofs.RisingPlaces.{rising_once, place_found}
use Rattle.comparer_rank_laws.proofs.EntryRows.{SixPartners, reached_six, rows-positions, rows-position, rows-rounds}
use Rattle.comparer_certify_laws.specs.MarkedRounds.{with_mark, marked_rounds}
use Rattle.comparer_certify_laws.specs.Marking.{rounds_of, marked_at, marked, marked_all, lost_before, attack_by, led_from, stepped, passed, marking}
use Rattle.comparer_certify_laws.proofs.MarkedRounds.{Few, marked-fits, with_mark-marked, marked-below, marked_is}
use Rattle.comparer_certify_laws.proofs.ChangedRounds.{changed_one}
use Rattle.comparer_certify_laws.proofs.MarkedPositions.{also, also_all, also-has, rank_of, leads, Marks, marks-more, Done, done_here, done_still, led_lost, marks-fewer}

-- ── Bytes: the table after one entry, and after one pass ──

-- what the attack of entry i leads to, where it is found
module _ (g : Rules) (t : Task) (n k i : ℕ) (table : List ℕ) where
  abbrev entry : Position
  entry = position_at (of_table n) table i

  pub led_by : {a : Attack} → attack_by g t n table k entry ≡ Some a
      → led_from g t n k i table ≡ marked_all n (attack_leads t entry (Some a)) table
  unfolding led_from
  led_by e = rw e

  pub led_nowhere : attack_by g t n table k entry ≡ None → led_from g t n k i table ≡ table
  unfolding led_from attack_leads marked_all
  led_nowhere e = rw e

module _ (g : Rules) (t : Task) (n k i : ℕ) (first table : List ℕ) (e : table ≡ passed g t n k i first) where
  pub pass_taken : rounds_of table i ≡ k * 2 + 1 → led_from g t n k i table ≡ passed g t n k (i + 1) first
  unfolding passed
  pass_taken h = rw (add-one, ← e, eq-eqb (rounds_of table i) (k * 2 + 1) h)

  pub pass_left : (rounds_of table i ≡ k * 2 + 1 → ⊥) → table ≡ passed g t n k (i + 1) first
  unfolding passed
  pass_left h = rw (add-one, ← e, ne_eqb (rounds_of table i) (k * 2 + 1) h)

-- from k rounds down: k, and then from k - 1 down
pub marking_step : (g : Rules) (t : Task) (n k : ℕ) (table : List ℕ) → 0 < k
    → marking g t n k table ≡ marking g t n (k - 1) (passed g t n k n table)
unfolding marking
marking_step g t n zero table b = absurd (omega arith)
marking_step g t n (suc k) table b = let e : suc k - 1 ≡ k = omega arith in rw e

-- ── The positions reached ──

module _ {t : Task} (valid : Valid 6 t) (g : Rules) (few : length (reached g t) < 2 ^ 30) (rest : List ℕ) where
  abbrev l : List Position
  l = reached g t

  abbrev N : ℕ
  N = length (reached g t)

  abbrev z : Position
  z = unmatched 6 0 0

  six : SixPartners (reached g t)
  six = reached_six g valid

  pub few_rounds : (p : Position) → Few (rank_of valid g p)
  few_rounds p k e = omega (arith, (rank-some g t N p k e).1)

  -- the rounds of a position where the test says which are marked
  abbrev pub word_of : (Position → Bool) → Position → ℕ
  word_of M p = marked_rounds (rank_of valid g p) (M p)

  abbrev pub marked_table : (Position → Bool) → List ℕ
  marked_table M = rows (word_of M) (reached g t) ++ rest

  pub word_fits : (M : Position → Bool) (p : Position) → word_of M p < 2 ^ 32
  word_fits M p = marked-fits (rank_of valid g p) (M p) (few_rounds p)

  -- ── Entries ──

  pub marked-positions : (M : Position → Bool) → positions_in (of_table N) (marked_table M) ≡ reached g t
  marked-positions M = rows-positions (word_of M) l rest six

  module _ (M : Position → Bool) (i : ℕ) (b : i < N) where
    pub marked-position : position_at (of_table N) (marked_table M) i ≡ get_or (reached g t) i z
    marked-position = rows-position (word_of M) l rest six i z b

    pub marked-rounds : rounds_of (marked_table M) i ≡ word_of M (get_or (reached g t) i z)
    marked-rounds = rows-rounds (word_of M) l rest six i z b (word_fits M (get_or l i z))

  -- where a look-up finds a position that was reached, and the rounds there
  record Located (M : Position → Bool) (q : Position) : Type 0 where
    place : ℕ
    within : place < N
    is : get_or (reached g t) place z ≡ q
    found : place_of q (positions_in (of_table N) (marked_table M)) ≡ Some place
    holds : rounds_of (marked_table M) place ≡ word_of M q

  located : (M : Position → Bool) {q : Position} → q ∈ reached g t → Located M q
  located M {q} m =
      let (i, b, e, f) = place_found l z (reached-rising valid g) m in
      record {
        place = i;
        within = b;
        is = e;
        found = ap (place_of q) (marked-positions M) ∙ f;
        holds = marked-rounds M i b ∙ ap (word_of M) e;
      }

  -- ── Marks ──

  pub marked-also : (M : Position → Bool) (q : Position) → q ∈ reached g t
      → marked N q (marked_table M) ≡ marked_table (also q M)
  unfolding marked
  marked-also M q m = at (located M m)
    where
      other : (p : Position) → (p ≡ q → ⊥) → also q M p ≡ M p
      other p d = rw (fails_unless (same p q) (λ h. d (sym ((same_passes p q).0 h)))) (or-false (M p))

      at : Located M q → marked N q (marked_table M) ≡ marked_table (also q M)
      at s =
          ap (marked_at (marked_table M)) s.found
          ∙ ap (λ (n : ℕ). put_word (marked_table M) (s.place * entry_width + entry_rounds) (with_mark n)) s.holds
          ∙ ap (put_word (marked_table M) (s.place * entry_width + entry_rounds))
          (with_mark-marked (rank_of valid g q) (M q)
          ∙ ap (marked_rounds (rank_of valid g q)) (sym (also-has M q))
          ∙ ap (word_of (also q M)) (sym s.is))
          ∙ changed_one l rest six (word_of M) (word_of (also q M)) s.place z s.within
          (λ j b d.
          ap (marked_rounds (rank_of valid g (get_or l j z)))
          (other (get_or l j z) (λ e. d (rising_once l z (reached-rising valid g) j s.place b s.within (e ∙ sym s.is)))))

  pub marked_all_lem : (qs : List Position) (M : Position → Bool) → ((q : Position) → q ∈ qs → q ∈ reached g t)
      → marked_all N qs (marked_table M) ≡ marked_table (also_all qs M)
  unfolding marked_all
  marked_all_lem [] M h = refl
  marked_all_lem (q ∷ qs) M h =
      ap (marked_all N qs) (marked-also M q (h q (Memᴰ.head refl)))
      ∙ marked_all_lem qs (also q M) (λ p m. h p (Memᴰ.tail m))

  -- ── Judgements and attacks ──

  judges : (M : Position → Bool) (k : ℕ) (q : Position) → k ≤ N → q ∈ reached g t
      → lost_before (marked_table M) N (suc k * 2) q ≡ lost_within g t k q
  unfolding judged level
  judges M k q b m =
      let s = located M m in
      ap (lost_at (marked_table M) (of_table N) (Sooner (suc k * 2))) s.found
      ∙ ap (λ (n : ℕ). ltb n (suc k * 2)) s.holds
      ∙ marked-below (rank_of valid g q) (M q) k (omega arith)
      ∙ level_judges g t k N q b (omega arith)

  -- the table finds the attack of a position by its rounds
  pub attack-found : (M : Position → Bool) (p : Position) (k : ℕ) → p ∈ reached g t → rank_of valid g p ≡ Some k
      → attack_by g t N (marked_table M) k p ≡ attack_of g t p (Some k)
  unfolding attack_by attack_of
  attack-found M p zero m e = refl
  attack-found M p (suc k) m e =
      rw (ne_eqb (suc k) 0 (λ d. omega arith))
      (winner-same g t (lost_before (marked_table M) N (suc k * 2)) (lost_within g t k) p
      (λ a n i o. judges M k _ (omega (arith, (rank-some g t N p (suc k) e).1)) (reached-after valid g p a i m n o))
      ∙ sym (chosen-winner g t k p))

  -- what the attack of an entry of k rounds leads to is marked
  led_from_lem : (M : Position → Bool) (i k : ℕ) → i < N → rank_of valid g (get_or (reached g t) i z) ≡ Some k
      → ((q : Position) → q ∈ leads valid g (get_or (reached g t) i z) → q ∈ reached g t)
      → led_from g t N k i (marked_table M) ≡ marked_table (also_all (leads valid g (get_or (reached g t) i z)) M)
  unfolding led_from loss_step
  led_from_lem M i k b e h =
      let p = get_or l i z in
      let table = marked_table M in
      ap (λ (q : Position). marked_all N (attack_leads t q (attack_by g t N table k q)) table) (marked-position M i b)
      ∙ ap (λ (o : Option Attack). marked_all N (attack_leads t p o) table)
      (attack-found M p k (at_member l i z b) e ∙ ap (attack_of g t p) (sym e))
      ∙ marked_all_lem (leads valid g p) M h

  -- ── Passes ──

  module _ (n : ℕ) (lost : rounds g t t.start ≡ Some n) where
    module _ (k : ℕ) (few_more : suc k ≤ N) where
      -- after i entries of a pass
      record Passed (i : ℕ) (table : List ℕ) : Type 0 where
        M : Position → Bool
        is : table ≡ marked_table M
        marks : Marks valid g (suc k) M
        done : (j : ℕ) → j < i → Done valid g (suc k) M (get_or (reached g t) j z)

      module _ (i : ℕ) (b : i < N) (M : Position → Bool) (marks : Marks valid g (suc k) M)
          (done : (j : ℕ) → j < i → Done valid g (suc k) M (get_or (reached g t) j z)) where
        abbrev p : Position
        p = get_or l i z

        test : (eqb (rounds_of (marked_table M) i) (suc k * 2 + 1) ≡ true) ↔ ((rank_of valid g p ≡ Some (suc k)) × (M p ≡ true))
        test = rw (marked-rounds M i b) (marked_is (rank_of valid g p) (M p) (suc k) (omega arith))

        entry-step : (c : Bool) → eqb (rounds_of (marked_table M) i) (suc k * 2 + 1) ≡ c
            → Passed (suc i) (stepped g t N (suc k) i (marked_table M))
        entry-step true e =
            let (r, h) = test.0 e in
            record {
              M = also_all (leads valid g p) M;
              is = rw e (led_from_lem M i (suc k) b r (λ q m. (led_lost valid g n lost (onward (marks.sound p h) m)).1));
              marks = marks-more valid g k M p marks h r;
              done =
                  λ j c.
                  below_more (λ j. Done valid g (suc k) (also_all (leads valid g p) M) (get_or l j z)) i
                  (λ j d. done_still valid g k M p (get_or l j z) r (done j d)) (done_here valid g (suc k) M p) j (omega arith);
            }
        entry-step false e =
            record {
              M = M;
              is = rw e;
              marks = marks;
              done =
                  λ j c.
                  below_more (λ j. Done valid g (suc k) M (get_or l j z)) i done (λ h r. absurd (not_both _ (test.1 (r, h)) e)) j
                  (omega arith);
            }

      pass_first : (M : Position → Bool) → Marks valid g (suc k) M → (i : ℕ) → i ≤ N
          → Passed i (passed g t N (suc k) i (marked_table M))
      unfolding passed
      pass_first M marks zero b = record { M = M; is = refl; marks = marks; done = λ j c. absurd (omega arith) }
      pass_first M marks (suc i) b =
          let s = pass_first M marks i (omega arith) in
          rw s.is (entry-step i b s.M s.marks s.done _ refl)

    -- marks down to k rounds
    pub record Marking (k : ℕ) (table : List ℕ) : Type 0 where
      pub M : Position → Bool
      pub is : table ≡ marked_table M
      pub marks : Marks valid g k M

    pass_all : (k : ℕ) (M : Position → Bool) → suc k ≤ N → Marks valid g (suc k) M
        → Marking k (passed g t N (suc k) N (marked_table M))
    pass_all k M b marks =
        let s = pass_first k b M marks N (omega arith) in
        record {
          M = s.M;
          is = s.is;
          marks =
              marks-fewer valid g n lost k s.M s.marks
              (λ p m.
              let (i, c, e) = member_place z m in
              subst (Done valid g (suc k) s.M) e (s.done i c));
        }

    pub marked_down : (k : ℕ) (M : Position → Bool) → k ≤ N → Marks valid g k M → Marking 0 (marking g t N k (marked_table M))
    unfolding marking
    marked_down zero M b marks = record { M = M; is = refl; marks = marks }
    marked_down (suc k) M b marks =
        let s = pass_all k M b marks in
        rw s.is (marked_down k s.M (omega arith) s.marks)
