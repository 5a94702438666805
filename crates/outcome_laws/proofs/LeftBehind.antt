-- What a verdict leaves behind: the table holds the positions reached with their rounds, the certificate of a start that is never
-- lost the positions that are never lost, and that of a lost start what the first attacks lead to, each with its first attack. For
-- any contest and any valid task. Assumes nothing.
use Prim.Native.Nat.{ℕ, zero, suc}
use mathlib.Core.Path.{◌≡◌, refl, sym, subst}
use mathlib.Core.Logic.{inl, inr}
use mathlib.Core.List.Memᴰ
use mathlib.Core.List.{map}
use Rattle.std.specs.Prelude.{Option, None, Some}
use Rattle.fra.specs.Lists.{◌∈◌}
use Rattle.fra.specs.Rules.{Rules}
use Rattle.fra.specs.Game.{HasRank}
use Rattle.fra.specs.Reach.{reached, rank}
use Rattle.fra.specs.Valid.{Valid}
use Rattle.fra.specs.declared.Position.{Position}
use Rattle.fra.specs.declared.Task.{Task}
use Rattle.fra_laws.proofs.Lists.{map_undone}
use Rattle.fra_laws.proofs.StringsInARow.{flat_map-map}
use Rattle.fra_laws.proofs.Reached.{reached-exactly, reached-rising}
use Rattle.fra_laws.proofs.Ranks.{rank_never}
use Rattle.outcome.specs.Verdicts.{Contest}
use Rattle.outcome.specs.Certificate.{rounds_or_never, entry, entries, kept_positions, Loss, attack_of, loss_with, loss_of, losses, certificate_by}
use Rattle.outcome.specs.Listed.{RoundsOf, Entry, entry_bytes, TableHolds, KeptWritten, LossOf, LossesWritten}
use Rattle.outcome_laws.proofs.FirstAttacks.{chosen-first, ranked-first}
use Rattle.outcome_laws.proofs.WrittenLists.{N, reached-closed, rank-found, kept-exactly, kept-rising, listed, listed_computes, led_ranked, led_reached, led_exactly, losses-places}

module _ {r : ℕ} {t : Task} (valid : Valid r t) (g : Rules) where
  -- ── The table ──

  entry_of : Position → Entry
  entry_of p = record { position = p; rounds = rounds_or_never (rank g t (N valid g) p) }

  rounds-of : (p : Position) → p ∈ reached g t → RoundsOf g t p (rounds_or_never (rank g t (N valid g) p))
  rounds-of p m = by (rank g t (N valid g) p) refl
    where
      by : (o : Option ℕ) → rank g t (N valid g) p ≡ o → RoundsOf g t p (rounds_or_never (rank g t (N valid g) p))
      by None e = rw e (inr ((rank_never g t (reached g t) (reached-closed valid g) p m).0 e, refl))
      by (Some k) e = rw e (inl ((rank-found valid g p k m).0 e))

  pub table-left : TableHolds g t (entries g t)
  unfolding entries entry entry_bytes entry_of
  table-left =
      record {
        entries = map entry_of (reached g t);
        encoded = sym (flat_map-map entry_bytes entry_of (reached g t));
        rising = rw same-positions (reached-rising valid g);
        exactly = λ p. rw same-positions (reached-exactly valid g p);
        rounds =
            λ e m.
            let (p, i, f) = Memᴰ.of_map entry_of (reached g t) m in
            subst (λ (x : Entry). RoundsOf g t x.position x.rounds) f (rounds-of p i);
      }
    where
      same-positions : map (λ (e : Entry). e.position) (map entry_of (reached g t)) ≡ reached g t
      same-positions = map_undone entry_of (λ (e : Entry). e.position) (reached g t) (λ p m. refl)

  -- ── A record of a lost start's certificate ──

  loss_says : (p : Position) (k : ℕ) → p ∈ reached g t → HasRank g t p k → LossOf g t (loss_of g t (N valid g) p)
  unfolding loss_of loss_with attack_of
  loss_says p zero m h =
      rw ((rank-found valid g p 0 m).1 h)
      (record { has-rank = h; names = inl (record { rounds = refl; side = refl; edge = refl; case = refl }) })
  loss_says p (suc k) m h =
      let (a, f) = ranked-first g t k p h in
      rw ((rank-found valid g p (suc k) m).1 h, (chosen-first g t k p a).1 f)
      (record {
        has-rank = h;
        names =
            inr (record { attack = a; fewer = k; rounds = refl; first = f; side = refl; edge = refl; case = refl });
      })

-- ── The certificates ──

module _ {r : ℕ} {t : Task} (valid : Valid r t) (c : Contest) where
  abbrev g : Rules
  g = c.rules

  pub kept-left : KeptWritten c t (certificate_by c t None)
  unfolding certificate_by
  kept-left =
      record {
        positions = kept_positions g t;
        encoded = refl;
        rising = kept-rising valid g;
        exactly = kept-exactly valid g;
      }

  pub losses-left : (n : ℕ) → HasRank g t t.start n → LossesWritten c t (certificate_by c t (Some n))
  unfolding certificate_by losses
  losses-left n h =
      record {
        losses = losses g t;
        encoded = refl;
        rising = rw (losses-places valid g) (listed_computes valid g).rising;
        exactly = λ p. rw (losses-places valid g) (led_exactly valid g p);
        each = each;
      }
    where
      each : (x : Loss) → x ∈ losses g t → LossOf g t x
      each x m =
          let (p, i, f) = Memᴰ.of_map (loss_of g t (N valid g)) (listed valid g) m in
          let led = (led_exactly valid g p).0 i in
          let (k, s) = led_ranked h led in
          subst (LossOf g t) f (loss_says valid g p k (led_reached valid g led) s)
