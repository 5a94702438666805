-- New rounds leave a table its positions. Assumes nothing.
use Prim.Native.Nat.{ℕ, ◌+◌, ◌*◌, ◌<◌}
use mathlib.Core.Path.{◌≡◌, sym, ◌∙◌}
use mathlib.Core.Logic.{inl, inr}
use mathlib.Core.List.{List, map}
use native.Mathlib.Omega.{arith}
use native.Mathlib.Decide.{dec_le}
use lib.ListN.{length, get_or, take, drop, length-take, length-drop}
use lib.Seq.{length-sets, get_or-take, get_or-drop, ext_get_or}
use Rattle.fra.specs.Lists.{count}
use Rattle.outcome.specs.Check.{position_of}
use Rattle.listing.specs.Widths.{position_width, history_place, entry_width, entry_rounds}
use Rattle.listing.specs.Words.{put_word}
use Rattle.listing.specs.Listing.{of_table, positions_in}
use Rattle.listing.proofs.WordLaws.{put_other}

-- bytes that agree on a position's have the same position
module _ (l m : List ℕ) (size : length l ≡ length m) (same : (k : ℕ) → k < position_width → get_or l k 0 ≡ get_or m k 0) where
  partners-same : take 6 (drop 2 l) ≡ take 6 (drop 2 m)
  partners-same =
      ext_get_or 0 (take 6 (drop 2 l)) (take 6 (drop 2 m)) (simp (length-take, length-drop, size))
      (λ k b.
      let c : k < 6 = omega (arith, length-take 6 (drop 2 l)) in
      read l k c ∙ same (2 + k) (omega arith) ∙ sym (read m k c))
    where
      read : (l : List ℕ) (k : ℕ) → k < 6 → get_or (take 6 (drop 2 l)) k 0 ≡ get_or l (2 + k) 0
      read l k c = get_or-take 6 (drop 2 l) k 0 c ∙ get_or-drop 2 l k 0

  position-same : position_of 6 l ≡ position_of 6 m
  unfolding position_of
  position-same =
      λ x.
      record {
        left = same 0 (omega arith) x;
        right = same 1 (omega arith) x;
        partners = partners-same x;
        history = same history_place (omega arith) x;
      }

module _ (t : List ℕ) (i w : ℕ) where
  abbrev u : List ℕ
  u = put_word t (i * entry_width + entry_rounds) w

  -- the bytes of positions are others than those of rounds
  position-kept : (j : ℕ) → position_of 6 (drop (j * entry_width) u) ≡ position_of 6 (drop (j * entry_width) t)
  position-kept j =
      position-same (drop (j * entry_width) u) (drop (j * entry_width) t) (simp (length-drop, length-sets))
      (λ k b.
      get_or-drop (j * entry_width) u k 0
      ∙ put_other t (i * entry_width + entry_rounds) w (j * entry_width + k)
      (elim (dec_le j i) [ yes c ↦ inl (omega arith) | no c ↦ inr (omega arith) ])
      ∙ sym (get_or-drop (j * entry_width) t k 0))

  pub positions-kept : (n : ℕ) → positions_in (of_table n) u ≡ positions_in (of_table n) t
  unfolding positions_in
  positions-kept n = λ x. map (λ j. position-kept j x) (count 0 n)
