-- Bytes that are written behind others. Assumes nothing.
use Rattle.std.proofs.Common.{◌≡◌, refl, sym, ◌∙◌, ℕ, ◌+◌, ◌≤◌, List, ◌++◌, append_assoc, arith}
use lib.ListN.{length, take, drop, replicate, length-replicate, length-drop}
use lib.Seq.{sets, sets-eq, drop-drop, length-take-le}
use borrow.Rule.Slice.PartMut.{put_mid}
use Rattle.fra_laws.proofs.FixedWidth.{sets_append}

-- a string that is written right behind another
pub sets_behind : (old : List ℕ) (at : ℕ) (a b : List ℕ) (place : ℕ) → place ≡ at + length a
    → sets (sets old at a) place b ≡ sets old at (a ++ b)
sets_behind old at a b place e = rw e (sym (sets_append old at a b))

-- a part that is written at once
pub put_mid-sets : (a k : ℕ) (l ys vs : List ℕ) → ys ≡ vs → length vs ≡ k → a + k ≤ length l → put_mid a k l ys ≡ sets l a vs
put_mid-sets a k l ys vs e n h = rw (e, sets-eq vs l a (omega arith), n, drop-drop, append_assoc) refl

-- and one that is filled with a value
pub put_mid-filled : (a k : ℕ) (l ys : List ℕ) (v : ℕ) → ys ≡ replicate (length (take k (drop a l))) v → a + k ≤ length l
    → put_mid a k l ys ≡ sets l a (replicate k v)
put_mid-filled a k l ys v e h =
    let room : k ≤ length (drop a l) = rw length-drop (omega arith) in
    put_mid-sets a k l ys (replicate k v) (e ∙ rw (length-take-le k (drop a l) room)) (length-replicate k v) h
