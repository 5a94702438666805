-- A read's bytes go behind those that stand in the room: together they are what the reader no longer has. Assumes nothing.
use Rattle.std.proofs.Common.{◌≡◌, ℕ, ◌+◌, ◌-◌, ◌≤◌, List, ◌++◌, rules, arith, length, take, drop, sym, ap, ◌∙◌, subst, le_refl, drop_at, length-take-le}
use Rattle.std.proofs.lemmas.Slice.{take-put_mid_below}
use Rattle.std.specs.Io.KnownBytes.{Consumes}
use Rattle.std.proofs.KnownBytes.{Consumes-trans}
use borrow.Rule.Slice.PartMut.{put_mid, post_of}
use lib.Seq.{take-add, take-append-le}
use Rattle.reading.proofs.read_full.Goals as goal

-- the first n bytes of what a read left in the room from place a on
take_part : (a k n : ℕ) (room part : List ℕ) → a ≤ length room → n ≤ length part
    → take n (drop a (put_mid a k room part)) ≡ take n part
take_part a k n room part within fits =
    ap (take n) (drop_at (take a room) (part ++ post_of a k room) a (length-take-le a room within))
    ∙ take-append-le n part (post_of a k room) fits

-- the bytes before place a, and then those of the read
joined : (a k n : ℕ) (room part : List ℕ) → a ≤ length room → n ≤ length part
    → take a room ++ take n part ≡ take (a + n) (put_mid a k room part)
joined a k n room part within fits =
    ap (λ l. l ++ take n part) (sym (take-put_mid_below _ _ _ _ _ (le_refl a) within))
    ∙ ap (λ l. take a (put_mid a k room part) ++ l) (sym (take_part a k n room part within fits))
    ∙ sym (take-add a n (put_mid a k room part))

pub loop-done-preserved : goal.loop-done-preserved
loop-done-preserved g c =
    let from = c.loop-done.done in
    let room = c.loop-done.room in
    let n = c.in_ok-n.n in
    let part = c.read.new.buf in
    let within = c.loop-done.invariant.0 in (
      search rules,
      search rules,
      subst (Consumes _ _) (joined from (length room - from) n room part within c.in_ok-n.ensures.bound.0)
          (Consumes-trans _ _ _ _ _ c.loop-done.invariant.2 c.in_ok-n.ensures.bytes.0),
    )
