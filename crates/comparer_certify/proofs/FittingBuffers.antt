-- A certificate that fits its buffer, and one that does not: what is answered, and what the buffers then hold. Assumes nothing.
use Prim.Native.Nat.{ℕ, ◌≤◌, ◌<◌}
use mathlib.Core.Path.{refl}
use mathlib.Core.List.{List}
use lib.ListN.{length}
use borrow.Author.Tests.{lt-ltb, le-ltb}
use Rattle.std.specs.Prelude.{Ok, Err}
use Rattle.outcome.specs.Bytes.{then_rest}
use Rattle.comparer_certify.specs.CertifyAnswers.{answer_of, buffer_after, Certifies}

module _ (certificate table buffer : List ℕ) where
  pub too_long_lem : length buffer < length certificate → Certifies certificate table buffer (Err (record {})) table buffer
  unfolding answer_of buffer_after
  too_long_lem b =
      let e = lt-ltb (length buffer) (length certificate) b in
      record { answers = rw (e, answer_of); restored = refl; written = rw (e, buffer_after) }

  pub fits : length certificate ≤ length buffer
      → Certifies certificate table buffer (Ok (length certificate)) table (then_rest certificate buffer)
  unfolding answer_of buffer_after
  fits b =
      let e = le-ltb (length buffer) (length certificate) b in
      record { answers = rw (e, answer_of); restored = refl; written = rw (e, buffer_after) }
