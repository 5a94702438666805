-- Words written into bytes.
use Rattle.std.specs.Prelude.{ℕ, List}
use lib.Seq.{sets}
use Rattle.outcome.specs.Bytes.{word}

-- the bytes with a word written from a place on
abbrev pub put_word : List ℕ → ℕ → ℕ → List ℕ
put_word l i n = sets l i (word n)
