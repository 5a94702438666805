-- What reading a file answers.
use Rattle.std.specs.Prelude.{ℕ, ◌≤◌, List, length, Option, IfSome}

-- so many bytes, if the file could be read, are no more than the room for them
abbrev pub Within : Option ℕ → List ℕ → Type 0
Within r room = IfSome r (λ n. n ≤ length room)
