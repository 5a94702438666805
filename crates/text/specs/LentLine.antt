-- Text in a lent line: the room that it has, and what it holds once a text is written.
use Rattle.std.specs.Prelude.{ℕ, ◌+◌, ◌*◌, ◌-◌, ◌≤◌, ◌≡◌, List, length}
use lib.Seq.{sets}
use Rattle.listing.specs.Widths.{record_position, lost_rounds}

-- the longest word: FALLS SHORT
abbrev pub longest_word : ℕ
longest_word = 11

-- the longest number with the space in front of it: 4294967295
abbrev pub longest_number : ℕ
longest_number = 11

-- the most numbers, those of a lost position: the bytes between its record's kind and rounds, and the rounds
abbrev pub most_numbers : ℕ
most_numbers = lost_rounds - record_position + 1

-- the room for a line, with the line feed
abbrev pub line_room : ℕ
line_room = longest_word + most_numbers * longest_number + 1

-- a text stands from a place on, and all else is as it was; the place behind it, which is in the line or its end, is returned
pub record Puts (text entry : List ℕ) (at : ℕ) (exit : List ℕ) (r : ℕ) : Type 0 where
  pub written : exit ≡ sets entry at text
  pub behind : r ≡ at + length text
  pub fits : r ≤ line_room
