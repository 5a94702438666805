-- The widths of what is written in bytes, and where fields stand (01, "Verdict, table, certificate"; 02, ticket 2).
use Rattle.std.specs.Prelude.{ℕ}

-- "four bytes, high byte first"
abbrev pub word_width : ℕ
word_width = 4

-- "eight bytes, left state first"; "A position gains a ninth byte, the history size"
abbrev pub position_width : ℕ
position_width = 9

-- which stands last
abbrev pub history_place : ℕ
history_place = 8

-- "Table entries become 13 bytes": "position, then rounds"
abbrev pub entry_width : ℕ
entry_width = 13

abbrev pub entry_rounds : ℕ
entry_rounds = 9

-- "certificate records 10 and 17": "kind 16, position"
abbrev pub kept_width : ℕ
kept_width = 10

-- "kind 17, position, side, edge, case, rounds"
abbrev pub lost_width : ℕ
lost_width = 17

abbrev pub lost_rounds : ℕ
lost_rounds = 13

-- a record's position follows its kind
abbrev pub record_position : ℕ
record_position = 1
