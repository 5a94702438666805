-- Where the parts of an index stand: the left side's bytes, the right side's, the start and its history, the game.
use Rattle.std.specs.Prelude.{ℕ}

-- ── A side's bytes: "registers, states, start state", then its states, its edges, and the first edge of each code ──

abbrev pub registers_at : ℕ
registers_at = 0

abbrev pub begin_at : ℕ
begin_at = 1

abbrev pub state_count_at : ℕ
state_count_at = 2

abbrev pub edge_count_at : ℕ
edge_count_at = 3

-- "1 to 16 states", two bytes each: register set, end mark
abbrev pub states_at : ℕ
states_at = 4

abbrev pub state_places : ℕ
state_places = 16

abbrev pub state_width : ℕ
state_width = 2

-- "at most 64 edges", eight bytes each: from, tag, kind, register, to, register set of the to state, whether a register is
-- dropped, and a spare one
abbrev pub edges_at : ℕ
edges_at = 36

abbrev pub edge_places : ℕ
edge_places = 64

abbrev pub edge_width : ℕ
edge_width = 8

abbrev pub tag_field : ℕ
tag_field = 1

abbrev pub kind_field : ℕ
kind_field = 2

abbrev pub register_field : ℕ
register_field = 3

abbrev pub to_field : ℕ
to_field = 4

abbrev pub to_set_field : ℕ
to_set_field = 5

abbrev pub drops_field : ℕ
drops_field = 6

-- "a tag 0 to 31", and room for four kinds
abbrev pub tag_places : ℕ
tag_places = 32

abbrev pub kind_places : ℕ
kind_places = 4

abbrev pub codes : ℕ
codes = 2048

abbrev pub firsts_at : ℕ
firsts_at = 548

abbrev pub side_width : ℕ
side_width = 2597

-- ── After the sides ──

abbrev pub start_at : ℕ
start_at = 5194

-- behind the start's states its partners and the history's size
abbrev pub partners_at : ℕ
partners_at = 5196

abbrev pub history_at : ℕ
history_at = 5202

-- 1 where the task states that size
abbrev pub stated_at : ℕ
stated_at = 5203

abbrev pub game_at : ℕ
game_at = 5204

abbrev pub size : ℕ
size = 5205
