-- The task and the game that an index holds.
use Rattle.std.specs.Prelude.{ℕ, ◌+◌, ◌*◌, List, map, get_or, eqb}
use Rattle.fra.specs.Lists.{count}
use Rattle.fra.specs.Model.{kind_of}
use Rattle.fra.specs.Rules.{Rules, rules_of, game_of}
use Rattle.fra.specs.declared.State.{State}
use Rattle.fra.specs.declared.Edge.{Edge}
use Rattle.fra.specs.declared.Model.{Model}
use Rattle.fra.specs.declared.Position.{Position}
use Rattle.fra.specs.declared.Task.{Task}
use Rattle.fra.specs.declared.Side.{Side}
use Rattle.fra.specs.declared.Side.TheVariants.{Left, Right}
use Rattle.fra.specs.declared.Game.{Game}
use Rattle.game_index.specs.Layout.{registers_at, begin_at, state_count_at, edge_count_at, states_at, state_places, state_width}
use Rattle.game_index.specs.Layout.{edges_at, edge_places, edge_width, tag_field, kind_field, register_field, to_field}
use Rattle.game_index.specs.Layout.{side_width, start_at, partners_at, history_at, stated_at, game_at}

-- byte i of a side
abbrev pub side_byte : List ℕ → Side → ℕ → ℕ
side_byte b Left i = get_or b i 0
side_byte b Right i = get_or b (side_width + i) 0

-- byte i of an edge
abbrev pub edge_byte : List ℕ → Side → ℕ → ℕ → ℕ
edge_byte b s k i = side_byte b s (edges_at + edge_width * k + i)

abbrev pub state_in : List ℕ → Side → ℕ → State
state_in b s q =
    record { set = side_byte b s (states_at + state_width * q); mark = side_byte b s (states_at + state_width * q + 1) }

abbrev pub edge_in : List ℕ → Side → ℕ → Edge
edge_in b s k =
    record {
      from = edge_byte b s k 0;
      tag = edge_byte b s k tag_field;
      kind = kind_of (edge_byte b s k kind_field) (edge_byte b s k register_field);
      to = edge_byte b s k to_field;
    }

unfoldable pub model_in : List ℕ → Side → Model
model_in b s =
    record {
      registers = side_byte b s registers_at;
      start = side_byte b s begin_at;
      state_count = side_byte b s state_count_at;
      edge_count = side_byte b s edge_count_at;
      states = map (state_in b s) (count 0 state_places);
      edges = map (edge_in b s) (count 0 edge_places);
    }

-- nine bytes: two states, six partners, the history's size
abbrev pub start_in : List ℕ → Position
start_in b =
    record {
      left = get_or b start_at 0;
      right = get_or b (start_at + 1) 0;
      partners = map (λ i. get_or b (partners_at + i) 0) (count 0 6);
      history = get_or b history_at 0;
    }

unfoldable pub task_in : List ℕ → Task
task_in b =
    record {
      left = model_in b Left;
      right = model_in b Right;
      start = start_in b;
      history_stated = eqb (get_or b stated_at 0) 1;
    }

unfoldable pub game_in : List ℕ → Game
game_in b = game_of (get_or b game_at 0)

abbrev pub rules_in : List ℕ → Rules
rules_in b = rules_of (game_in b)
