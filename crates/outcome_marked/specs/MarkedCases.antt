-- 01, "Sample pairs": the marked cases, each a call of the comparer and what it must give; and further cases of the same form
-- for the mistakes that no marked case shows.
use Rattle.std.specs.Prelude.{ℕ, Bool, true, ◌&&◌, replicate, eqb, Option, None, Some}
use mathlib.Core.List.{List, [], ◌∷◌, ◌++◌, flat_map}
use Rattle.outcome.specs.Verdicts.{contest_of, Values, values_of}
use Rattle.fra.specs.declared.Game.{Game}
use Rattle.fra.specs.declared.Game.TheVariants.{BothAttack, LeftAttacks}
use Rattle.fra.specs.Lists as Lists
use Rattle.fra.specs.Registers as Registers
use Rattle.fra.specs.Model as Model
use Rattle.fra.specs.Position as Position
use Rattle.fra.specs.Game as Play
use Rattle.fra.specs.Reach as Reach
use Rattle.task.specs.TaskFile as TaskFile
use Rattle.outcome.specs.Bytes as Bytes
use Rattle.outcome.specs.Certificate as Certificate
use Rattle.outcome.specs.Compare as Compare

-- what the table and the certificate buffer hold after a call
pub record Buffers : Type 0 where
  pub table : List ℕ
  pub certificate : List ℕ

-- a call of the comparer by a game with buffers of these lengths, the numbers that it must return and, where stated, the bytes
-- that it must leave
pub record Case : Type 0 where
  pub game : Game
  pub file : List ℕ
  pub table : ℕ
  pub buffer : ℕ
  pub expected : Values
  pub left_behind : Option Buffers

abbrev pub equals : ℕ → ℕ → Values
equals positions length = record { refusal = 0; verdict = 16; positions = positions; rounds = 0; length = length }

abbrev pub differs : ℕ → ℕ → ℕ → Values
differs positions rounds length =
    record { refusal = 0; verdict = 17; positions = positions; rounds = rounds; length = length }

abbrev pub follows : ℕ → ℕ → Values
follows positions length = record { refusal = 0; verdict = 18; positions = positions; rounds = 0; length = length }

abbrev pub falls_short : ℕ → ℕ → ℕ → Values
falls_short positions rounds length =
    record { refusal = 0; verdict = 19; positions = positions; rounds = rounds; length = length }

abbrev pub refuses : ℕ → Values
refuses n = record { refusal = n; verdict = 0; positions = 0; rounds = 0; length = 0 }

-- ── Models: end marks 0, start state 0 and the same register set in every state, where not said ──

-- model P
abbrev pub P : List ℕ
P =
    0x01 ∷ 0x01 ∷ 0x02 ∷ 0x00
    ∷ 0x02 ∷ 0x00 ∷ 0x00 ∷ 0x00
    ∷ 0x02 ∷ 0x01 ∷ 0x01 ∷ 0x00
    ∷ 0x03 ∷ 0x00 ∷ 0x00 ∷ 0x01 ∷ 0x01 ∷ 0x01
    ∷ 0x03 ∷ 0x01 ∷ 0x01 ∷ 0x00 ∷ 0x01 ∷ 0x01 ∷ []

-- model G: P with kind 02 in its first edge
abbrev pub G : List ℕ
G =
    0x01 ∷ 0x01 ∷ 0x02 ∷ 0x00
    ∷ 0x02 ∷ 0x00 ∷ 0x00 ∷ 0x00
    ∷ 0x02 ∷ 0x01 ∷ 0x01 ∷ 0x00
    ∷ 0x03 ∷ 0x00 ∷ 0x00 ∷ 0x02 ∷ 0x01 ∷ 0x01
    ∷ 0x03 ∷ 0x01 ∷ 0x01 ∷ 0x00 ∷ 0x01 ∷ 0x01 ∷ []

-- P with two registers, using register 2
abbrev pub P₂ : List ℕ
P₂ =
    0x01 ∷ 0x02 ∷ 0x02 ∷ 0x00
    ∷ 0x02 ∷ 0x00 ∷ 0x00 ∷ 0x00
    ∷ 0x02 ∷ 0x01 ∷ 0x02 ∷ 0x00
    ∷ 0x03 ∷ 0x00 ∷ 0x00 ∷ 0x01 ∷ 0x02 ∷ 0x01
    ∷ 0x03 ∷ 0x01 ∷ 0x01 ∷ 0x00 ∷ 0x02 ∷ 0x01 ∷ []

-- one state that holds register 1, with a known loop
abbrev pub loop : List ℕ
loop =
    0x01 ∷ 0x01 ∷ 0x01 ∷ 0x00
    ∷ 0x02 ∷ 0x00 ∷ 0x01 ∷ 0x00
    ∷ 0x03 ∷ 0x00 ∷ 0x00 ∷ 0x00 ∷ 0x01 ∷ 0x00 ∷ []

-- one state with end mark 1 and no edges
abbrev pub marked_1 : List ℕ
marked_1 =
    0x01 ∷ 0x00 ∷ 0x01 ∷ 0x00
    ∷ 0x02 ∷ 0x00 ∷ 0x00 ∷ 0x01 ∷ []

-- one state with end mark 0 and no edges
abbrev pub marked_0 : List ℕ
marked_0 =
    0x01 ∷ 0x00 ∷ 0x01 ∷ 0x00
    ∷ 0x02 ∷ 0x00 ∷ 0x00 ∷ 0x00 ∷ []

-- a known edge of a register outside its set
abbrev pub outside : List ℕ
outside =
    0x01 ∷ 0x01 ∷ 0x01 ∷ 0x00
    ∷ 0x02 ∷ 0x00 ∷ 0x00 ∷ 0x00
    ∷ 0x03 ∷ 0x00 ∷ 0x00 ∷ 0x00 ∷ 0x01 ∷ 0x00 ∷ []

-- 0-0-1, 1-1-2, 1-2-2: known edges of register 1, which every state holds
abbrev pub fork_late : List ℕ
fork_late =
    0x01 ∷ 0x01 ∷ 0x03 ∷ 0x00
    ∷ 0x02 ∷ 0x00 ∷ 0x01 ∷ 0x00
    ∷ 0x02 ∷ 0x01 ∷ 0x01 ∷ 0x00
    ∷ 0x02 ∷ 0x02 ∷ 0x01 ∷ 0x00
    ∷ 0x03 ∷ 0x00 ∷ 0x00 ∷ 0x00 ∷ 0x01 ∷ 0x01
    ∷ 0x03 ∷ 0x01 ∷ 0x01 ∷ 0x00 ∷ 0x01 ∷ 0x02
    ∷ 0x03 ∷ 0x01 ∷ 0x02 ∷ 0x00 ∷ 0x01 ∷ 0x02 ∷ []

-- 0-0-1, 0-0-2, 1-1-3, 2-2-3: known edges of register 1, which every state holds
abbrev pub fork_early : List ℕ
fork_early =
    0x01 ∷ 0x01 ∷ 0x04 ∷ 0x00
    ∷ 0x02 ∷ 0x00 ∷ 0x01 ∷ 0x00
    ∷ 0x02 ∷ 0x01 ∷ 0x01 ∷ 0x00
    ∷ 0x02 ∷ 0x02 ∷ 0x01 ∷ 0x00
    ∷ 0x02 ∷ 0x03 ∷ 0x01 ∷ 0x00
    ∷ 0x03 ∷ 0x00 ∷ 0x00 ∷ 0x00 ∷ 0x01 ∷ 0x01
    ∷ 0x03 ∷ 0x00 ∷ 0x00 ∷ 0x00 ∷ 0x01 ∷ 0x02
    ∷ 0x03 ∷ 0x01 ∷ 0x01 ∷ 0x00 ∷ 0x01 ∷ 0x03
    ∷ 0x03 ∷ 0x02 ∷ 0x02 ∷ 0x00 ∷ 0x01 ∷ 0x03 ∷ []

-- no register held, a locally fresh loop that drops the number
abbrev pub dropper : List ℕ
dropper =
    0x01 ∷ 0x01 ∷ 0x01 ∷ 0x00
    ∷ 0x02 ∷ 0x00 ∷ 0x00 ∷ 0x00
    ∷ 0x03 ∷ 0x00 ∷ 0x00 ∷ 0x01 ∷ 0x01 ∷ 0x00 ∷ []

-- register 1 held, a locally fresh loop that writes register 2 and drops it
abbrev pub holder : List ℕ
holder =
    0x01 ∷ 0x02 ∷ 0x01 ∷ 0x00
    ∷ 0x02 ∷ 0x00 ∷ 0x01 ∷ 0x00
    ∷ 0x03 ∷ 0x00 ∷ 0x00 ∷ 0x01 ∷ 0x02 ∷ 0x00 ∷ []

-- as holder, and a known loop on register 1
abbrev pub teller : List ℕ
teller =
    0x01 ∷ 0x02 ∷ 0x01 ∷ 0x00
    ∷ 0x02 ∷ 0x00 ∷ 0x01 ∷ 0x00
    ∷ 0x03 ∷ 0x00 ∷ 0x00 ∷ 0x00 ∷ 0x01 ∷ 0x00
    ∷ 0x03 ∷ 0x00 ∷ 0x00 ∷ 0x01 ∷ 0x02 ∷ 0x00 ∷ []

-- registers 1 and 2 held, a locally fresh loop with tag 1 that writes register 1
abbrev pub swapper : List ℕ
swapper =
    0x01 ∷ 0x02 ∷ 0x01 ∷ 0x00
    ∷ 0x02 ∷ 0x00 ∷ 0x03 ∷ 0x00
    ∷ 0x03 ∷ 0x00 ∷ 0x01 ∷ 0x01 ∷ 0x01 ∷ 0x00 ∷ []

-- 0-0-1, 1-0-2, known edges of register 1, end mark 1 in state 1
abbrev pub marked-middle : List ℕ
marked-middle =
    0x01 ∷ 0x01 ∷ 0x03 ∷ 0x00
    ∷ 0x02 ∷ 0x00 ∷ 0x01 ∷ 0x00
    ∷ 0x02 ∷ 0x01 ∷ 0x01 ∷ 0x01
    ∷ 0x02 ∷ 0x02 ∷ 0x01 ∷ 0x00
    ∷ 0x03 ∷ 0x00 ∷ 0x00 ∷ 0x00 ∷ 0x01 ∷ 0x01
    ∷ 0x03 ∷ 0x01 ∷ 0x00 ∷ 0x00 ∷ 0x01 ∷ 0x02 ∷ []

-- as marked-middle, with end marks 0
abbrev pub plain_middle : List ℕ
plain_middle =
    0x01 ∷ 0x01 ∷ 0x03 ∷ 0x00
    ∷ 0x02 ∷ 0x00 ∷ 0x01 ∷ 0x00
    ∷ 0x02 ∷ 0x01 ∷ 0x01 ∷ 0x00
    ∷ 0x02 ∷ 0x02 ∷ 0x01 ∷ 0x00
    ∷ 0x03 ∷ 0x00 ∷ 0x00 ∷ 0x00 ∷ 0x01 ∷ 0x01
    ∷ 0x03 ∷ 0x01 ∷ 0x00 ∷ 0x00 ∷ 0x01 ∷ 0x02 ∷ []

-- two models whose difference shows in 3 rounds, on a way that passes a position again before it is settled
abbrev pub returning : List ℕ
returning =
    0x01 ∷ 0x01 ∷ 0x04 ∷ 0x00
    ∷ 0x02 ∷ 0x00 ∷ 0x01 ∷ 0x00
    ∷ 0x02 ∷ 0x01 ∷ 0x01 ∷ 0x00
    ∷ 0x02 ∷ 0x02 ∷ 0x01 ∷ 0x00
    ∷ 0x02 ∷ 0x03 ∷ 0x01 ∷ 0x00
    ∷ 0x03 ∷ 0x00 ∷ 0x00 ∷ 0x00 ∷ 0x01 ∷ 0x01
    ∷ 0x03 ∷ 0x00 ∷ 0x00 ∷ 0x00 ∷ 0x01 ∷ 0x02
    ∷ 0x03 ∷ 0x00 ∷ 0x03 ∷ 0x00 ∷ 0x01 ∷ 0x01
    ∷ 0x03 ∷ 0x01 ∷ 0x01 ∷ 0x00 ∷ 0x01 ∷ 0x01
    ∷ 0x03 ∷ 0x01 ∷ 0x02 ∷ 0x00 ∷ 0x01 ∷ 0x01
    ∷ 0x03 ∷ 0x02 ∷ 0x01 ∷ 0x00 ∷ 0x01 ∷ 0x03
    ∷ 0x03 ∷ 0x03 ∷ 0x01 ∷ 0x00 ∷ 0x01 ∷ 0x02
    ∷ 0x03 ∷ 0x03 ∷ 0x02 ∷ 0x00 ∷ 0x01 ∷ 0x03 ∷ []

abbrev pub returning-other : List ℕ
returning-other =
    0x01 ∷ 0x01 ∷ 0x04 ∷ 0x00
    ∷ 0x02 ∷ 0x00 ∷ 0x01 ∷ 0x00
    ∷ 0x02 ∷ 0x01 ∷ 0x01 ∷ 0x00
    ∷ 0x02 ∷ 0x02 ∷ 0x01 ∷ 0x00
    ∷ 0x02 ∷ 0x03 ∷ 0x01 ∷ 0x00
    ∷ 0x03 ∷ 0x00 ∷ 0x00 ∷ 0x00 ∷ 0x01 ∷ 0x01
    ∷ 0x03 ∷ 0x00 ∷ 0x00 ∷ 0x00 ∷ 0x01 ∷ 0x03
    ∷ 0x03 ∷ 0x00 ∷ 0x03 ∷ 0x00 ∷ 0x01 ∷ 0x02
    ∷ 0x03 ∷ 0x01 ∷ 0x01 ∷ 0x00 ∷ 0x01 ∷ 0x02
    ∷ 0x03 ∷ 0x02 ∷ 0x01 ∷ 0x00 ∷ 0x01 ∷ 0x01
    ∷ 0x03 ∷ 0x02 ∷ 0x02 ∷ 0x00 ∷ 0x01 ∷ 0x02
    ∷ 0x03 ∷ 0x03 ∷ 0x01 ∷ 0x00 ∷ 0x01 ∷ 0x03
    ∷ 0x03 ∷ 0x03 ∷ 0x02 ∷ 0x00 ∷ 0x01 ∷ 0x03 ∷ []

-- 0-0-0, 0-1-1 and 1-2-1: locally fresh edges of register 1, which no state holds
abbrev pub forgetting : List ℕ
forgetting =
    0x01 ∷ 0x01 ∷ 0x02 ∷ 0x00
    ∷ 0x02 ∷ 0x00 ∷ 0x00 ∷ 0x00
    ∷ 0x02 ∷ 0x01 ∷ 0x00 ∷ 0x00
    ∷ 0x03 ∷ 0x00 ∷ 0x00 ∷ 0x01 ∷ 0x01 ∷ 0x00
    ∷ 0x03 ∷ 0x00 ∷ 0x01 ∷ 0x01 ∷ 0x01 ∷ 0x01
    ∷ 0x03 ∷ 0x01 ∷ 0x02 ∷ 0x01 ∷ 0x01 ∷ 0x01 ∷ []

-- 0-0-0 and 0-1-1, each with register 1 and with register 2: locally fresh edges, and no state holds a register
abbrev pub forgetting_two : List ℕ
forgetting_two =
    0x01 ∷ 0x02 ∷ 0x02 ∷ 0x00
    ∷ 0x02 ∷ 0x00 ∷ 0x00 ∷ 0x00
    ∷ 0x02 ∷ 0x01 ∷ 0x00 ∷ 0x00
    ∷ 0x03 ∷ 0x00 ∷ 0x00 ∷ 0x01 ∷ 0x01 ∷ 0x00
    ∷ 0x03 ∷ 0x00 ∷ 0x00 ∷ 0x01 ∷ 0x02 ∷ 0x00
    ∷ 0x03 ∷ 0x00 ∷ 0x01 ∷ 0x01 ∷ 0x01 ∷ 0x01
    ∷ 0x03 ∷ 0x00 ∷ 0x01 ∷ 0x01 ∷ 0x02 ∷ 0x01 ∷ []

-- ── The cases ──

abbrev pub end : List ℕ
end = 0x0f ∷ []

-- a call with room to spare: eight entries of 13 bytes and five spare bytes, 100 bytes for the certificate
abbrev pub call : List ℕ → Values → Case
call file expected =
    record { game = BothAttack; file = file; table = 109; buffer = 100; expected = expected; left_behind = None }

abbrev pub call_one_way : List ℕ → Values → Case
call_one_way file expected =
    record { game = LeftAttacks; file = file; table = 109; buffer = 100; expected = expected; left_behind = None }

abbrev pub lending : ℕ → ℕ → List ℕ → Values → Case
lending table buffer file expected =
    record { game = BothAttack; file = file; table = table; buffer = buffer; expected = expected; left_behind = None }

abbrev pub leaving : List ℕ → List ℕ → List ℕ → Values → Case
leaving table certificate file expected =
    record {
      game = BothAttack;
      file = file;
      table = 109;
      buffer = 100;
      expected = expected;
      left_behind = Some (record { table = table; certificate = certificate });
    }

-- case 2: 17, the start, side 1, edge 0, case 7, 1 round; and then the buffer as it was
abbrev pub certificate_2 : List ℕ
certificate_2 =
    0x11 ∷ 0x00 ∷ 0x00 ∷ 0x00 ∷ 0x00 ∷ 0x00 ∷ 0x00 ∷ 0x00 ∷ 0x00 ∷ 0x0d ∷ 0x01 ∷ 0x00 ∷ 0x07 ∷ 0x00 ∷ 0x00 ∷ 0x00 ∷ 0x01
    ∷ replicate 83 85

-- case 2: the start with 1 round; the position after the first edges, never lost; and then zeros
abbrev pub table_2 : List ℕ
table_2 =
    0x00 ∷ 0x00 ∷ 0x00 ∷ 0x00 ∷ 0x00 ∷ 0x00 ∷ 0x00 ∷ 0x00 ∷ 0x0d ∷ 0x00 ∷ 0x00 ∷ 0x00 ∷ 0x01
    ∷ 0x01 ∷ 0x01 ∷ 0x01 ∷ 0x00 ∷ 0x00 ∷ 0x00 ∷ 0x00 ∷ 0x00 ∷ 0x0d ∷ 0xff ∷ 0xff ∷ 0xff ∷ 0xff
    ∷ replicate 83 0

-- two rewritten registers: the position after a round, in which only the two registers written are partners, is lost in 1
-- round by side 1, edge 0, case 2; the start in 2 by side 1, edge 0, case 7
abbrev pub table_rewritten : List ℕ
table_rewritten =
    0x00 ∷ 0x00 ∷ 0x01 ∷ 0x00 ∷ 0x00 ∷ 0x00 ∷ 0x00 ∷ 0x00 ∷ 0x0d ∷ 0x00 ∷ 0x00 ∷ 0x00 ∷ 0x01
    ∷ 0x00 ∷ 0x00 ∷ 0x02 ∷ 0x01 ∷ 0x00 ∷ 0x00 ∷ 0x00 ∷ 0x00 ∷ 0x0d ∷ 0x00 ∷ 0x00 ∷ 0x00 ∷ 0x02
    ∷ replicate 83 0

abbrev pub certificate_rewritten : List ℕ
certificate_rewritten =
    0x11 ∷ 0x00 ∷ 0x00 ∷ 0x01 ∷ 0x00 ∷ 0x00 ∷ 0x00 ∷ 0x00 ∷ 0x00 ∷ 0x0d ∷ 0x01 ∷ 0x00 ∷ 0x02 ∷ 0x00 ∷ 0x00 ∷ 0x00 ∷ 0x01
    ∷ 0x11 ∷ 0x00 ∷ 0x00 ∷ 0x02 ∷ 0x01 ∷ 0x00 ∷ 0x00 ∷ 0x00 ∷ 0x00 ∷ 0x0d ∷ 0x01 ∷ 0x00 ∷ 0x07 ∷ 0x00 ∷ 0x00 ∷ 0x00 ∷ 0x02
    ∷ replicate 66 85

-- two replies that lead to one position: it is listed once, after the start, which is lost in 2 rounds by side 1, edge 1, case 7
abbrev pub table_forgotten : List ℕ
table_forgotten =
    0x00 ∷ 0x00 ∷ 0x00 ∷ 0x00 ∷ 0x00 ∷ 0x00 ∷ 0x00 ∷ 0x00 ∷ 0x0d ∷ 0x00 ∷ 0x00 ∷ 0x00 ∷ 0x02
    ∷ 0x01 ∷ 0x01 ∷ 0x00 ∷ 0x00 ∷ 0x00 ∷ 0x00 ∷ 0x00 ∷ 0x00 ∷ 0x0d ∷ 0x00 ∷ 0x00 ∷ 0x00 ∷ 0x01
    ∷ replicate 83 0

abbrev pub certificate_forgotten : List ℕ
certificate_forgotten =
    0x11 ∷ 0x00 ∷ 0x00 ∷ 0x00 ∷ 0x00 ∷ 0x00 ∷ 0x00 ∷ 0x00 ∷ 0x00 ∷ 0x0d ∷ 0x01 ∷ 0x01 ∷ 0x07 ∷ 0x00 ∷ 0x00 ∷ 0x00 ∷ 0x02
    ∷ 0x11 ∷ 0x01 ∷ 0x01 ∷ 0x00 ∷ 0x00 ∷ 0x00 ∷ 0x00 ∷ 0x00 ∷ 0x00 ∷ 0x0d ∷ 0x01 ∷ 0x02 ∷ 0x07 ∷ 0x00 ∷ 0x00 ∷ 0x00 ∷ 0x01
    ∷ replicate 66 85

unfoldable pub marked_cases : List Case
marked_cases =
    -- 1. P, P: EQUAL, 2 positions, 20 bytes (02, ticket 2: certificates "of cases 1 and 11 have 20 and 51 bytes")
    call (P ++ P ++ end) (equals 2 20)
    -- 2. P, G: DIFFER, 2 positions, 1 round
    ∷ leaving table_2 certificate_2 (P ++ G ++ end) (differs 2 1 17)
    -- 3. P against P with two registers, using register 2: EQUAL, 2 positions
    ∷ call (P ++ P₂ ++ end) (equals 2 20)
    -- 4. One state each, register 1 held, a known loop with tag 0, no pair: DIFFER, 1 position, 1 round
    ∷ call (loop ++ loop ++ end) (differs 1 1 17)
    -- 5. As 4 with pair 1, 1: EQUAL, 1 position
    ∷ call (loop ++ loop ++ (0x04 ∷ 0x01 ∷ 0x01 ∷ end)) (equals 1 10)
    -- 6. One state each, no edges, end marks 1 and 0: DIFFER, 0 rounds
    ∷ call (marked_1 ++ marked_0 ++ end) (differs 1 0 17)
    -- 7. Empty file: 2
    ∷ call [] (refuses 2)
    -- 8. A known edge of a register outside its set: 7
    ∷ call outside (refuses 7)
    -- 9. Case 1, table of 25 bytes: 11; of 26: EQUAL (02, ticket 2: "Cases 9 and 10 read 25 and 26, 19 and 20")
    ∷ lending 25 100 (P ++ P ++ end) (refuses 11)
    ∷ lending 26 100 (P ++ P ++ end) (equals 2 20)
    -- 10. Case 1, certificate buffer of 19 bytes: 12; of 20: EQUAL
    ∷ lending 109 19 (P ++ P ++ end) (refuses 12)
    ∷ lending 109 20 (P ++ P ++ end) (equals 2 20)
    -- 11. Register 1 held and paired: DIFFER, 4 positions, 2 rounds, 51 bytes
    ∷ call (fork_late ++ fork_early ++ (0x04 ∷ 0x01 ∷ 0x01 ∷ end)) (differs 4 2 51)
    ∷ []

unfoldable pub further_cases : List Case
further_cases =
    -- a number that only the right reader holds: the right side has no known edge to answer with
    call (dropper ++ holder ++ end) (differs 1 1 17)
    -- as before, and the right side has one
    ∷ call (dropper ++ teller ++ end) (equals 1 10)
    -- both written registers lose their partners: after one round pair 1, 1 alone is left, and an attack in case 2 has no reply
    ∷ leaving table_rewritten certificate_rewritten
    (swapper ++ swapper ++ (0x04 ∷ 0x01 ∷ 0x02 ∷ 0x04 ∷ 0x02 ∷ 0x01 ∷ end))
    (differs 2 2 34)
    -- a known edge of an unpartnered register is answered by a locally fresh one, on the other side than above
    ∷ call (teller ++ dropper ++ end) (equals 1 10)
    -- a position with differing end marks leads on all the same
    ∷ call (marked-middle ++ plain_middle ++ (0x04 ∷ 0x01 ∷ 0x01 ∷ end)) (differs 3 1 34)
    -- a search that goes down and believes what it has not finished calls these equal
    ∷ call (returning ++ returning-other ++ (0x04 ∷ 0x01 ∷ 0x01 ∷ end)) (differs 8 3 51)
    -- both replies to the first attack, edges 2 and 3 of their model, lead to one position
    ∷ leaving table_forgotten certificate_forgotten (forgetting ++ forgetting_two ++ end) (differs 2 2 34)
    ∷ []

-- 02, ticket 1: "Case 11 gives FALLS SHORT in 2 rounds, and FOLLOWS with the sides exchanged."
unfoldable pub one_way_cases : List Case
one_way_cases =
    call_one_way (fork_late ++ fork_early ++ (0x04 ∷ 0x01 ∷ 0x01 ∷ end)) (falls_short 4 2 51)
    ∷ call_one_way (fork_early ++ fork_late ++ (0x04 ∷ 0x01 ∷ 0x01 ∷ end)) (follows 4 40)
    -- no edges, end marks 0 and 1, and 1 and 0
    ∷ call_one_way (marked_0 ++ marked_1 ++ end) (follows 1 10)
    ∷ call_one_way (marked_1 ++ marked_0 ++ end) (falls_short 1 0 17)
    ∷ []

-- a file's record of the history's size, and its end
abbrev pub sized : ℕ → List ℕ
sized n = 0x05 ∷ n ∷ end

-- 0-0-1 and 1-1-2, locally fresh edges of register 1, which state 1 alone holds
abbrev pub late_fresh : List ℕ
late_fresh =
    0x01 ∷ 0x01 ∷ 0x03 ∷ 0x00
    ∷ 0x02 ∷ 0x00 ∷ 0x00 ∷ 0x00
    ∷ 0x02 ∷ 0x01 ∷ 0x01 ∷ 0x00
    ∷ 0x02 ∷ 0x02 ∷ 0x00 ∷ 0x00
    ∷ 0x03 ∷ 0x00 ∷ 0x00 ∷ 0x01 ∷ 0x01 ∷ 0x01
    ∷ 0x03 ∷ 0x01 ∷ 0x01 ∷ 0x01 ∷ 0x01 ∷ 0x02 ∷ []

-- as late-fresh, with a globally fresh second edge
abbrev pub late_new : List ℕ
late_new =
    0x01 ∷ 0x01 ∷ 0x03 ∷ 0x00
    ∷ 0x02 ∷ 0x00 ∷ 0x00 ∷ 0x00
    ∷ 0x02 ∷ 0x01 ∷ 0x01 ∷ 0x00
    ∷ 0x02 ∷ 0x02 ∷ 0x00 ∷ 0x00
    ∷ 0x03 ∷ 0x00 ∷ 0x00 ∷ 0x01 ∷ 0x01 ∷ 0x01
    ∷ 0x03 ∷ 0x01 ∷ 0x01 ∷ 0x02 ∷ 0x01 ∷ 0x02 ∷ []

-- the start, size 1: side 1, edge 0, case 8, 2 rounds. A new number leads to size 2, where the left side takes one seen before, case 7.
abbrev pub certificate_late : List ℕ
certificate_late =
    0x11 ∷ 0x00 ∷ 0x00 ∷ 0x00 ∷ 0x00 ∷ 0x00 ∷ 0x00 ∷ 0x00 ∷ 0x00 ∷ 0x01 ∷ 0x01 ∷ 0x00 ∷ 0x08 ∷ 0x00 ∷ 0x00 ∷ 0x00 ∷ 0x02
    ∷ 0x11 ∷ 0x01 ∷ 0x01 ∷ 0x01 ∷ 0x00 ∷ 0x00 ∷ 0x00 ∷ 0x00 ∷ 0x00 ∷ 0x02 ∷ 0x01 ∷ 0x01 ∷ 0x07 ∷ 0x00 ∷ 0x00 ∷ 0x00 ∷ 0x01
    ∷ replicate 66 85

-- two locally fresh edges lead to two sizes, and the rows of state 1 and of state 2 differ in the ninth byte alone
abbrev pub table_late : List ℕ
table_late =
    0x00 ∷ 0x00 ∷ 0x00 ∷ 0x00 ∷ 0x00 ∷ 0x00 ∷ 0x00 ∷ 0x00 ∷ 0x01 ∷ 0x00 ∷ 0x00 ∷ 0x00 ∷ 0x02
    ∷ 0x01 ∷ 0x01 ∷ 0x01 ∷ 0x00 ∷ 0x00 ∷ 0x00 ∷ 0x00 ∷ 0x00 ∷ 0x01 ∷ 0xff ∷ 0xff ∷ 0xff ∷ 0xff
    ∷ 0x01 ∷ 0x01 ∷ 0x01 ∷ 0x00 ∷ 0x00 ∷ 0x00 ∷ 0x00 ∷ 0x00 ∷ 0x02 ∷ 0x00 ∷ 0x00 ∷ 0x00 ∷ 0x01
    ∷ 0x02 ∷ 0x02 ∷ 0x00 ∷ 0x00 ∷ 0x00 ∷ 0x00 ∷ 0x00 ∷ 0x00 ∷ 0x02 ∷ 0xff ∷ 0xff ∷ 0xff ∷ 0xff
    ∷ 0x02 ∷ 0x02 ∷ 0x00 ∷ 0x00 ∷ 0x00 ∷ 0x00 ∷ 0x00 ∷ 0x00 ∷ 0x03 ∷ 0xff ∷ 0xff ∷ 0xff ∷ 0xff
    ∷ replicate 44 0

-- 02, ticket 2: history sizes
unfoldable pub history_cases : List Case
history_cases =
    -- "Case 2 with size 0 is EQUAL with 2 positions."
    call (P ++ G ++ sized 0) (equals 2 20)
    -- "13 means 13 or more, and without the record it is 13"
    ∷ leaving table_2 certificate_2 (P ++ G ++ sized 13) (differs 2 1 17)
    -- a new number is tried with locally fresh edges too
    ∷ leaving table_late certificate_late (late_fresh ++ late_new ++ sized 1) (differs 5 2 34)
    -- 15: "the size is above 13", and "less than the numbers held together at the start", with and without a pair
    ∷ call (P ++ G ++ sized 14) (refuses 15)
    ∷ call (loop ++ loop ++ sized 1) (refuses 15)
    ∷ call (loop ++ loop ++ sized 2) (differs 1 1 17)
    ∷ call (loop ++ loop ++ (0x04 ∷ 0x01 ∷ 0x01 ∷ sized 0)) (refuses 15)
    ∷ call (loop ++ loop ++ (0x04 ∷ 0x01 ∷ 0x01 ∷ sized 1)) (equals 1 10)
    -- "checked in that record after 3": a pair, and a second size, after the size
    ∷ call (loop ++ loop ++ (0x05 ∷ 0x0d ∷ 0x04 ∷ 0x01 ∷ 0x01 ∷ end)) (refuses 3)
    ∷ call (P ++ G ++ (0x05 ∷ 0x0d ∷ sized 14)) (refuses 3)
    ∷ []

-- ── What a case is held to ──

unfoldable pub same_values : Values → Values → Bool
same_values v w =
    eqb v.refusal w.refusal
    && eqb v.verdict w.verdict
    && eqb v.positions w.positions
    && eqb v.rounds w.rounds
    && eqb v.length w.length

unfoldable pub same_buffers : Compare.Outcome → Option Buffers → Bool
same_buffers o None = true
same_buffers o (Some b) = Lists.equal o.table b.table && Lists.equal o.certificate b.certificate

-- the outcome of a case; the lent buffers hold other bytes at entry
unfoldable pub outcome : Case → Compare.Outcome
unfolding flat_map Lists.any Lists.all Lists.keep Lists.first Lists.count Lists.least Lists.below Lists.equal Registers.has
    Registers.inside Registers.with Model.set_of Model.mark_of Model.edge_of Model.edge_bytes Position.right_partner
    Position.left_partner Position.partner Position.matching Position.is_unshared Position.held_in Position.has_room
    Position.legal Position.bytes Position.before Play.has_case
    Play.is_attack Play.cases Play.named Play.attacks Play.answers Play.is_reply Play.replies Play.rejoined Play.remaining
    Play.matched Play.moved Play.after Play.lost_at_once Play.lost_within Reach.successors Reach.insert Reach.grown Reach.closed
    Reach.enough Reach.reached Reach.rank Reach.rounds TaskFile.no_model TaskFile.no_task TaskFile.at_start
    TaskFile.header_refusal TaskFile.headed TaskFile.with_header TaskFile.header_at TaskFile.state_refusal TaskFile.with_state
    TaskFile.after_state TaskFile.state_at TaskFile.edge_of_body TaskFile.edge_exists TaskFile.keeps_rule TaskFile.rises
    TaskFile.edge_refusal TaskFile.with_edge TaskFile.edge_at TaskFile.rising TaskFile.pair_refusal TaskFile.with_pair
    TaskFile.pair_at TaskFile.history_refusal TaskFile.with_history TaskFile.history_at TaskFile.end_at TaskFile.header
    TaskFile.state TaskFile.edge TaskFile.pair TaskFile.history TaskFile.end
    TaskFile.body_of TaskFile.step TaskFile.at_end TaskFile.read_rest TaskFile.read_task Bytes.word Bytes.word_at Bytes.cleared
    Bytes.then_zeros Bytes.then_rest Certificate.entry Certificate.entries Certificate.kept_record Certificate.kept_positions
    Certificate.loss_record Certificate.wins Certificate.chosen Certificate.attack_of Certificate.attack_leads
    Certificate.loss_step Certificate.loss_with Certificate.loss_of Certificate.losses Certificate.certificate_by Compare.capacity
    Compare.decided Compare.refused_late Compare.judge Compare.compare_task Compare.compare_read Compare.compare
outcome c = Compare.compare (contest_of c.game) c.file (replicate c.table 170) (replicate c.buffer 85)

unfoldable pub met : Case → Bool
unfolding outcome same_values same_buffers
met c =
    let o = outcome c in
    same_values (values_of o.answer) c.expected && same_buffers o c.left_behind
