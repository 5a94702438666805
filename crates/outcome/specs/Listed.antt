-- 01, "Verdict, table, certificate": what a verdict leaves in the table and in the certificate, as propositions on the game.
-- Nothing here goes by way of the lists that an outcome is computed with.
use Rattle.std.specs.Prelude.{ℕ, suc, ◌≡◌, ◌⊎◌, ◌↔◌, true, length}
use mathlib.Core.List.{List, ◌∷◌, ◌++◌, map, flat_map}
use Rattle.fra.specs.Lists.{◌∈◌, Unique}
use Rattle.fra.specs.Position.{bytes, Rising}
use Rattle.fra.specs.Rules.{Rules}
use Rattle.fra.specs.Game.{attacks, replies, after, lost_within, NeverLost, HasRank}
use Rattle.fra.specs.Reach.{Reached}
use Rattle.fra.specs.declared.Position.{Position}
use Rattle.fra.specs.declared.Task.{Task}
use Rattle.fra.specs.declared.Attack.{Attack}
use Rattle.outcome.specs.Bytes.{word, all_ones}
use Rattle.outcome.specs.Verdicts.{Contest, kind_of}
use Rattle.fra.specs.AttackNumbers.{side_number, case_number}
use Rattle.outcome.specs.Certificate.{kept_record, Loss, place_of, loss_record}

-- ── The count ──

-- as many positions have a property: they are the members of a list of this length in which none stands twice
pub record Counted (has : Position → Type 0) (n : ℕ) : Type 0 where
  pub positions : List Position
  pub unique : Unique positions
  pub exactly : (p : Position) → p ∈ positions ↔ has p
  pub number : n ≡ length positions

-- ── The table ──

-- "rounds, .. FF FF FF FF if never lost": the word of a position's entry
abbrev pub RoundsOf : Rules → Task → Position → ℕ → Type 0
RoundsOf g t p n = HasRank g t p n ⊎ NeverLost g t p × (n ≡ all_ones)

-- an entry: "position, then rounds, four bytes, high byte first"
pub record Entry : Type 0 where
  pub position : Position
  pub rounds : ℕ

unfoldable pub entry_bytes : Entry → List ℕ
entry_bytes e = bytes e.position ++ word e.rounds

-- "it holds the positions reached, rising by position bytes"
pub record TableHolds (g : Rules) (t : Task) (written : List ℕ) : Type 0 where
  pub entries : List Entry
  pub encoded : written ≡ flat_map entry_bytes entries
  pub rising : Rising (map (λ e. e.position) entries)
  pub exactly : (p : Position) → p ∈ map (λ e. e.position) entries ↔ Reached g t p
  pub rounds : (e : Entry) → e ∈ entries → RoundsOf g t e.position e.rounds

-- ── The certificate of a start that is never lost ──

-- "kind 16, position, .. for every reached position never lost, rising"
pub record KeptWritten (c : Contest) (t : Task) (written : List ℕ) : Type 0 where
  pub positions : List Position
  pub encoded : written ≡ flat_map (kept_record (kind_of c.kept)) positions
  pub rising : Rising positions
  pub exactly : (p : Position) → p ∈ positions ↔ Reached c.rules t p × NeverLost c.rules t p

-- ── The certificate of a lost start ──

-- every reply to the attack leads to a position lost within n rounds, that is, in fewer than n + 1
abbrev pub RepliesLost : Rules → Task → Position → ℕ → Attack → Type 0
RepliesLost g t p n a = (k : ℕ) → k ∈ replies t p a → lost_within g t n (after t p a k) ≡ true

-- "The attack is the first in order of side, edge, case whose replies are all lost in fewer rounds" than n + 1
pub record FirstAttack (g : Rules) (t : Task) (p : Position) (n : ℕ) (a : Attack) : Type 0 where
  pub earlier : List Attack
  pub later : List Attack
  pub place : attacks g t p ≡ earlier ++ a ∷ later
  pub lost : RepliesLost g t p n a
  pub none_earlier : (b : Attack) → b ∈ earlier → RepliesLost g t p n b → ⊥

-- "It lists the start and all positions that its attacks lead to"
pub data Led (g : Rules) (t : Task) : Position → Type 0 where
  at-start : Led g t t.start
  by_reply : {p : Position} {n : ℕ} {a : Attack} {k : ℕ} → Led g t p → HasRank g t p (suc n) → FirstAttack g t p n a
      → k ∈ replies t p a
      → Led g t (after t p a k)

-- "Rounds 0 has side, edge and case 0."
pub record NamesNoAttack (x : Loss) : Type 0 where
  pub rounds : x.rounds ≡ 0
  pub side : x.side ≡ 0
  pub edge : x.edge ≡ 0
  pub case : x.case ≡ 0

-- otherwise the record has the numbers of its position's first attack
pub record NamesFirstAttack (g : Rules) (t : Task) (x : Loss) : Type 0 where
  pub attack : Attack
  pub fewer : ℕ
  pub rounds : x.rounds ≡ suc fewer
  pub first : FirstAttack g t x.position fewer attack
  pub side : x.side ≡ side_number attack.side
  pub edge : x.edge ≡ attack.edge
  pub case : x.case ≡ case_number (length x.position.partners) attack.case

-- what a record says of its position: its rounds, and its attack
pub record LossOf (g : Rules) (t : Task) (x : Loss) : Type 0 where
  pub has-rank : HasRank g t x.position x.rounds
  pub names : NamesNoAttack x ⊎ NamesFirstAttack g t x

-- "kind 17, position, side, edge, case, rounds ... It lists the start and all positions that its attacks lead to, rising."
pub record LossesWritten (c : Contest) (t : Task) (written : List ℕ) : Type 0 where
  pub losses : List Loss
  pub encoded : written ≡ flat_map (loss_record (kind_of c.lost)) losses
  pub rising : Rising (map place_of losses)
  pub exactly : (p : Position) → p ∈ map place_of losses ↔ Led c.rules t p
  pub each : (x : Loss) → x ∈ losses → LossOf c.rules t x
