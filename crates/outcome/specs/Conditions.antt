-- 01, "Verdict, table, certificate": the published conditions on a certificate, for any list, whoever wrote it.
use Rattle.std.specs.Prelude.{ℕ, ◌<◌, ◌^◌, ◌≡◌, ◌⊎◌, true, length}
use mathlib.Core.List.{List, map, flat_map}
use Rattle.fra.specs.Lists.{◌∈◌}
use Rattle.fra.specs.Position.{legal, Rising}
use Rattle.fra.specs.Rules.{Rules}
use Rattle.fra.specs.Game.{attacks, replies, after, lost_at_once, Bisimulation}
use Rattle.fra.specs.declared.Position.{Position}
use Rattle.fra.specs.declared.Task.{Task}
use Rattle.fra.specs.declared.Attack.{Attack}
use Rattle.outcome.specs.Verdicts.{Contest, kind_of}
use Rattle.fra.specs.AttackNumbers.{side_number, case_number}
use Rattle.outcome.specs.Certificate.{Loss, place_of, kept_record, loss_record}
use Rattle.outcome.specs.declared.Verdict.{Verdict}

-- "The checker accepts kind 16 lists that are symbolic bisimulations with the start in them."
pub record KeptCondition (g : Rules) (r : ℕ) (t : Task) (l : List Position) : Type 0 where
  pub bisimulation : Bisimulation g r t (λ p. p ∈ l)
  pub start : t.start ∈ l

-- "rounds 0 has differing end marks and zero fields"
pub record LostAlready (g : Rules) (t : Task) (x : Loss) : Type 0 where
  pub rounds : x.rounds ≡ 0
  pub marks : lost_at_once g t x.position ≡ true
  pub side : x.side ≡ 0
  pub edge : x.edge ≡ 0
  pub case : x.case ≡ 0

-- "otherwise the attack exists and each reply leads to a listed position of fewer rounds"
pub record LostByAttack (g : Rules) (t : Task) (l : List Loss) (x : Loss) : Type 0 where
  pub attack : Attack
  pub exists : attack ∈ attacks g t x.position
  pub side : x.side ≡ side_number attack.side
  pub edge : x.edge ≡ attack.edge
  pub case : x.case ≡ case_number (length x.position.partners) attack.case
  pub replies : (k : ℕ) → k ∈ replies t x.position attack
      → (y : Loss) × (y ∈ l) × (y.position ≡ after t x.position attack k) × (y.rounds < x.rounds)

-- "It accepts kind 17 lists that contain the start", each record of which meets the conditions
pub record LostCondition (g : Rules) (t : Task) (l : List Loss) : Type 0 where
  pub records : (x : Loss) → x ∈ l → LostAlready g t x ⊎ (0 < x.rounds) × LostByAttack g t l x
  pub start : (x : Loss) × (x ∈ l) × (x.position ≡ t.start)

-- "The checker accepts": the bytes of a rising list of legal positions that meets the conditions on its kind. "Acceptance
-- returns the verdict that the kind stands for and the start's listed rounds, 0 for kind 16."
pub data Accepts (r : ℕ) (c : Contest) (t : Task) (certificate : List ℕ) : Verdict → ℕ → Type 0 where
  accepts-kept : (l : List Position) → certificate ≡ flat_map (kept_record (kind_of c.kept)) l
      → Rising l
      → KeptCondition c.rules r t l
      → Accepts r c t certificate c.kept 0
  accepts-lost : (l : List Loss) → certificate ≡ flat_map (loss_record (kind_of c.lost)) l
      → ((x : Loss) → x ∈ l → legal r t x.position ≡ true)
      → ((x : Loss) → x ∈ l → x.rounds < 2 ^ 32)
      → Rising (map place_of l)
      → LostCondition c.rules t l
      → (x : Loss) → x ∈ l → x.position ≡ t.start
      → Accepts r c t certificate c.lost x.rounds
