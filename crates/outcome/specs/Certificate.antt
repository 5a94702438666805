-- 01, "Verdict, table, certificate": the bytes of the table and of the certificate.
use Rattle.std.specs.Prelude.{ℕ, zero, suc, ◌+◌, Bool, true, false, length, Option, None, Some}
use mathlib.Core.List.{List, [], ◌∷◌, ◌++◌, map, flat_map}
use Rattle.fra.specs.Lists.{all, keep, first}
use Rattle.fra.specs.Position.{bytes}
use Rattle.fra.specs.Rules.{Rules}
use Rattle.fra.specs.Game.{attacks, replies, after, lost_within}
use Rattle.fra.specs.AttackNumbers.{side_number, case_number}
use Rattle.fra.specs.Reach.{closed, enough, reached, rank}
use Rattle.fra.specs.declared.Position.{Position}
use Rattle.fra.specs.declared.Task.{Task}
use Rattle.fra.specs.declared.Side.{Side}
use Rattle.fra.specs.declared.Side.TheVariants.{Left, Right}
use Rattle.fra.specs.declared.IdCase.{IdCase}
use Rattle.fra.specs.declared.IdCase.TheVariants.{Held, Private, Seen, New}
use Rattle.fra.specs.declared.Attack.{Attack}
use Rattle.outcome.specs.Bytes.{word, all_ones}
use Rattle.outcome.specs.Verdicts.{Contest, kind_of}

-- ── The table: "12 bytes an entry: position, then rounds, .. FF FF FF FF if never lost"; 02, ticket 2: "Table entries become 13
-- bytes" ──

abbrev pub rounds_or_never : Option ℕ → ℕ
rounds_or_never None = all_ones
rounds_or_never (Some n) = n

unfoldable pub entry : Rules → Task → ℕ → Position → List ℕ
entry g t n p = bytes p ++ word (rounds_or_never (rank g t n p))

-- "the positions reached, rising by position bytes"
unfoldable pub entries : Rules → Task → List ℕ
entries g t = let l = reached g t in flat_map (entry g t (length l)) l

-- ── The certificate of a start that is never lost: "kind 16, position"; 02, ticket 2: "certificate records 10 and 17" bytes ──

abbrev pub is_never : Option ℕ → Bool
is_never None = true
is_never (Some n) = false

unfoldable pub kept_record : ℕ → Position → List ℕ
kept_record kind p = kind ∷ bytes p

-- "every reached position never lost, rising"
unfoldable pub kept_positions : Rules → Task → List Position
kept_positions g t = let l = reached g t in keep (λ p. is_never (rank g t (length l) p)) l

-- ── The certificate of a lost start: "kind 17, position, side, edge, case, rounds" ──

-- what a record says of a lost position
pub record Loss : Type 0 where
  pub position : Position
  pub side : ℕ
  pub edge : ℕ
  pub case : ℕ
  pub rounds : ℕ

abbrev pub place_of : Loss → Position
place_of x = x.position

unfoldable pub loss_record : ℕ → Loss → List ℕ
loss_record kind l = kind ∷ bytes l.position ++ (l.side ∷ l.edge ∷ l.case ∷ word l.rounds)

-- every reply to the attack is lost within n rounds
unfoldable pub wins : Rules → Task → ℕ → Position → Attack → Bool
wins g t n p a = all (λ k. lost_within g t n (after t p a k)) (replies t p a)

-- "the first in order of side, edge, case whose replies are all lost in fewer rounds" than n + 1
unfoldable pub chosen : Rules → Task → ℕ → Position → Option Attack
chosen g t n p = first (wins g t n p) (attacks g t p)

-- the attack of a position by its rounds; "Rounds 0 has side, edge and case 0"
unfoldable pub attack_of : Rules → Task → Position → Option ℕ → Option Attack
attack_of g t p None = None
attack_of g t p (Some zero) = None
attack_of g t p (Some (suc n)) = chosen g t n p

-- what a position's attack leads to
unfoldable pub attack_leads : Task → Position → Option Attack → List Position
attack_leads t p None = []
attack_leads t p (Some a) = map (after t p a) (replies t p a)

unfoldable pub loss_step : Rules → Task → ℕ → Position → List Position
loss_step g t n p = attack_leads t p (attack_of g t p (rank g t n p))

unfoldable pub loss_with : Position → Option ℕ → Option Attack → Loss
loss_with p n None = record { position = p; side = 0; edge = 0; case = 0; rounds = rounds_or_never n }
loss_with p n (Some a) =
    record {
      position = p;
      side = side_number a.side;
      edge = a.edge;
      case = case_number (length p.partners) a.case;
      rounds = rounds_or_never n;
    }

unfoldable pub loss_of : Rules → Task → ℕ → Position → Loss
loss_of g t n p = loss_with p (rank g t n p) (attack_of g t p (rank g t n p))

-- "It lists the start and all positions that its attacks lead to, rising."
unfoldable pub losses : Rules → Task → List Loss
losses g t =
    let n = length (reached g t) in
    map (loss_of g t n) (closed (loss_step g t n) (enough t) (t.start ∷ []))

-- ── The certificate of a comparison, by the start's rounds ──

unfoldable pub certificate_by : Contest → Task → Option ℕ → List ℕ
certificate_by c t None = flat_map (kept_record (kind_of c.kept)) (kept_positions c.rules t)
certificate_by c t (Some n) = flat_map (loss_record (kind_of c.lost)) (losses c.rules t)
