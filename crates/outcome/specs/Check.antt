-- 01, "Verdict, table, certificate" and "Turned back": the outcome of a checker call on a task's bytes and a proposed
-- certificate.
use Rattle.std.specs.Prelude.{ℕ, zero, suc, ◌+◌, Bool, true, false, not, cond, ◌&&◌, List, [], ◌∷◌, map, length, get_or, take, drop, ltb, leb, eqb, Result, Ok, Err, Option, None, Some}
use Rattle.fra.specs.Lists.{any, all, equal}
use Rattle.fra.specs.Position.{legal, bytes, before}
use Rattle.fra.specs.Rules.{Rules}
use Rattle.fra.specs.Game.{is_attack, attacks, replies, after, lost_at_once}
use Rattle.fra.specs.AttackNumbers.{side_of, case_of}
use Rattle.fra.specs.declared.Position.{Position}
use Rattle.fra.specs.declared.Task.{Task}
use Rattle.fra.specs.declared.Side.{Side}
use Rattle.fra.specs.declared.Side.TheVariants.{Left, Right}
use Rattle.fra.specs.declared.IdCase.{IdCase}
use Rattle.fra.specs.declared.IdCase.TheVariants.{Held, Private, Seen, New}
use Rattle.fra.specs.declared.Attack.{Attack}
use Rattle.task.specs.TaskFile.{◌>>=◌, read_task, max_registers}
use Rattle.task.specs.declared.Refusal.{Refusal}
use Rattle.task.specs.declared.Refusal.TheVariants.{Malformed, NotAccepted}
use Rattle.outcome.specs.Bytes.{word_at}
use Rattle.outcome.specs.Verdicts.{Contest, kind_of}
use Rattle.outcome.specs.Certificate.{Loss}
use Rattle.outcome.specs.declared.Acceptance.{Acceptance}

-- ── Records ──

-- a body's position: two states, r partners and the history's size
unfoldable pub position_of : ℕ → List ℕ → Position
position_of r body =
    record {
      left = get_or body 0 0;
      right = get_or body 1 0;
      partners = take r (drop 2 body);
      history = get_or body (r + 2) 0;
    }

unfoldable pub loss_from : ℕ → List ℕ → Loss
loss_from r body =
    record {
      position = position_of r body;
      side = get_or body (r + 3) 0;
      edge = get_or body (r + 4) 0;
      case = get_or body (r + 5) 0;
      rounds = word_at body (r + 6);
    }

-- the bytes of a body: position; position, side, edge, case and four bytes of rounds
abbrev pub kept_length : ℕ → ℕ
kept_length r = r + 3

abbrev pub loss_length : ℕ → ℕ
loss_length r = r + 10

-- the records of at most n bytes, all of one kind and none of them cut
unfoldable pub bodies : ℕ → ℕ → ℕ → List ℕ → Option (List (List ℕ))
bodies kind size zero l = None
bodies kind size (suc n) [] = Some []
bodies kind size (suc n) (b ∷ l) =
    elim (eqb b kind && leb size (length l))
    [ true ↦ follow (take size l) (bodies kind size n (drop size l)) | false ↦ None ]
  where
    follow : List ℕ → Option (List (List ℕ)) → Option (List (List ℕ))
    follow body None = None
    follow body (Some rest) = Some (body ∷ rest)

-- each is before the next
unfoldable pub rising : List Position → Bool
rising [] = true
rising (p ∷ l) = below l && rising l
  where
    below : List Position → Bool
    below [] = true
    below (q ∷ l') = before p q

-- "an illegal position, or does not rise strictly by position"
unfoldable pub orderly : ℕ → Task → List Position → Bool
orderly r t l = all (legal r t) l && rising l

-- ── Acceptance ──

unfoldable pub same : Position → Position → Bool
same p q = equal (bytes p) (bytes q)

-- one listed position holds: its end marks do not lose, and each attack has a reply that leads to a listed position
unfoldable pub holds : Rules → Task → List Position → Position → Bool
holds g t l p =
    not (lost_at_once g t p)
    && all (λ a. any (λ k. any (same (after t p a k)) l) (replies t p a)) (attacks g t p)

unfoldable pub kept_accepted : Rules → Task → List Position → Bool
kept_accepted g t l = any (same t.start) l && all (holds g t l) l

-- the attack that a record names, if it names one
unfoldable pub attack_from : Option Side → ℕ → Option IdCase → Option Attack
attack_from None k c = None
attack_from (Some s) k None = None
attack_from (Some s) k (Some c) = Some (record { side = s; edge = k; case = c })

unfoldable pub attack_in : Loss → Option Attack
attack_in x = attack_from (side_of x.side) x.edge (case_of (length x.position.partners) x.case)

-- every reply leads to a listed position of fewer rounds
unfoldable pub forces : Rules → Task → List Loss → Loss → Option Attack → Bool
forces g t l x None = false
forces g t l x (Some a) =
    is_attack g t x.position a
    && all (λ k. any (λ y. same (after t x.position a k) y.position && ltb y.rounds x.rounds) l)
    (replies t x.position a)

unfoldable pub loss_holds : Rules → Task → List Loss → Loss → Bool
loss_holds g t l x =
    elim x.rounds [
      | zero ↦ lost_at_once g t x.position && eqb x.side 0 && eqb x.edge 0 && eqb x.case 0
      | suc n ↦ forces g t l x (attack_in x)
    ]

unfoldable pub losses_accepted : Rules → Task → List Loss → Bool
losses_accepted g t l = any (λ x. same t.start x.position) l && all (loss_holds g t l) l

-- "the start's listed rounds"
unfoldable pub start_rounds : Task → List Loss → ℕ
start_rounds t [] = 0
start_rounds t (x ∷ l) = elim (same t.start x.position) [ true ↦ x.rounds | false ↦ start_rounds t l ]

-- ── The outcome ──

-- well formed or 13, and then accepted or 14
unfoldable pub judge_list : Bool → Bool → Acceptance → Result Acceptance Refusal
judge_list formed accepted a = cond formed (cond accepted (Ok a) (Err NotAccepted)) (Err Malformed)

unfoldable pub check_kept : ℕ → Contest → Task → Option (List (List ℕ)) → Result Acceptance Refusal
check_kept r c t None = Err Malformed
check_kept r c t (Some l) =
    let ps = map (position_of r) l in
    judge_list (orderly r t ps) (kept_accepted c.rules t ps) (record { verdict = c.kept; rounds = 0 })

unfoldable pub check_losses : ℕ → Contest → Task → Option (List (List ℕ)) → Result Acceptance Refusal
check_losses r c t None = Err Malformed
check_losses r c t (Some l) =
    let xs = map (loss_from r) l in
    judge_list (orderly r t (map (λ x. x.position) xs)) (losses_accepted c.rules t xs)
    (record { verdict = c.lost; rounds = start_rounds t xs })

-- by the kind of the first record; a certificate of no record is well formed and not accepted
unfoldable pub check_task : ℕ → Contest → Task → List ℕ → Result Acceptance Refusal
check_task r c t [] = Err NotAccepted
check_task r c t (b ∷ l) =
    elim (eqb b (kind_of c.kept)) [
      | true ↦ check_kept r c t (bodies b (kept_length r) (suc (length (b ∷ l))) (b ∷ l))
      | false ↦
          elim (eqb b (kind_of c.lost)) [
            | true ↦ check_losses r c t (bodies b (loss_length r) (suc (length (b ∷ l))) (b ∷ l))
            | false ↦ Err Malformed
          ]
    ]

-- "The checker gives 1 to 10, 13, 14"; 02, ticket 2: "Every part that reads a task gives 1 to 10, 15 and any later refusal of a
-- record"
unfoldable pub check : Contest → List ℕ → List ℕ → Result Acceptance Refusal
check c file l = do
  t ← read_task file
  check_task max_registers c t l
