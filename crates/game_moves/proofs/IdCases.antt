-- The id cases of r registers by number, and those that an edge has, one after another. Assumes nothing.
use Prim.Native.Nat.{ℕ, zero, suc, ◌+◌, ◌-◌, ◌≤◌, ◌<◌}
use mathlib.Core.Path.{◌≡◌, refl, sym, ◌∙◌, ap}
use mathlib.Core.Bool.{Bool, true, false}
use mathlib.Core.List.{List, [], ◌∷◌, ◌++◌, map}
use Rattle.std.specs.Prelude.{Option, None, Some, option_map}
use native.Mathlib.Nat.{add-zero, zero-add, suc-add}
use native.Mathlib.Numerals.{add-one}
use native.Mathlib.Decide.{dec_le}
use native.Mathlib.Omega.{arith}
use lib.ListN.{length, get_or}
use borrow.Author.Tests.{eq-eqb, ne_eqb, le-leb, lt-leb}
use Rattle.fra.specs.Lists.{keep, count, least}
use Rattle.fra.specs.Rules.{other}
use Rattle.fra.specs.Position.{filled, has_room}
use Rattle.fra.specs.Game.{has_case, cases}
use Rattle.fra.specs.AttackNumbers.{case_of}
use Rattle.fra.specs.declared.IdCase.{IdCase}
use Rattle.fra.specs.declared.IdCase.TheVariants.{Held, Private, Seen, New}
use Rattle.fra.specs.declared.EdgeKind.{EdgeKind}
use Rattle.fra.specs.declared.EdgeKind.TheVariants.{Known, LocallyFresh, GloballyFresh}
use Rattle.fra.specs.declared.Task.{Task}
use Rattle.fra.specs.declared.Position.{Position}
use Rattle.fra.specs.declared.Side.{Side}
use Rattle.game_moves.specs.IdCases.{case_at, has_case_in, case_from, cases_from}
use Rattle.fra_laws.proofs.KeptLists.{keep_same}
use Rattle.fra_laws.proofs.Least.{least-here, least-later, least-end, test, KeptFrom, kept_from}

private_at : (i n k : ℕ) (rest : List IdCase) → k < n → get_or (map Private (count i n) ++ rest) k New ≡ Private (i + k)
unfolding count
private_at i zero k rest p = absurd (omega arith)
private_at i (suc n) zero rest p = rw (add-zero i)
private_at i (suc n) (suc k) rest p =
    let e : suc i + k ≡ i + suc k = omega arith in rw (← e) (private_at (suc i) n k rest (omega arith))

past_privates : (i n k : ℕ) (rest : List IdCase) → get_or (map Private (count i n) ++ rest) (n + k) New ≡ get_or rest k New
unfolding count
past_privates i zero k rest = rw (zero-add k)
past_privates i (suc n) k rest = rw (suc-add n k) (past_privates (suc i) n k rest)

privates_length : (i n : ℕ) (rest : List IdCase) → length (map Private (count i n) ++ rest) ≡ n + length rest
unfolding count
privates_length i zero rest = rw (zero-add (length rest))
privates_length i (suc n) rest = rw (suc-add n (length rest)) (ap suc (privates_length (suc i) n rest))

module _ (r : ℕ) where
  pub cases-length : length (cases r) ≡ r + 3
  unfolding cases
  cases-length = rw (privates_length 1 r (Seen ∷ New ∷ [])) (omega arith)

  pub case_private : (n : ℕ) → 1 ≤ n → n ≤ r → case_at r n ≡ Private n
  unfolding case_at cases
  case_private zero p q = absurd (omega arith)
  case_private (suc k) p q = private_at 1 r k (Seen ∷ New ∷ []) (omega arith) ∙ ap Private (omega arith)

  past : (k : ℕ) → case_at r (suc (r + k)) ≡ get_or (Seen ∷ New ∷ []) k New
  unfolding case_at cases
  past k = past_privates 1 r k (Seen ∷ New ∷ [])

  pub case-seen : (n : ℕ) → n ≡ r + 1 → case_at r n ≡ Seen
  case-seen n e = let d : n ≡ suc (r + 0) = omega arith in rw d (past 0)

  pub case_new : (n : ℕ) → r + 2 ≤ n → case_at r n ≡ New
  case_new n p = let d : n ≡ suc (r + (n - suc r)) = omega arith in rw d (past (n - suc r) ∙ second (n - suc r) (omega arith))
    where
      second : (k : ℕ) → 1 ≤ k → get_or (Seen ∷ New ∷ []) k New ≡ New
      second zero p = absurd (omega arith)
      second (suc zero) p = refl
      second (suc (suc k)) p = refl

  -- the numbers of the cases are their places
  pub case_of-at : (n : ℕ) → n < r + 3 → case_of r n ≡ Some (case_at r n)
  unfolding case_of case_at cases
  case_of-at zero p = refl
  case_of-at (suc k) p = step (dec_le (suc k) r) (dec_le (r + 2) (suc k))
    where
      step : Dec (suc k ≤ r) → Dec (r + 2 ≤ suc k) → case_of r (suc k) ≡ Some (case_at r (suc k))
      step (yes h) d = rw (ne_eqb (suc k) 0 (λ e. omega arith), le-leb (suc k) r h) (ap (λ (c : IdCase). Some c) (sym (case_private (suc k) (omega arith) h)))
      step (no h) (no d) =
          let e : suc k ≡ r + 1 = omega arith in
          rw (ne_eqb (suc k) 0 (λ e. omega arith), lt-leb (suc k) r (omega arith), eq-eqb (suc k) (r + 1) e)
          (ap (λ (c : IdCase). Some c) (sym (case-seen (suc k) e)))
      step (no h) (yes d) =
          rw (
            ne_eqb (suc k) 0 (λ e. omega arith),
            lt-leb (suc k) r (omega arith),
            ne_eqb (suc k) (r + 1) (λ e. omega arith),
            eq-eqb (suc k) (r + 2) (omega arith),
          )
          (ap (λ (c : IdCase). Some c) (sym (case_new (suc k) d)))

-- ── The first from a number on ──

module _ (r others : ℕ) (room : Bool) (p : Position) (s : Side) (kind : EdgeKind) (n : ℕ) (long : length p.partners ≡ r) where
  -- case number k is one of the edge
  abbrev found : ℕ → Bool
  found k = has_case_in others room p s kind (case_at r k)

  pub case-here : n < r + 3 → found n ≡ true → case_from others room p s kind n ≡ Some (case_at r n, n + 1)
  unfolding case_from
  case-here h e = rw (long, cases-length r, least-here found n (r + 3) h e, add-one)

  pub case-later : n < r + 3 → found n ≡ false → case_from others room p s kind n ≡ case_from others room p s kind (n + 1)
  unfolding case_from
  case-later h e = rw (long, cases-length r, least-later found n (r + 3) h e)

  pub case_none : r + 3 ≤ n → case_from others room p s kind n ≡ None
  unfolding case_from
  case_none h = rw (long, cases-length r, least-end found n (r + 3) h)

-- ── One after another ──

module _ (others : ℕ) (room : Bool) (p : Position) (s : Side) (kind : EdgeKind) where
  -- case c is the first of them, and those that follow are from number k on
  pub record NextCase (n : ℕ) (c : IdCase) (k : ℕ) : Type 0 where
    pub positive : 1 ≤ k
    pub exists : k ≤ length p.partners + 3
    pub numbered : c ≡ case_at (length p.partners) (k - 1)
    pub first : cases_from others room p s kind n ≡ c ∷ cases_from others room p s kind k

  -- what an answer says of them
  abbrev CasesFrom : ℕ → Option (IdCase × ℕ) → Type 0
  CasesFrom n None = cases_from others room p s kind n ≡ []
  CasesFrom n (Some a) = NextCase n a.0 a.1

  cases-from : (n : ℕ) → CasesFrom n (case_from others room p s kind n)
  unfolding case_from case_at
  cases-from n =
      step
      (least (test (has_case_in others room p s kind) (cases (length p.partners)) New) n
      (length (cases (length p.partners)) - n))
      (kept_from (has_case_in others room p s kind) (cases (length p.partners)) New n)
    where
      step : (o : Option ℕ) → KeptFrom (has_case_in others room p s kind) (cases (length p.partners)) New n o
          → CasesFrom n (option_map (λ k. (case_at (length p.partners) k, suc k)) o)
      step None h = h
      step (Some j) h =
          let e : suc j - 1 ≡ j = omega arith in
          record {
            positive = omega arith;
            exists = omega (arith, h.0, cases-length (length p.partners));
            numbered = rw e;
            first = h.1;
          }

  pub case-found : (n : ℕ) (c : IdCase) (k : ℕ) → case_from others room p s kind n ≡ Some (c, k) → NextCase n c k
  case-found n c k e = rw e at (cases-from n)

  pub no_case : (n : ℕ) → case_from others room p s kind n ≡ None → cases_from others room p s kind n ≡ []
  no_case n e = rw e at (cases-from n)

-- ── All of them ──

-- with the register set of the other side's state, and the room that there is, they are the game's
pub has_case_in_lem : (t : Task) (p : Position) (s : Side) (kind : EdgeKind) (c : IdCase)
    → has_case_in (filled t p (other s)) (has_room t p) p s kind c ≡ has_case t p s kind c
unfolding has_case_in has_case
has_case_in_lem t p s (Known i) Held = refl
has_case_in_lem t p s (Known i) (Private j) = refl
has_case_in_lem t p s (Known i) Seen = refl
has_case_in_lem t p s (Known i) New = refl
has_case_in_lem t p s (LocallyFresh i) Held = refl
has_case_in_lem t p s (LocallyFresh i) (Private j) = refl
has_case_in_lem t p s (LocallyFresh i) Seen = refl
has_case_in_lem t p s (LocallyFresh i) New = refl
has_case_in_lem t p s (GloballyFresh i) Held = refl
has_case_in_lem t p s (GloballyFresh i) (Private j) = refl
has_case_in_lem t p s (GloballyFresh i) Seen = refl
has_case_in_lem t p s (GloballyFresh i) New = refl

pub all-cases : (t : Task) (p : Position) (s : Side) (kind : EdgeKind)
    → cases_from (filled t p (other s)) (has_room t p) p s kind 0 ≡ keep (has_case t p s kind) (cases (length p.partners))
all-cases t p s kind = keep_same _ _ (cases (length p.partners)) (λ c m. has_case_in_lem t p s kind c)
