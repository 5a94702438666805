-- A number that is spelled from its last digit on. Assumes nothing.
use Prim.Native.Nat.{ℕ, suc, ◌+◌, ◌-◌, ◌/◌, ◌%◌, ◌≤◌, ◌<◌}
use mathlib.Core.Path.{◌≡◌, refl, sym, ap, ◌∙◌}
use mathlib.Core.Logic.{◌⊎◌, inl, inr, ⊎_elim}
use mathlib.Core.List.{List, [], ◌∷◌, ◌++◌, append-nil, append_assoc}
use native.Mathlib.Omega.{arith}
use lib.ListN.{length, set, length-append}
use lib.Seq.{sets}
use Rattle.text.specs.Text.{digit, decimal}
use Rattle.text.proofs.Decimals.{one_or_more, decimal_last, decimal-more, some-digit}
use Rattle.text.proofs.Stores.{set_before}

-- the digits from place i on are written, and those of `rest` are to come, or none
pub record Spelled (n : ℕ) (entry : List ℕ) (at i rest : ℕ) (line : List ℕ) : Type 0 where
  pub front : List ℕ
  pub comes : (front ≡ decimal rest) ⊎ (front ≡ [])
  pub place : i ≡ at + length front
  pub behind : List ℕ
  pub splits : decimal n ≡ front ++ behind
  pub written : line ≡ sets entry i behind

pub spelled_none : (n : ℕ) (entry : List ℕ) (at : ℕ) → Spelled n entry at (at + length (decimal n)) n entry
spelled_none n entry at =
    record {
      front = decimal n;
      comes = inl refl;
      place = refl;
      behind = [];
      splits = sym (append-nil (decimal n));
      written = refl;
    }

module _ {n : ℕ} {entry : List ℕ} {at i rest : ℕ} {line : List ℕ} (s : Spelled n entry at i rest line) where
  -- one digit more
  pub spelled_more : at < i → Spelled n entry at (i - 1) (rest / 10) (set line (i - 1) (digit (rest % 10)))
  spelled_more h =
      ⊎_elim (λ e. ⊎_elim (last e) (more e) (one_or_more rest)) (λ e. absurd (omega (arith, ap length e, s.place))) s.comes
    where
      stored : set line (i - 1) (digit (rest % 10)) ≡ sets entry (i - 1) (digit (rest % 10) ∷ s.behind)
      stored =
          let here : i ≡ suc (i - 1) = omega arith in
          let line_so_far = rw here at s.written in
          rw line_so_far (set_before entry (suc (i - 1)) s.behind (i - 1) (digit (rest % 10)) (omega arith))

      last : s.front ≡ decimal rest → rest < 10 → Spelled n entry at (i - 1) (rest / 10) (set line (i - 1) (digit (rest % 10)))
      last e few =
          let one = e ∙ decimal_last rest few in
          let same : rest % 10 ≡ rest = omega arith in
          record {
            front = [];
            comes = inr refl;
            place = omega (arith, ap length one, s.place);
            behind = digit (rest % 10) ∷ s.behind;
            splits = s.splits ∙ ap (λ (l : List ℕ). l ++ s.behind) one ∙ ap (λ (d : ℕ). digit d ∷ s.behind) (sym same);
            written = stored;
          }

      more : s.front ≡ decimal rest → 10 ≤ rest → Spelled n entry at (i - 1) (rest / 10) (set line (i - 1) (digit (rest % 10)))
      more e many =
          let some = e ∙ decimal-more rest many in
          record {
            front = decimal (rest / 10);
            comes = inl refl;
            place = omega (arith, ap length some, s.place, length-append (decimal (rest / 10)) (digit (rest % 10) ∷ []));
            behind = digit (rest % 10) ∷ s.behind;
            splits =
                s.splits ∙ ap (λ (l : List ℕ). l ++ s.behind) some
                ∙ append_assoc (decimal (rest / 10)) (digit (rest % 10) ∷ []) s.behind;
            written = stored;
          }

  -- all of them
  pub spelled_all : i ≤ at → line ≡ sets entry at (decimal n)
  spelled_all h =
      let here : i ≡ at = omega (arith, s.place) in
      ⊎_elim (λ e. absurd (omega (arith, some-digit rest, ap length e, s.place)))
      (λ e. s.written ∙ rw here (ap (sets entry at) (sym (s.splits ∙ ap (λ (l : List ℕ). l ++ s.behind) e))))
      s.comes
