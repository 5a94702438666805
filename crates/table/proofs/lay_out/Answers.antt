-- The last key is spread first, over bytes of no key that is still to be read.
use Rattle.std.proofs.Common.{◌≡◌, ℕ, suc, ◌*◌, ◌-◌, ◌≤◌, ◌<◌, List, ◌++◌, length, get_or, drop, sym, ◌∙◌, ap, arith}
use Rattle.std.proofs.Math.Seq.{sets}
use Rattle.outcome.specs.Bytes.{word_at}
use Rattle.listing.specs.Widths.{word_width, entry_width}
use Rattle.table_keys.specs.Keys.{Sized}
use Rattle.table_keys.specs.declared.Radix.{Radix}
use Rattle.table_laws.specs.Table.{keys, laid_out}
use Rattle.table_laws.proofs.KeyColumn.{keys_length, keys-at}
use Rattle.table_laws.proofs.LayingOut.{entry_of, entry_of-length, spread_from, spread_none, spread_word, spread_next, spread_all}
use Rattle.table.proofs.lay_out.Goals as goal
use Rattle.table.proofs.lay_out.Goals.{After-word_at}

module _ (n : ℕ) (x : Radix) (t : List ℕ) (s : Sized x) (room : n * entry_width ≤ length t) where
  abbrev spread : ℕ → List ℕ
  spread i = spread_from entry_width (entry_of x) (keys n t) t i

  enough : length (keys n t) * entry_width ≤ length t
  enough = rw keys_length room

  none : t ≡ spread n
  none = sym (spread_none entry_width (entry_of x) (entry_of-length x s) (keys n t) t enough) ∙ rw keys_length

  -- the key that is read stands before what is spread
  kept : (i : ℕ) → 0 < i → i ≤ n → word_at (spread i) ((i - 1) * word_width) ≡ get_or (keys n t) (i - 1) 0
  kept i some within =
      spread_word entry_width (entry_of x) (entry_of-length x s) (keys n t) t enough i ((i - 1) * word_width) (rw keys_length within) (omega (arith, some))
      ∙ sym (keys-at n t (i - 1) (omega arith))

  next : (i : ℕ) → 0 < i → i ≤ n → sets (spread i) ((i - 1) * entry_width) (entry_of x (get_or (keys n t) (i - 1) 0)) ≡ spread (i - 1)
  next i some within =
      let e : i ≡ suc (i - 1) = omega arith in
      let here : i - 1 < length (keys n t) = rw keys_length (omega (arith, within)) in
      ap (λ (k : ℕ). sets (spread k) ((i - 1) * entry_width) (entry_of x (get_or (keys n t) (i - 1) 0))) e
      ∙ spread_next entry_width (entry_of x) (entry_of-length x s) (keys n t) t enough (i - 1) here

  all : spread 0 ≡ laid_out x (keys n t) ++ drop (n * entry_width) t
  unfolding laid_out
  all = spread_all entry_width (entry_of x) (entry_of-length x s) (keys n t) t enough ∙ rw keys_length

-- the key that is read in a turn of the loop
key_read : (c : After-word_at) → c.word_at.result ≡ get_or (keys c.args.n c.args.table.now) (c.loop-i.i - 1) 0
key_read c =
    rw c.loop-i.invariant at c.word_at.ensures
    ∙ kept c.args.n c.args.radix c.args.table.now c.requires.1 c.requires.0 c.loop-i.i c.loop-i-test.true c.loop-i.auto.i

pub loop-i-init : goal.loop-i-init
loop-i-init c = none c.args.n c.args.radix c.args.table.now c.requires.1 c.requires.0

pub position-requires : goal.position-requires
position-requires c =
    let i = c.loop-i.i - 1 in
    let within : i < c.args.n = omega arith in
    (c.requires.1, rw (key_read c, keys-at c.args.n c.args.table.now i within) (c.requires.2 i within))

pub loop-i-preserved : goal.loop-i-preserved
loop-i-preserved c =
    rw (c.put_row.ensures, c.position.ensures, key_read (goal.at.loop-i-preserved c).After-word_at, c.loop-i.invariant)
    (next c.args.n c.args.radix c.args.table.now c.requires.1 c.requires.0 c.loop-i.i c.loop-i-test.true c.loop-i.auto.i)

pub returns : goal.returns
returns c =
    let last : c.loop-i.i ≡ 0 = omega arith in
    rw last at c.loop-i.invariant ∙ all c.args.n c.args.radix c.args.table.now c.requires.1 c.requires.0
