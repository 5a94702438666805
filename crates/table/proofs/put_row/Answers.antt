-- A position's bytes, and then the word of its rounds.
use Rattle.std.proofs.Common.{◌≡◌, ℕ, ◌+◌, ◌*◌, length, sym, ap, rules}
use Rattle.fra.specs.Position.{bytes}
use Rattle.fra_laws.proofs.FixedWidth.{sets_append}
use Rattle.outcome.specs.Bytes.{word, all_ones}
use Rattle.listing.specs.Widths.{entry_width}
use Rattle.listing.proofs.PositionNumbers.{bytes-length}
use Rattle.table_laws.specs.Table.{row}
use Rattle.table.proofs.put_row.Goals as goal

pub returns : goal.returns
unfolding row word
returns c =
    let p = c.args.p in
    let at = c.args.i * entry_width in
    let six : length p.partners ≡ 6 = search rules in
    let place = ap (λ (k : ℕ). at + k) (bytes-length p six) in
    rw (c.put_word.ensures, c.put_position.ensures, ← place) (sym (sets_append c.args.table.now at (bytes p) (word all_ones)))
