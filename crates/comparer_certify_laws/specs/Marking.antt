-- Marks in a table: those entries that are found and whose bytes are changed, one after another.
use Rattle.std.specs.Prelude.{ℕ, zero, suc, ◌+◌, ◌*◌, Bool, cond, List, [], ◌∷◌, eqb, Option, None, Some}
use Rattle.fra.specs.Rules.{Rules}
use Rattle.fra.specs.declared.Position.{Position}
use Rattle.fra.specs.declared.Task.{Task}
use Rattle.fra.specs.declared.Attack.{Attack}
use Rattle.outcome.specs.Bytes.{all_ones}
use Rattle.outcome.specs.Certificate.{attack_leads}
use Rattle.listing.specs.Widths.{entry_width, entry_rounds}
use Rattle.listing.specs.Words.{put_word}
use Rattle.listing.specs.Listing.{of_table, position_at, rounds_at, positions_in}
use Rattle.listing.specs.Lookup.{place_of}
use Rattle.game_replies.specs.Winner.{winner}
use Rattle.game_wins.specs.Judgement.{judged}
use Rattle.game_wins.specs.declared.Test.TheVariants.{Sooner}
use Rattle.comparer_certify_laws.specs.MarkedRounds.{doubled, with_mark}

-- ── The rounds of entries ──

-- those of entry i, of however many there are
abbrev pub rounds_of : List ℕ → ℕ → ℕ
rounds_of table i = rounds_at (of_table (suc i)) table i

-- a function is applied to the rounds of entry i
abbrev pub changed_at : (ℕ → ℕ) → ℕ → List ℕ → List ℕ
changed_at f i table = put_word table (i * entry_width + entry_rounds) (f (rounds_of table i))

-- to those of the first n entries
unfoldable pub changed : (ℕ → ℕ) → ℕ → List ℕ → List ℕ
changed f zero table = table
changed f (suc n) table = changed_at f n (changed f n table)

-- those of a position among the first n entries
abbrev pub rounds_in : List ℕ → Option ℕ → ℕ
rounds_in table (Some i) = rounds_of table i
rounds_in table None = all_ones

unfoldable pub rounds_for : ℕ → Position → List ℕ → ℕ
rounds_for n q table = rounds_in table (place_of q (positions_in (of_table n) table))

-- ── Marks ──

abbrev pub marked_at : List ℕ → Option ℕ → List ℕ
marked_at table (Some i) = changed_at with_mark i table
marked_at table None = table

-- the entry of a position, among the first n, is marked
unfoldable pub marked : ℕ → Position → List ℕ → List ℕ
marked n q table = marked_at table (place_of q (positions_in (of_table n) table))

unfoldable pub marked_all : ℕ → List Position → List ℕ → List ℕ
marked_all n [] table = table
marked_all n (q ∷ qs) table = marked_all n qs (marked n q table)

-- ── Attacks ──

-- the table's judgement: the position stands among the first n entries with fewer rounds than k
abbrev pub lost_before : List ℕ → ℕ → ℕ → Position → Bool
lost_before table n k = judged table (record { records = of_table n; test = Sooner k })

-- the attack of a position of k rounds, by a table in which rounds are doubled
unfoldable pub attack_by : Rules → Task → ℕ → List ℕ → ℕ → Position → Option Attack
attack_by g t n table k p = cond (eqb k 0) None (winner g t (lost_before table n (k * 2)) p)

-- what the attack of entry i, which has k rounds, leads to is marked
unfoldable pub led_from : Rules → Task → ℕ → ℕ → ℕ → List ℕ → List ℕ
led_from g t n k i table =
    let p = position_at (of_table n) table i in
    marked_all n (attack_leads t p (attack_by g t n table k p)) table

-- if the entry has k rounds and a mark
abbrev pub stepped : Rules → Task → ℕ → ℕ → ℕ → List ℕ → List ℕ
stepped g t n k i table = cond (eqb (rounds_of table i) (k * 2 + 1)) (led_from g t n k i table) table

-- for each of the first i entries
unfoldable pub passed : Rules → Task → ℕ → ℕ → ℕ → List ℕ → List ℕ
passed g t n k zero table = table
passed g t n k (suc i) table = stepped g t n k i (passed g t n k i table)

-- for k rounds, k - 1 rounds and so on
unfoldable pub marking : Rules → Task → ℕ → ℕ → List ℕ → List ℕ
marking g t n zero table = table
marking g t n (suc k) table = marking g t n k (passed g t n (suc k) n table)

-- a table of rounds, where the start has k of them, with rounds doubled and the positions of the certificate marked
unfoldable pub prepared : Rules → Task → ℕ → ℕ → List ℕ → List ℕ
prepared g t n k table = marking g t n k (marked n t.start (changed doubled n table))
