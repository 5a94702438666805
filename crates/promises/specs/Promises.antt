-- What Nuldopa promises, in the order of the demands: each field below is a promise, with its sentence before it. They are
-- stated for a game with its two verdicts (`Contest`), on what a call returns (its numbers) and on what
-- it leaves in the bytes that it was lent. proofs/Kept.antt shows that they hold of `equality` (EQUAL and DIFFER) and of `one_way`
-- (FOLLOWS and FALLS SHORT), the comparisons that the library makes, and that the functions which people call end on every input
-- and return what is named here. `BufferSizes` says how much to lend them, and `BothComparisons` at the end how the two comparisons
-- go together.
use Rattle.std.specs.Prelude.{ℕ, ◌*◌, ◌-◌, ◌/◌, ◌≤◌, ◌<◌, ◌≡◌, ◌⊎◌, ◌↔◌, ◌≢◌, true, List, ◌∷◌, length, take}
use Rattle.fra.specs.Lists.{◌∈◌, Unique}
use Rattle.fra.specs.Game.{lost_within, NeverLost, EverLost, Bisimulation}
use Rattle.fra.specs.Reach.{Reached}
use Rattle.fra.specs.Exchange.{exchanged}
use Rattle.fra.specs.declared.Position.{Position}
use Rattle.fra.specs.declared.Task.{Task}
use Rattle.task.specs.TaskFile.{read_task, task_of, refusal_of, IsRead, max_registers}
use Rattle.task.specs.TaskBytes.{encode_task, Writable}
use Rattle.task.specs.Records.{TurnedBack}
use Rattle.task.specs.ExchangedFile.{exchanged_file}
use Rattle.outcome.specs.Bytes.{Byte, values, cleared, then_zeros, then_rest}
use Rattle.outcome.specs.Verdicts.{Contest, equality, one_way, Values, kind_of, values_of, checked_values_of, number_and_zeros}
use Rattle.outcome.specs.Compare.{compare}
use Rattle.outcome.specs.Check.{check}
use Rattle.outcome.specs.Conditions.{Accepts}
use Rattle.outcome.specs.Listed.{Counted, TableHolds, KeptWritten, LossesWritten}
use Rattle.outcome.specs.Refusals.{ComparerRefuses, CheckerRefuses}
use Rattle.outcome.specs.declared.Verdict.{Verdict}
use Rattle.outcome.specs.declared.Verdict.TheVariants.{Equal, Differ, Follows, FallsShort}
use Rattle.numbers.specs.Numbers.{Setting, IsSetting, Opening, Choice, Reply, after_reply, Enough, LeastEnough}

-- ── What is spoken of ──

-- the numbers that a comparison returns
abbrev pub returned : Contest → List ℕ → List ℕ → List ℕ → Values
returned c file table buffer = values_of (compare c file table buffer).answer

-- the certificate that it leaves: as many bytes as it returns, from the buffer's start
abbrev pub certificate_left : Contest → List ℕ → List ℕ → List ℕ → List ℕ
certificate_left c file table buffer = take (returned c file table buffer).length (compare c file table buffer).certificate

-- the numbers that a check returns
abbrev pub returned_by_check : Contest → List ℕ → List ℕ → Values
returned_by_check c file certificate = checked_values_of (check c file certificate)

-- a call returns this verdict
abbrev pub Gives : Verdict → Values → Type 0
Gives v r = (r.refusal ≡ 0) × (r.verdict ≡ kind_of v)

-- ── Demand 1: "A verdict with its certificate, or one of the numbered refusals, comes back from every call on every input. Each
-- refusal is given in the case named for it, and in no other. What it returns and what the lent table and certificate buffer then
-- hold is fixed." ──

pub record Demand1 (c : Contest) : Type 0 where
  -- A file is turned back with n exactly in the case that is named for n.
  pub reader_refuses-exactly : (file : List ℕ) (n : ℕ) → 0 < n → (refusal_of (read_task file) ≡ n) ↔ TurnedBack n file
  -- A file is read as a task exactly if it is the task's bytes and the task is one that a file can hold.
  pub reader_reads_exactly : (file : List ℕ) (t : Task) → (IsRead file × (task_of file ≡ t)) ↔ ((file ≡ encode_task t) × Writable t)
  -- Every comparison gives one of its two verdicts or a refusal.
  pub comparer_answers : (file table buffer : List ℕ)
      → Gives c.kept (returned c file table buffer)
      ⊎ Gives c.lost (returned c file table buffer)
      ⊎ (0 < (returned c file table buffer).refusal)
  -- It is refused with n exactly in the case that is named for n.
  pub comparer_refuses-exactly : (file table buffer : List ℕ) (n : ℕ) → 0 < n
      → ((returned c file table buffer).refusal ≡ n) ↔ ComparerRefuses c file table buffer n
  -- A refusal returns its number and zeros.
  pub comparer_refusal_returns : (file table buffer : List ℕ) (n : ℕ) → 0 < n → (returned c file table buffer).refusal ≡ n
      → returned c file table buffer ≡ number_and_zeros n
  -- A file that is turned back changes no buffer.
  pub early_refusal_leaves : (file table buffer : List ℕ) (n : ℕ) → TurnedBack n file
      → ((compare c file table buffer).table ≡ table) × ((compare c file table buffer).certificate ≡ buffer)
  -- A refusal of a file that is read fills the table with zeros and leaves the certificate buffer.
  pub late_refusal_leaves : (file table buffer : List ℕ) → IsRead file → 0 < (returned c file table buffer).refusal
      → ((compare c file table buffer).table ≡ cleared table) × ((compare c file table buffer).certificate ≡ buffer)
  -- A verdict returns the number of positions reached.
  pub verdict_counts : (file table buffer : List ℕ) → (returned c file table buffer).refusal ≡ 0
      → Counted (Reached c.rules (task_of file)) (returned c file table buffer).positions
  -- It leaves the positions reached in the table, rising, each with the least rounds within which it is lost, or FF FF FF FF
  -- where it is never lost; then zeros.
  pub verdict_leaves_the_table : (file table buffer : List ℕ) → (returned c file table buffer).refusal ≡ 0
      → (written : List ℕ) × TableHolds c.rules (task_of file) written
      × ((compare c file table buffer).table ≡ then_zeros written table)
  -- The kept verdict has rounds 0, and leaves the reached positions never lost in the buffer, whose rest is unchanged.
  pub kept-verdict_leaves_a-certificate : (file table buffer : List ℕ) → Gives c.kept (returned c file table buffer)
      → ((returned c file table buffer).rounds ≡ 0)
      × (written : List ℕ) × KeptWritten c (task_of file) written
      × ((returned c file table buffer).length ≡ length written)
      × ((compare c file table buffer).certificate ≡ then_rest written buffer)
  -- The lost verdict leaves the start and what its attacks lead to, each with the first attack whose replies are all lost in
  -- fewer rounds.
  pub lost-verdict_leaves_a-certificate : (file table buffer : List ℕ) → Gives c.lost (returned c file table buffer)
      → (written : List ℕ) × LossesWritten c (task_of file) written
      × ((returned c file table buffer).length ≡ length written)
      × ((compare c file table buffer).certificate ≡ then_rest written buffer)
  -- These sentences fix the bytes: no others meet them.
  pub table_is_fixed : (t : Task) (one two : List ℕ) → TableHolds c.rules t one → TableHolds c.rules t two → one ≡ two
  pub kept-certificate_is_fixed : (t : Task) (one two : List ℕ) → KeptWritten c t one → KeptWritten c t two → one ≡ two
  pub lost-certificate_is_fixed : (t : Task) (one two : List ℕ) → LossesWritten c t one → LossesWritten c t two → one ≡ two
  -- Every check gives one of the two verdicts or a refusal.
  pub checker_answers : (file : List ℕ) (certificate : List Byte)
      → Gives c.kept (returned_by_check c file (values certificate))
      ⊎ Gives c.lost (returned_by_check c file (values certificate))
      ⊎ (0 < (returned_by_check c file (values certificate)).refusal)
  -- It is refused with n exactly in the case that is named for n.
  pub checker_refuses-exactly : (file : List ℕ) (certificate : List Byte) (n : ℕ) → 0 < n
      → ((returned_by_check c file (values certificate)).refusal ≡ n) ↔ CheckerRefuses c file (values certificate) n
  -- A refusal returns its number and zeros.
  pub checker_refusal_returns : (file certificate : List ℕ) (n : ℕ) → 0 < n → (returned_by_check c file certificate).refusal ≡ n
      → returned_by_check c file certificate ≡ number_and_zeros n

-- ── Demand 2: "EQUAL means that a symbolic bisimulation of the two automata contains the start, and DIFFER means that there is
-- none. The certificate checker accepts a proposed set or attack if it meets the published conditions, whoever wrote it, and only
-- then; the comparer's own certificates are accepted." By the rules of the one-way comparison, `Bisimulation` is a simulation: a
-- set in which each attack of the left side has a reply leading into the set. ──

pub record Demand2 (c : Contest) : Type 1 where
  -- The kept verdict is given where a symbolic bisimulation contains the start.
  pub kept_means_bisimilar : (file table buffer : List ℕ) → Gives c.kept (returned c file table buffer)
      → (R : Position → Type 0) × Bisimulation c.rules max_registers (task_of file) R × R (task_of file).start
  -- The lost verdict is given where none does, whatever set of positions one takes.
  pub lost_means_not_bisimilar : (file table buffer : List ℕ) → Gives c.lost (returned c file table buffer)
      → (R : Position → Type 0) → Bisimulation c.rules max_registers (task_of file) R → R (task_of file).start → ⊥
  -- The checker accepts exactly the bytes of rising lists of legal positions that meet the conditions of their kind.
  pub accepted_exactly : (file : List ℕ) (certificate : List Byte) (v : Verdict) (n : ℕ)
      → (Gives v (returned_by_check c file (values certificate)) × ((returned_by_check c file (values certificate)).rounds ≡ n))
      ↔ (IsRead file × Accepts max_registers c (task_of file) (values certificate) v n)
  -- What it accepts shows that the start is never lost, or that it is lost within the listed rounds.
  pub accepted_shows : (file certificate : List ℕ) (v : Verdict) (n : ℕ)
      → Accepts max_registers c (task_of file) certificate v n
      → ((v ≡ c.kept) × NeverLost c.rules (task_of file) (task_of file).start)
      ⊎ (v ≡ c.lost) × (lost_within c.rules (task_of file) n (task_of file).start ≡ true)
  -- The comparer's own certificate is accepted, with the comparer's verdict and rounds.
  pub own-certificate_accepted : (file table buffer : List ℕ) → (returned c file table buffer).refusal ≡ 0
      → returned_by_check c file (certificate_left c file table buffer)
      ≡ record {
        refusal = 0;
        verdict = (returned c file table buffer).verdict;
        positions = 0;
        rounds = (returned c file table buffer).rounds;
        length = 0;
      }

-- ── Demand 3: "open both models with whatever actual object numbers one likes .. DIFFER in n rounds is given exactly when n is
-- the least count that is enough. EQUAL is given exactly when no count is enough. And n never exceeds the reported count of
-- positions reached." ──

pub record Demand3 (c : Contest) : Type 0 where
  -- A task that is read has an opening.
  pub task-has_an_opening : (file : List ℕ) → IsRead file → (s : Setting) × Opening max_registers (task_of file) s
  -- A round leads from a setting to a setting.
  pub round_leads-to-a-setting : (file : List ℕ) → IsRead file
      → (s : Setting) → IsSetting (task_of file) s
      → (a : Choice c.rules (task_of file) s) (k : ℕ) → Reply c.rules (task_of file) s a k
      → IsSetting (task_of file) (after_reply c.rules (task_of file) s a k)
  -- The lost verdict in n rounds is given exactly where n is the least count that is enough.
  pub lost-exactly : (file table buffer : List ℕ) → (returned c file table buffer).refusal ≡ 0
      → (s : Setting) → Opening max_registers (task_of file) s
      → (n : ℕ) → (Gives c.lost (returned c file table buffer) × ((returned c file table buffer).rounds ≡ n))
      ↔ LeastEnough c.rules (task_of file) n s
  -- The kept verdict is given exactly where no count is enough.
  pub kept-exactly : (file table buffer : List ℕ) → (returned c file table buffer).refusal ≡ 0
      → (s : Setting) → Opening max_registers (task_of file) s
      → Gives c.kept (returned c file table buffer) ↔ ((n : ℕ) → Enough c.rules (task_of file) n s → ⊥)
  -- The rounds never exceed the count of positions reached,
  pub rounds-within-positions : (file table buffer : List ℕ)
      → (returned c file table buffer).rounds ≤ (returned c file table buffer).positions
  -- "01's greatest number of positions now holds for each history size": of one size, no more are reached than 3,411,712.
  pub positions-of-a-size : (file : List ℕ) → IsRead file
      → (size : ℕ) (l : List Position) → Unique l
      → ((p : Position) → p ∈ l → Reached c.rules (task_of file) p × (p.history ≡ size))
      → length l ≤ 3411712
  -- Sizes never fall, and 13 is the greatest: so the count is at most that for each size from the start's on, and 3,411,712 where no
  -- size is stated.
  pub positions-at-most : (file table buffer : List ℕ)
      → (returned c file table buffer).positions ≤ (14 - (task_of file).start.history) * 3411712
  -- An accepted certificate, whoever wrote it, shows that no count is enough, or that the listed rounds are.
  pub accepted_shows_of-numbers : (file : List ℕ) (certificate : List Byte)
      → (s : Setting) → Opening max_registers (task_of file) s
      → (Gives c.kept (returned_by_check c file (values certificate)) → (n : ℕ) → Enough c.rules (task_of file) n s → ⊥)
      × (Gives c.lost (returned_by_check c file (values certificate))
      → Enough c.rules (task_of file) (returned_by_check c file (values certificate)).rounds s)

-- ── How much to lend (02, ticket 3) ──

pub record BufferSizes (c : Contest) : Type 0 where
  -- "a certificate a comparison writes, one-way too, is never longer than 17 bytes for each position reached,
  pub length-at-most : (file table buffer : List ℕ)
      → (returned c file table buffer).length ≤ 17 * (returned c file table buffer).positions
  -- and 10 for EQUAL or FOLLOWS."
  pub kept_length-at-most : (file table buffer : List ℕ) → Gives c.kept (returned c file table buffer)
      → (returned c file table buffer).length ≤ 10 * (returned c file table buffer).positions
  -- "Whoever lends 17 bytes per table entry never meets 12", whatever the file, and however many bytes the table has: an entry has
  -- 13, and fewer at its end make none.
  pub buffer_is_enough : (file table buffer : List ℕ) → 17 * (length table / 13) ≤ length buffer
      → (returned c file table buffer).refusal ≢ 12
  -- Whoever lends as many entries as there can be positions (`positions-at-most`) never meets 11.
  pub table_is_enough : (file table buffer : List ℕ) → (14 - (task_of file).start.history) * 3411712 ≤ length table / 13
      → (returned c file table buffer).refusal ≢ 11
  -- "such a certificate's records of kind 17 or 19 never outnumber the reached positions that are lost": what stands in the buffer
  -- is these records, and n positions are reached and lost, within some count of rounds each.
  pub records-within-lost : (file table buffer : List ℕ) → Gives c.lost (returned c file table buffer)
      → (w : LossesWritten c (task_of file) (certificate_left c file table buffer))
      × (n : ℕ) × Counted (λ p. Reached c.rules (task_of file) p × EverLost c.rules (task_of file) p) n
      × (length w.losses ≤ n)

-- ── All of these, for a game ──

pub record Promises (c : Contest) : Type 1 where
  pub demand_1 : Demand1 c
  pub demand_2 : Demand2 c
  pub demand_3 : Demand3 c
  pub buffer-sizes : BufferSizes c

-- ── Both comparisons of one task (02, ticket 1) ──

pub record BothComparisons : Type 0 where
  -- `exchanged_file` is the file "with the sides exchanged": where a file is read, it is read, as the task with both models
  -- exchanged and the pairs turned round.
  pub exchanged_file_is_read : (file : List ℕ) → IsRead file
      → IsRead (exchanged_file file) × (task_of (exchanged_file file) ≡ exchanged (task_of file))
  -- "EQUAL gives FOLLOWS whichever side attacks, where that one-way comparison is not refused": the left side,
  pub equal_gives_follows : (file table buffer : List ℕ) → Gives Equal (returned equality file table buffer)
      → (table' buffer' : List ℕ) → (returned one_way file table' buffer').refusal ≡ 0
      → Gives Follows (returned one_way file table' buffer')
  -- and the right side, which is the left one of the exchanged file. (A certificate of kind 18 can be longer than that of kind 16,
  -- so that 12 may be met where EQUAL was given.)
  pub equal_gives_follows-exchanged : (file table buffer : List ℕ) → Gives Equal (returned equality file table buffer)
      → (table' buffer' : List ℕ) → (returned one_way (exchanged_file file) table' buffer').refusal ≡ 0
      → Gives Follows (returned one_way (exchanged_file file) table' buffer')
  -- Both reach the same positions, though in one of them only the left side attacks,
  pub same-positions-reached : (file : List ℕ) → IsRead file → (p : Position)
      → Reached equality.rules (task_of file) p ↔ Reached one_way.rules (task_of file) p
  -- and so a table is too small for both or for none.
  pub table_too_small_alike : (file table buffer : List ℕ)
      → ((returned equality file table buffer).refusal ≡ 11) ↔ ((returned one_way file table buffer).refusal ≡ 11)
  -- "each check turns the other's kinds back with 13"
  pub other_kinds_turned_back : (file rest : List ℕ) → IsRead file
      → ((returned_by_check equality file (kind_of Follows ∷ rest)).refusal ≡ 13)
      × ((returned_by_check equality file (kind_of FallsShort ∷ rest)).refusal ≡ 13)
      × ((returned_by_check one_way file (kind_of Equal ∷ rest)).refusal ≡ 13)
      × ((returned_by_check one_way file (kind_of Differ ∷ rest)).refusal ≡ 13)
