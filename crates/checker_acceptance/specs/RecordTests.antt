-- What the tests of a certificate's records rely on, and what a record of a lost position claims.
use Rattle.std.specs.Prelude.{ℕ, ◌≡◌, List, length}
use Rattle.outcome.specs.Certificate.{Loss}
use Rattle.outcome.specs.declared.Standing.{Standing}
use Rattle.listing.specs.Listing.{Searchable}
use Rattle.game_index.specs.Writing.{Index}
use Rattle.game_state_pairs.specs.StatePairs.{all_pairs}
use Rattle.checker_laws.specs.CertificateRecords.{records_of}
use Rattle.checker_acceptance.specs.declared.Claim.{Claim}

-- positions can be looked up in the certificate's records, whatever their pair of states
pub record Testable (s : Standing) (b l pairs : List ℕ) : Type 0 where
  pub index : Index b
  pub searchable : Searchable (records_of s (length l)) l
  pub every : pairs ≡ all_pairs

-- what a record of a lost position claims, as the definitions have it
abbrev pub loss_of : Claim → Loss
loss_of x = record { position = x.position; side = x.side; edge = x.edge; case = x.case; rounds = x.rounds }
