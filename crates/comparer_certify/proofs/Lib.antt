-- Lemmas that the proofs of the functions share.
pub mod RecordParts
pub mod FittingBuffers
pub mod RankedCertificates
