-- Laws of a proposed certificate by the places of its records, for the proofs of the functions.
pub mod RecordBodies
pub mod CertificateForm
pub mod CheckAnswers
pub mod LookedUp
pub mod LossConditions
