-- The records of a certificate by their places in its bytes, and what is answered to them.
pub mod CertificateRecords
pub mod CheckAnswers
