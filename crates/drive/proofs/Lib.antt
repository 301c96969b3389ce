-- What the proofs of a run share.
pub mod Sums
pub mod Taking
pub mod Visits
