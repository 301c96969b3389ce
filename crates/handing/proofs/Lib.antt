-- Laws that the proofs of the functions cite, and what the functions mean in the rules.
pub mod AskingLaws
pub mod AskingMeans
pub mod CopyingMeans
pub mod Determined
pub mod LooksMean
pub mod PartLaws
pub mod TakingLaws
pub mod TakingMeans
