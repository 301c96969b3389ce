-- Laws that the proofs of the functions cite, and what an arrival and a send mean in the rules.
pub mod AckLaws
pub mod ArrivalMeans
pub mod ChecksLook
pub mod DataLook
pub mod DataMeans
pub mod Determined
pub mod PassedLaws
pub mod PlaceLook
pub mod RangeLaws
pub mod RequestMeans
pub mod RowLook
pub mod SendingMeans
