-- Laws that the proofs of the functions cite.
pub mod AcceptedLook
pub mod CoreLaws
pub mod Determined
pub mod DownLaws
pub mod KeepingLook
pub mod RowLaws
pub mod RunLaws
pub mod SettledLook
pub mod StoredLook
pub mod Supplied
pub mod TakenLaws
