-- Laws that the proofs of the functions cite, and what the functions mean in the rules.
pub mod CheckedLaws
pub mod Determined
pub mod EveryLaws
pub mod LookLaws
pub mod MarkLaws
pub mod OpeningLaws
pub mod PlaceLaws
pub mod RoomLaws
pub mod SoundLaws
pub mod UnitsLaws
