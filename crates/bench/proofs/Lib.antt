-- The laws of the bench program.
pub mod PrintLaws
pub mod StartLaws
pub mod DeskLaws
pub mod LengthLaws
pub mod ActLaws
pub mod NamesLaws
pub mod ReadLaws
pub mod FeedLaws
pub mod LineLaws
pub mod RunLaws
pub mod Determined
