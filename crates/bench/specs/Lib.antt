-- What the bench program does, exactly, and what that means in the bench's language.
pub mod Prints
pub mod Desk
pub mod Commands
pub mod Reading
pub mod Runs
