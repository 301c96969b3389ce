-- What the contracts of the rounds say.
pub mod Rounds
