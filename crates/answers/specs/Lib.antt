-- Refusals and their numbers.
pub mod Answers
