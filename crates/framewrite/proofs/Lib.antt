-- What the writer's proofs share.
pub mod Digits
pub mod Laying
pub mod Rest
pub mod Answers
pub mod Determined
pub mod RoundTrip
