-- Document 01 as definitions: what a reader must believe.
pub mod Maps
pub mod Bytes
pub mod Fields
pub mod Message
pub mod Lawful
pub mod State
pub mod Steps
pub mod Sound
pub mod Calls
pub mod Looks
pub mod Demand1
