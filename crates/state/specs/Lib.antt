-- What a unit's numbers and arrays show of the rules, and what the functions on them give.
pub mod Changed
pub mod Opening
pub mod Soundness
pub mod View
