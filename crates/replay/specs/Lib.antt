-- What a replay of calls gives, exactly.
pub mod Record
pub mod Kinds
pub mod Changes
pub mod Calls
pub mod Run
