-- What the contracts of a run say.
pub mod Run
