-- What the calls on a unit mean, that they keep it sound, and that their contracts allow one result.
pub mod Demand1Laws
pub mod Determined
pub mod Means
pub mod Shape
pub mod Writing
