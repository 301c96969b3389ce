-- What the functions that store and keep messages do to a unit's numbers and arrays, exactly.
pub mod Arrays
pub mod Fits
pub mod Store
