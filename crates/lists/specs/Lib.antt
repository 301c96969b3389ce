-- What the functions on the order of places give, exactly.
pub mod Order
pub mod Settle
pub mod View
