-- What an arrival and a send do to a unit's numbers, exactly.
pub mod Arrival
pub mod Checks
pub mod Means
pub mod Sending
