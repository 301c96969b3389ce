-- What the calls on a unit give, exactly, and what that means in the rules.
pub mod CallContracts
pub mod Demand1
pub mod Exact
pub mod View
