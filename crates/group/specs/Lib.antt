-- A group of units at work, and what is promised of it.
pub mod Runs
pub mod Causality
pub mod Demand
