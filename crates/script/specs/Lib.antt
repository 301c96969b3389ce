-- The bench's language (01, "Bench program and cases") as definitions: what a reader must believe.
pub mod Lines
pub mod Items
pub mod Desk
pub mod Print
pub mod Script
pub mod Reader
pub mod Shown
pub mod Gathered
pub mod Written
