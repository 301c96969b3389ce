-- What the reader's contracts say, over the rules.
pub mod Table
pub mod Field
pub mod Reader
pub mod Acks
pub mod Frame
pub mod Export
