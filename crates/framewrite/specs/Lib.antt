-- What the writer's contracts say, over the rules.
pub mod Field
pub mod Fields
pub mod Writing
