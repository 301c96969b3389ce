-- What the proofs of a replay share.
pub mod ChangeLaws
pub mod CallLaws
pub mod RunLaws
