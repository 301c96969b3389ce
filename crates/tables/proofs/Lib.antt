-- Laws that the proofs of the functions cite.
pub mod EveryLaws
pub mod FillLaws
pub mod GridLaws
pub mod ListedLaws
pub mod PutLaws
pub mod RowLaws
