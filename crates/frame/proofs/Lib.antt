-- What the reader's proofs share.
pub mod Lines
pub mod Numbers
pub mod Here
pub mod Turn
pub mod Places
pub mod Reading
pub mod Outs
pub mod Handing
pub mod Determined
