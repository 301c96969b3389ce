-- What the functions on rows and tables give.
pub mod Rows
