-- What is proved of the definitions.
pub mod LinesLaws
pub mod ItemsLaws
pub mod CommandLaws
pub mod ShownLaws
pub mod GatheredLaws
pub mod PrintLaws
pub mod WrittenLaws
pub mod HeldLaws
pub mod SaidLaws
pub mod ReaderLaws
pub mod Determined
pub mod Cases
