-- Laws of refusals and their numbers.
pub mod AnswersLaws
