pub mod AnswerLaws
pub mod AskLaws
pub mod HoldsLaws
pub mod PartLaws
