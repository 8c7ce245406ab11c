pub mod AskLaws
pub mod ResponseLaws
pub mod Examples
