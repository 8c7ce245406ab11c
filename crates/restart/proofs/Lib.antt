pub mod StoringLaws
pub mod SetupLaws
pub mod RestartFacts
