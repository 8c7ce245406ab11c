pub mod Outcome
pub mod Lists
pub mod Limits
pub mod First
