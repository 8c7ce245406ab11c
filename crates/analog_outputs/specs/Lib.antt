pub mod Output
pub mod OutputWords
