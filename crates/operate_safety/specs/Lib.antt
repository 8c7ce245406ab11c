pub mod Operated
pub mod Operable
