pub mod Times
pub mod Steps
pub mod Gives
pub mod Apart
pub mod Theorem
pub mod Operable
