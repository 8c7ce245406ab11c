pub mod Repeat
pub mod Requests
pub mod Operates
