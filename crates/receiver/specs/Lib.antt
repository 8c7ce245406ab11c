pub mod Receiver
pub mod Line
