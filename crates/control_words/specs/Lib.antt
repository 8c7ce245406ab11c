pub mod Operated
