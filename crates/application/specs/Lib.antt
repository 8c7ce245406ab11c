pub mod Fragment
pub mod Response
