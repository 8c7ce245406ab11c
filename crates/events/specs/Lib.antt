pub mod Placing
pub mod BufferView
