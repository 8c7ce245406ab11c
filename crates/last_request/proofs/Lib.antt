pub mod ReplyLaws
pub mod Controls
pub mod Examples
