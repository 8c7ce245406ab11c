pub mod BufferLaws
pub mod CarryLaws
pub mod SeenLaws
pub mod EventKindLaws
