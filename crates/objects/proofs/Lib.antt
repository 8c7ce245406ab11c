pub mod RunLaws
pub mod WriterLaws
pub mod ValueLaws
