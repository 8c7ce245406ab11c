pub mod ObjectLaws
pub mod FormLaws
pub mod StatusLaws
pub mod OperableLaws
pub mod Examples
