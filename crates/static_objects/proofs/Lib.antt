pub mod StaticLaws
pub mod RunWriting
pub mod HeaderLaws
pub mod Examples
pub mod AloneLaws
pub mod AnalogRuns
