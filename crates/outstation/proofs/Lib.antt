pub mod ReadLaws
pub mod SetupLaws
pub mod StepLaws
pub mod HeadLaws
