pub mod Scaling
pub mod Gate
pub mod Reading
pub mod Setup
pub mod Kept
pub mod PointsView
