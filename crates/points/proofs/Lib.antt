pub mod Identity
pub mod Largest
pub mod ScaleLaws
pub mod WholeLaws
pub mod StdLaws
pub mod SumLaws
pub mod PointLaws
pub mod Examples
