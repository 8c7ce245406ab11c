pub mod RuleLaws
pub mod KeptLaws
pub mod CallLaws
pub mod BodyLaws
pub mod LineLaws
pub mod Cuts
pub mod Examples
