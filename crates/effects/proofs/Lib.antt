pub mod EffectLaws
