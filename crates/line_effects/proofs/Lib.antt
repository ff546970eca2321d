pub mod EffectFacts
pub mod MadeFacts
pub mod MoveFacts
pub mod MovingFacts
pub mod HomesFacts
pub mod PointWrites
pub mod Public
