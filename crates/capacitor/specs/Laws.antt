pub mod Answered
pub mod FromCalls
pub mod PowerCalls
pub mod LivesInWords
pub mod OneLoss
pub mod EngineNow
