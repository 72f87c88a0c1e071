pub mod Begun
pub mod Loss
pub mod Capacitor
pub mod Proved
pub mod InParts
pub mod Finish
pub mod FinishProved
pub mod Laws
